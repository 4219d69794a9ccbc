-- An idle connection wasn't handed out.
use Rattle.std.proofs.Common.{sym, ◌∙◌, ap}
use Rattle.std.specs.List.{position}
use Rattle.gw_pool.specs.State.{rests_since_stamp}
use Rattle.gw_pool.proofs.Edits.{found_passes}
use Rattle.gw_pool.proofs.Shelves.{stamped_has, one_less, none_same}
use Rattle.gw_pool.proofs.machine.Rows.take_oldest.Goals as goal

pub with_conn-requires : goal.with_conn-requires
with_conn-requires g c x e =
    stamped_has g.C.Link.link c.args.self.now.conns.taken x.row x.conn c.in-Some.stamp
    (found_passes (rests_since_stamp c.in-Some.stamp) c.args.self.now.conns.rows x.row
    (sym (rw e at (c.take.ensures.found (rests_since_stamp c.in-Some.stamp) (c.stamped_at-at.ensures ∙ ap (λ l. position (rests_since_stamp c.in-Some.stamp) l) c.rows-in-Some.ensures)))))
    (rw e at c.take.ensures.kept)

pub returns-in-Some-clause-fewer : goal.returns-in-Some-clause-fewer
returns-in-Some-clause-fewer g c =
    let at = c.stamped_at-at.ensures ∙ ap (λ l. position (rests_since_stamp c.in-Some.stamp) l) c.rows-in-Some.ensures in
    one_less (rests_since_stamp c.in-Some.stamp) c.args.self.now.conns.rows c.take.new.self.rows c.with_conn.result
    (c.with_conn.ensures.row ∙ c.take.ensures.found (rests_since_stamp c.in-Some.stamp) at)
    (c.take.ensures.left (rests_since_stamp c.in-Some.stamp) at)

pub returns-in-Some-clause-same : goal.returns-in-Some-clause-same
returns-in-Some-clause-same g c = none_same c.with_conn.result c.take.result _ _ c.with_conn.ensures.row c.take.ensures.none (λ e. rw e)
