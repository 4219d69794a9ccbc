-- An idle connection wasn't handed out.
use Rattle.std.proofs.Common.{sym, ◌∙◌, ap}
use Rattle.std.specs.List.{position}
use Rattle.gw_pool.specs.State.{rests_for_since_stamp}
use Rattle.gw_pool.proofs.Edits.{found_passes}
use Rattle.gw_pool.proofs.Shelves.{stamped_for_has}
use Rattle.gw_pool.proofs.machine.Rows.take_newest.Goals as goal

pub with_conn-requires : goal.with_conn-requires
with_conn-requires g c x e =
    stamped_for_has g.C.Link.link c.args.self.now.conns.taken x.row x.conn c.args.host c.in-Some.stamp
    (found_passes (rests_for_since_stamp c.args.host c.in-Some.stamp) c.args.self.now.conns.rows x.row
    (sym (rw e at (c.take.ensures.found (rests_for_since_stamp c.args.host c.in-Some.stamp) (c.stamped_for_at-at.ensures ∙ ap (λ l. position (rests_for_since_stamp c.args.host c.in-Some.stamp) l) c.rows-in-Some.ensures)))))
    (rw e at c.take.ensures.kept)
