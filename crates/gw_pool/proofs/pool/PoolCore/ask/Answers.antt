-- The connection that is out to the want is handed out.
use Rattle.std.proofs.Common.{sym}
use Rattle.gw_pool.specs.Rows.{state_of}
use Rattle.gw_pool.proofs.pool.PoolCore.ask.Goals as goal
use Rattle.std.proofs.Common.{refl}
use Rattle.gw_pool.proofs.Standings.{served, with_not_lent, kept_there}

pub unreachable-requires : goal.unreachable-requires
unreachable-requires g c =
    kept_there g.C.Link.link c.self.inside.rows.conns.taken c.in-Some.field-0.row c.in-Some.field-0.conn (rw c.in-Some.is at c.lend.ensures.kept)
    (with_not_lent c.self.inside.rows.conns.taken c.self.inside.rows.conns.rows c.args.want c.in-Some.field-0.row (sym (rw c.in-Some.is at c.lend.ensures.found)) (rw (← c.self.view_is) at c.requires))
    c.in-None.is

pub returns-in-Some : goal.returns-in-Some
returns-in-Some g c = record {
  row = c.in-Some.field-0.row;
  stands = rw (← c.self.view_is, ← c.self.invariant.state) (served (state_of c.self.inside.rows) c.args.want c.in-Some.field-0.row (sym (rw c.in-Some.is at c.lend.ensures.found)));
  is_conn = let kept = rw c.in-Some.is at c.lend.ensures.kept in rw c.in-Some-conn.is at kept;
  is_no = refl;
  is_reused = refl;
  is_host = refl;
  limits = rw (← c.self.view_is);
  journal = rw (← c.self.view_is);
  taken = rw (← c.self.view_is) c.lend.ensures.taken;
}
