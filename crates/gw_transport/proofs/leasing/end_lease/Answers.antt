use Rattle.gw_transport.proofs.EndLemmas.{dropped_done, returned_done}
use Rattle.gw_transport.proofs.leasing.end_lease.Goals as goal

pub returns-then-reusable-clause-step : goal.returns-then-reusable-clause-step
returns-then-reusable-clause-step g c =
    rw (c.if-reusable.true) (returned_done g.W.Conn.Link.link _ _ _ _ _ c.args.lease c.now-now.result c.give_back-close.result c.requires.leased c.now-now.ensures c.give_back-close.ensures.step c.close_left.ensures.step)

pub returns-else-reusable-clause-step : goal.returns-else-reusable-clause-step
returns-else-reusable-clause-step g c =
    rw (c.if-reusable.false) (dropped_done g.W.Conn.Link.link _ _ _ _ c.args.lease c.drop_conn-gone.result c.requires.fresh c.requires.leased c.drop_conn-gone.ensures.step c.drop_conn-gone.ensures.conn c.close.ensures)
