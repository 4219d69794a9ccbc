use Rattle.gw_transport.proofs.EndLemmas.{gave_up_done}
use Rattle.gw_transport.proofs.leasing.give_up.Goals as goal

pub returns-clause-step : goal.returns-clause-step
returns-clause-step g c =
    gave_up_done g.W.Conn.Link.link _ _ _ _ c.args.ticket c.args.now c.requires.coming.0 c.cancel-close.result c.requires.fresh c.requires.read c.requires.coming.1 c.cancel-close.ensures.step c.close_left.ensures.step
