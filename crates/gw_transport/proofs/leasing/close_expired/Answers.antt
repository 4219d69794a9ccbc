use Rattle.gw_transport.proofs.WantLemmas.{expired_done}
use Rattle.gw_transport.proofs.leasing.close_expired.Goals as goal

pub returns-clause-step : goal.returns-clause-step
returns-clause-step g c =
    expired_done g.W.Conn.Link.link _ _ _ _ c.args.now c.expire-left.result c.requires.fresh c.requires.read c.requires.rested c.expire-left.ensures.step c.close_left.ensures.step
