use Rattle.gw_transport.proofs.CallLemmas.{left_none, left_some}
use Rattle.gw_transport.proofs.leasing.close_left.Goals as goal

pub returns-in-Some : goal.returns-in-Some
returns-in-Some g c = rw (c.in-Some.is) (record { step = left_some g.W.Conn.Link.link _ _ c.in-Some.conn c.requires.fresh c.close.ensures })

pub returns-in_default : goal.returns-in_default
returns-in_default g c = rw (c.in_default.is) (record { step = left_none g.W.Conn.Link.link _ c.requires.fresh })
