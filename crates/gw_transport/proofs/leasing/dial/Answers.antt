use Rattle.gw_transport.proofs.DialLemmas.{dial_done, dialed_served, other_done, unstarted_served}
use Rattle.gw_transport.proofs.FailLemmas.{granted_spent, late_done, spent, unreached_done, waiting_spent}
use Rattle.gw_transport.proofs.leasing.dial.Goals as goal

pub take-requires-clause-served : goal.take-requires-clause-served
take-requires-clause-served g c = λ ks lives. unstarted_served _ _ c.args.ticket c.args.host c.requires.granted c.in-NotGranted.ensures.step

pub returns-in-NotGranted-clause-step : goal.returns-in-NotGranted-clause-step
returns-in-NotGranted-clause-step g c =
    other_done g.W.Conn.Link.link _ _ _ _ c.args.host c.args.addr.now c.args.ticket c.take.result c.requires.fresh c.in-NotGranted.ensures.step c.take.ensures.step

pub take-requires-in-Conn-clause-served : goal.take-requires-in-Conn-clause-served
take-requires-in-Conn-clause-served g c =
    λ ks lives. dialed_served g.W.Conn.Link.link _ _ _ c.args.ticket c.in-Go.token _ _ c.args.host _ c.requires.granted c.in-Go.ensures.step c.dialed-close.ensures.step

pub unreachable-requires : goal.unreachable-requires
unreachable-requires g c =
    granted_spent _ _ c.args.ticket c.in-Granted._ticket c.args.host _ (spent _ _ _ c.args.ticket c.in-Go.token c.args.host c.requires.granted c.in-Go.ensures.step c.dial_failed.ensures.step) c.in-Granted.ensures.step

pub unreachable-requires-in-NotYet : goal.unreachable-requires-in-NotYet
unreachable-requires-in-NotYet g c =
    waiting_spent _ _ c.args.ticket c.in-NotYet._ticket c.args.host _ (spent _ _ _ c.args.ticket c.in-Go.token c.args.host c.requires.granted c.in-Go.ensures.step c.dial_failed.ensures.step) c.in-NotYet.ensures.step

pub returns-in-Conn-clause-step : goal.returns-in-Conn-clause-step
returns-in-Conn-clause-step g c =
    dial_done g.W.Conn.Link.link _ _ _ _ _ _ _ _ c.args.host c.args.addr.now c.args.ticket c.in-Go.token c.in-Conn.conn c.now-now.result c.dialed-close.result c.take-in-Conn.result c.requires.fresh c.requires.granted
    c.in-Go.ensures.step c.in-Conn.ensures c.now-now.ensures c.dialed-close.ensures.step c.close_left.ensures.step c.take-in-Conn.ensures.step

pub returns-in-Taken-clause-step : goal.returns-in-Taken-clause-step
returns-in-Taken-clause-step g c =
    late_done g.W.Conn.Link.link _ _ _ _ _ _ c.args.host c.args.addr.now c.args.ticket c.in-Go.token c.in-Taken.lease c.requires.fresh c.requires.granted c.in-Go.ensures.step c.in-Failed.ensures
    c.dial_failed.ensures.step c.in-Taken.ensures.step

pub returns-in-Failed-ask-clause-step : goal.returns-in-Failed-ask-clause-step
returns-in-Failed-ask-clause-step g c =
    unreached_done g.W.Conn.Link.link _ _ _ _ _ _ c.args.host c.args.addr.now c.args.ticket c.in-Go.token c.requires.fresh c.requires.granted c.in-Go.ensures.step c.in-Failed.ensures
    c.dial_failed.ensures.step c.in-Failed-ask.ensures.step
