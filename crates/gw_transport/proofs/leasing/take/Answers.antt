use Rattle.gw_transport.proofs.CallLemmas.{failed_not_served, granted_not_served, taken_done, waiting_not_served}
use Rattle.gw_transport.proofs.leasing.take.Goals as goal

pub unreachable-requires : goal.unreachable-requires
unreachable-requires g c = granted_not_served _ _ c.args.ticket c.in-Granted._ticket c.args.host c.requires.served c.in-Granted.ensures.step

pub unreachable-requires-in-NotYet : goal.unreachable-requires-in-NotYet
unreachable-requires-in-NotYet g c = waiting_not_served _ _ c.args.ticket c.in-NotYet._ticket c.args.host c.requires.served c.in-NotYet.ensures.step

pub unreachable-requires-in-Failed : goal.unreachable-requires-in-Failed
unreachable-requires-in-Failed g c = failed_not_served _ _ c.args.ticket c.args.host c.requires.served c.in-Failed.ensures.step

pub returns-clause-step : goal.returns-clause-step
returns-clause-step g c = taken_done g.W.Conn.Link.link _ _ c.args.ticket c.in-Taken.lease _ c.requires.served c.in-Taken.ensures.step
