use Rattle.gw_transport.proofs.LeaseLemmas.{leased_cancelled, leased_due, leased_expired, leased_full, leased_waited}
use Rattle.gw_transport.proofs.leasing.lease.Goals as goal

pub returns-in-Cancelled-clause-step : goal.returns-in-Cancelled-clause-step
returns-in-Cancelled-clause-step g c =
    leased_cancelled g.W.Conn.Link.link _ _ _ _ _ c.args.host c.args.addr.now c.now-now.result c.requires.looked c.now-now.ensures c.in-Cancelled.ensures.step c.requires.rested

pub returns-in-Late-clause-step : goal.returns-in-Late-clause-step
returns-in-Late-clause-step g c =
    leased_due g.W.Conn.Link.link _ _ _ _ _ c.args.host c.args.addr.now c.now-now.result c.requires.looked c.now-now.ensures c.in-Late.ensures.step c.requires.rested

pub returns-in-Full-clause-step : goal.returns-in-Full-clause-step
returns-in-Full-clause-step g c =
    leased_full g.W.Conn.Link.link _ _ _ _ _ _ _ c.args.host c.args.addr.now c.now-now.result c.requires.looked c.now-now.ensures c.in-On.ensures.step c.in-Full.ensures.step

pub returns-in-Late-want-clause-step : goal.returns-in-Late-want-clause-step
returns-in-Late-want-clause-step g c =
    leased_expired g.W.Conn.Link.link _ _ _ _ _ _ _ c.args.host c.args.addr.now c.now-now.result c.requires.looked c.now-now.ensures c.in-On.ensures.step c.in-Late-want.ensures.step

pub returns-in-Ticket-clause-step : goal.returns-in-Ticket-clause-step
returns-in-Ticket-clause-step g c =
    leased_waited g.W.Conn.Link.link _ _ _ _ _ _ _ _ _ _ c.args.host c.args.addr.now c.now-now.result c.in-Ticket.ticket c.wait.result c.requires.looked c.now-now.ensures c.in-On.ensures.step
    c.in-Ticket.ensures.step (c.wait.ensures.step c.in-Ticket.ensures.step.answer c.in-Ticket.ensures.step.left)
