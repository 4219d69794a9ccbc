use Rattle.std.proofs.Common.{◌∙◌, refl, arith}
use Rattle.gw_transport.proofs.RestLemmas.{may_cancel, waited_cancelled, waited_due, waited_dialed, waited_out, waited_taken, waiting_begins, waiting_more}
use Rattle.gw_transport.proofs.WaitLemmas.{granted_pending, never_over}
use Rattle.gw_transport.proofs.leasing.wait.Goals as goal

pub loop-rest-init : goal.loop-rest-init
loop-rest-init g c = (λ answer asked. waiting_begins _ _ _ c.args.host answer c.args.ticket c.args.now c.requires.fresh c.requires.read c.requires.looked asked, refl, refl)

pub returns-in-Taken-clause-step : goal.returns-in-Taken-clause-step
returns-in-Taken-clause-step g c =
    λ answer asked.
    waited_taken g.W.Conn.Link.link _ _ _ _ _ _ _ c.args.host c.args.addr.now c.args.ticket.want answer c.loop-rest.held c.loop-rest.now c.loop-rest._rest c.in-Taken.lease
    (c.loop-rest.invariant.0 answer asked) c.in-Taken.ensures.step

pub dial-requires-clause-granted : goal.dial-requires-clause-granted
dial-requires-clause-granted g c =
    λ ks lives. granted_pending _ _ c.loop-rest.held c.in-Granted.back c.args.host c.requires.made.0 (c.loop-rest.invariant.0 c.requires.made.0 c.requires.made.1).asked c.in-Granted.ensures.step

pub returns-in-Granted-clause-step : goal.returns-in-Granted-clause-step
returns-in-Granted-clause-step g c =
    λ answer asked.
    waited_dialed g.W.Conn.Link.link _ _ _ _ _ _ _ _ _ c.args.host c.args.addr.now c.args.ticket.want answer c.loop-rest.held c.in-Granted.back c.loop-rest.now c.loop-rest._rest c.dial.result
    (c.loop-rest.invariant.0 answer asked) c.in-Granted.ensures.step c.dial.ensures.step

pub unreachable-requires : goal.unreachable-requires
unreachable-requires g c = never_over _ _ c.loop-rest.held c.args.host c.requires.made.0 (c.loop-rest.invariant.0 c.requires.made.0 c.requires.made.1).asked c.in-Failed.ensures.step

pub give_up-requires-clause-coming : goal.give_up-requires-clause-coming
give_up-requires-clause-coming g c =
    λ ks lives. may_cancel _ _ c.args.host c.requires.made.0 c.loop-rest.held c.in-NotYet.back (c.loop-rest.invariant.0 c.requires.made.0 c.requires.made.1).asked c.in-NotYet.ensures.step

pub returns-in-Cancelled-clause-step : goal.returns-in-Cancelled-clause-step
returns-in-Cancelled-clause-step g c =
    λ answer asked.
    waited_cancelled g.W.Conn.Link.link _ _ _ _ _ _ _ _ _ _ c.args.host c.args.addr.now c.args.ticket.want answer c.loop-rest.held c.in-NotYet.back c.loop-rest.now c.loop-rest._rest
    (c.loop-rest.invariant.0 answer asked) c.in-NotYet.ensures.step c.in-Cancelled.ensures.step c.give_up.ensures.step

pub give_up-requires-in-Late-clause-coming : goal.give_up-requires-in-Late-clause-coming
give_up-requires-in-Late-clause-coming g c =
    λ ks lives. may_cancel _ _ c.args.host c.requires.made.0 c.loop-rest.held c.in-NotYet.back (c.loop-rest.invariant.0 c.requires.made.0 c.requires.made.1).asked c.in-NotYet.ensures.step

pub returns-in-Late-clause-step : goal.returns-in-Late-clause-step
returns-in-Late-clause-step g c =
    λ answer asked.
    waited_due g.W.Conn.Link.link _ _ _ _ _ _ _ _ _ _ c.args.host c.args.addr.now c.args.ticket.want answer c.loop-rest.held c.in-NotYet.back c.loop-rest.now c.loop-rest._rest
    (c.loop-rest.invariant.0 answer asked) c.in-NotYet.ensures.step c.in-Late.ensures.step c.give_up-in-Late.ensures.step

pub loop-rest-preserved : goal.loop-rest-preserved
loop-rest-preserved g c = (
  λ answer asked.
      waiting_more _ _ _ _ _ _ _ _ _ _ c.args.host c.args.ticket.want answer c.loop-rest.held c.in-NotYet.back c.loop-rest.now c.now-now.result c.loop-rest._rest
      (c.loop-rest.invariant.0 answer asked) c.in-NotYet.ensures.step c.in-On.ensures.step c.rest.ensures c.now-now.ensures,
  c.in-NotYet.ensures.stays ∙ c.loop-rest.invariant.1,
  c.in-On.ensures.stays ∙ c.loop-rest.invariant.2,
)

pub returns-clause-step : goal.returns-clause-step
returns-clause-step g c =
    λ answer asked.
    waited_out g.W.Conn.Link.link _ _ _ _ _ _ _ _ c.args.host c.args.addr.now c.args.ticket.want answer c.loop-rest.held c.loop-rest.now c.loop-rest._rest
    (omega (arith, c.loop-rest-test.false, c.loop-rest.auto._rest-end)) (c.loop-rest.invariant.0 answer asked) c.give_up-2.ensures.step
