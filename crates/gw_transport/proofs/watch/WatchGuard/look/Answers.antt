use Rattle.std.proofs.Common.{sym}
use Rattle.gw_transport.proofs.WatchLemmas.{ended_due, found_rose, least_kept, live_before, look_goes}
use Rattle.gw_transport.proofs.watch.WatchGuard.look.Goals as goal

pub invariant_of-self-clause-least : goal.invariant_of-self-clause-least
invariant_of-self-clause-least c = least_kept c.args.now c.args.self.now.tree.now c.advance.new.self c.args.self.now.node c.advance.ensures c.args.self.now.least

pub returns-in-Ended-clause-step : goal.returns-in-Ended-clause-step
returns-in-Ended-clause-step c = record {
  goes = look_goes _ _ c.args.self.now.node _ c.cancel_past.new.seat _ c.args.self.now.ctx_node _ _ c.args.self.now.grace_ms _ _ c.args.now
      c.requires.later c.advance.ensures c.note_gate.ensures c.cancel_past.ensures c.in-Ended.ensures.seat c.in-Ended.ensures.learns;
  cause = found_rose c.args.self.now.ctx_seat.now.view c.cancel_past.new.seat.view c.cause.new.s.view c.args.self.now.ctx.now.nodes c.args.self.now.ctx_node c.in-Ended._cause c.cancel_past.ensures.found c.in-Ended.ensures.answer;
}

pub returns-in-Some-clause-step : goal.returns-in-Some-clause-step
returns-in-Some-clause-step c = record {
  goes = look_goes _ _ c.args.self.now.node _ c.cancel_past.new.seat _ c.args.self.now.ctx_node _ _ c.args.self.now.grace_ms _ _ c.args.now
      c.requires.later c.advance.ensures c.note_gate.ensures c.cancel_past.ensures c.in-Live.ensures.seat c.in-Live.ensures.learns;
  cause = ended_due c.args.now c.args.self.now.tree.now c.advance.new.self c.args.self.now.node c.in-Some._cause c.requires.later c.args.self.now.inside c.advance.ensures
      c.args.self.now.least c.args.self.now.running (sym c.in-Some.ensures) c.expired_under_due.ensures;
}

pub returns-in-None-clause-step : goal.returns-in-None-clause-step
returns-in-None-clause-step c = record {
  goes = look_goes _ _ c.args.self.now.node _ c.cancel_past.new.seat _ c.args.self.now.ctx_node _ _ c.args.self.now.grace_ms _ _ c.args.now
      c.requires.later c.advance.ensures c.note_gate.ensures c.cancel_past.ensures c.in-Live.ensures.seat c.in-Live.ensures.learns;
  cause = live_before c.args.now c.args.self.now.tree.now c.advance.new.self c.args.self.now.node c.advance.ensures (sym c.in-None.ensures) c.live_before_deadline.ensures;
}
