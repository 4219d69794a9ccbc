use Rattle.std.proofs.Common.{◌+◌, refl, ap, sym, ◌∙◌}
use Rattle.gw_context.specs.Tree.{TreeView}
use Rattle.gw_gate.specs.Seat.{SeatState}
use Rattle.gw_session.specs.Stand.{Spot, spot_of}
use Rattle.gw_session.specs.TurnSteps.{next_spot}
use Rattle.gw_session.proofs.RequestLemmas.{spot_is}
use Rattle.gw_session.proofs.SeatLemmas.{seats_read}
use Rattle.gw_session.proofs.TurnLemmas.{granted, not_open, refused, turn_missed, turn_refused, turn_served}
use Rattle.gw_session.proofs.session.serve_turn.Goals as goal

pub returns-in-Some-clause-step : goal.returns-in-Some-clause-step
returns-in-Some-clause-step g c =
    let arrived = c.in-Some.ensures in
    rw c.lost_end.ensures
    (turn_missed _ _ _ _ _ _ _ (spot_of g.W.Conn.Link.link c.args.client.now c.args.shared.now) _ _ _ _ _ _ c.requires.rested c.requires.bare.last arrived.client.requests arrived.step)

pub returns-in_default-begin-clause-step : goal.returns-in_default-begin-clause-step
returns-in_default-begin-clause-step g c =
    let arrived = c.in_default.ensures in
    let shut = refused c.await_request.new.shared.gate_seat.now c.enter-entered.new.s _ c.enter-entered.ensures.answer c.enter-entered.ensures.told c.in_default-begin.ensures in
    turn_refused _ _ _ _ _ _ _ _ (spot_of g.W.Conn.Link.link c.args.client.now c.args.shared.now) _ _ _ _ _ c.requires.rested c.requires.bare.last arrived.client.requests arrived.step
    (seats_read c.await_request.new.shared.gate_seat.now c.enter-entered.new.s _ _ _ _ _ _ _ _ shut.1) (ap (λ (s : SeatState). s.view.held) shut.1) shut.0

pub leave-requires-clause-inside : goal.leave-requires-clause-inside
leave-requires-clause-inside g c =
    let step = c.in-None.ensures.step in
    let inside = granted c.await_request.new.shared.gate_seat.now c.enter-entered.new.s _ _ c.enter-entered.ensures.answer c.in-Some-begin.ensures in (
      c.idle-inside.ensures ∙ inside.0 ∙ sym (step.goes.seats.name ∙ ap (λ (s : SeatState). s.name) inside.1),
      step.goes.held ∙ ap (λ (s : SeatState). s.view.held) inside.1,
    )

pub returns-in-None-clause-step : goal.returns-in-None-clause-step
returns-in-None-clause-step g c =
    let arrived = c.in_default.ensures in
    let served = c.in-None.ensures in
    let inside = granted c.await_request.new.shared.gate_seat.now c.enter-entered.new.s _ _ c.enter-entered.ensures.answer c.in-Some-begin.ensures in
    let p : Spot = spot_of g.W.Conn.Link.link c.args.client.now c.args.shared.now in
    let q : Spot = record {
      client = (g.W.Conn.Link.link c.await_request.new.client.conn).number;
      peer = c.await_request.new.client.peer;
      table = c.await_request.new.client.table.now;
      own = c.await_request.new.shared.ctx_node;
      number = c.await_request.new.client.requests + 1;
    } in
    let same = spot_is (next_spot p) q arrived.step.goes.link.number arrived.client.peer (ap (λ t. t.now) arrived.client.table) arrived.same.ctx_node
    (ap (λ n. n + 1) arrived.client.requests) in
    turn_served _ _ _ _ _ _ _ _ _ _ _ _ _ p q _ _ _ _ _ _ _ same c.requires.bare.last served.client.requests refl arrived.step (not_open c.await_request.new.shared.gate_seat.now _ _ c.enter-entered.ensures.never_again c.in-Some-begin.ensures) (seats_read c.await_request.new.shared.gate_seat.now c.enter-entered.new.s _ _ _ _ _ _ _ _ inside.1)
    (rw (ap (λ (t : TreeView). t.last) arrived.client.tree) at served.step) (seats_read c.serve_request.new.shared.gate_seat.now c.leave.new.s _ _ _ _ _ _ _ _ c.leave.ensures)
    (ap (λ (s : SeatState). s.view.held) c.leave.ensures ∙ sym (arrived.step.goes.held ∙ c.requires.outside)) refl refl

pub returns-in-Some-serve_request-clause-step : goal.returns-in-Some-serve_request-clause-step
returns-in-Some-serve_request-clause-step g c =
    let arrived = c.in_default.ensures in
    let served = c.in-Some-serve_request.ensures in
    let inside = granted c.await_request.new.shared.gate_seat.now c.enter-entered.new.s _ _ c.enter-entered.ensures.answer c.in-Some-begin.ensures in
    let p : Spot = spot_of g.W.Conn.Link.link c.args.client.now c.args.shared.now in
    let q : Spot = record {
      client = (g.W.Conn.Link.link c.await_request.new.client.conn).number;
      peer = c.await_request.new.client.peer;
      table = c.await_request.new.client.table.now;
      own = c.await_request.new.shared.ctx_node;
      number = c.await_request.new.client.requests + 1;
    } in
    let same = spot_is (next_spot p) q arrived.step.goes.link.number arrived.client.peer (ap (λ t. t.now) arrived.client.table) arrived.same.ctx_node
    (ap (λ n. n + 1) arrived.client.requests) in
    turn_served _ _ _ _ _ _ _ _ _ _ _ _ _ p q _ _ _ _ _ _ _ same c.requires.bare.last served.client.requests refl arrived.step (not_open c.await_request.new.shared.gate_seat.now _ _ c.enter-entered.ensures.never_again c.in-Some-begin.ensures) (seats_read c.await_request.new.shared.gate_seat.now c.enter-entered.new.s _ _ _ _ _ _ _ _ inside.1)
    (rw (ap (λ (t : TreeView). t.last) arrived.client.tree) at served.step) (seats_read c.serve_request.new.shared.gate_seat.now c.leave-in-Some-serve_request.new.s _ _ _ _ _ _ _ _ c.leave-in-Some-serve_request.ensures)
    (ap (λ (s : SeatState). s.view.held) c.leave-in-Some-serve_request.ensures ∙ sym (arrived.step.goes.held ∙ c.requires.outside)) refl refl
