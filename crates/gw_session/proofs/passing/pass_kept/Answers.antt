use Rattle.std.proofs.Common.{◌≡◌, Some, not, ap, refl, ◌∙◌}
use Rattle.gw_body.specs.Places.{is_done}
use Rattle.gw_session.specs.Passing.{Halt}
use Rattle.gw_session.specs.Stand.{Spot, spot_of}
use Rattle.gw_session.proofs.PassLemmas.{halted, passed_kept}
use Rattle.gw_session.proofs.SeatLemmas.{goes_since, timed_spot}
use Rattle.gw_session.proofs.passing.pass_kept.Goals as goal

pub returns-in-Untold-clause-step : goal.returns-in-Untold-clause-step
returns-in-Untold-clause-step g c =
    let heard = rw c.in-Untold.is at c.hear_body.ensures.step in
    halted _ _ _ _ _ _ _ _ _ _ _ _ _ (Halt.Untold c.in-Untold.sent) _ c.requires.errand c.requires.rested heard.went heard.link heard.cause c.sent_next.ensures

pub returns-in-Lost-clause-step : goal.returns-in-Lost-clause-step
returns-in-Lost-clause-step g c =
    let heard = rw c.in-Lost.is at c.hear_body.ensures.step in
    halted _ _ _ _ _ _ _ _ _ _ _ _ _ (Halt.Lost c.in-Lost.why) _ c.requires.errand c.requires.rested heard.went heard.link heard.cause (ap Some c.lost_end.ensures)

pub returns-in-NoMemory-clause-step : goal.returns-in-NoMemory-clause-step
returns-in-NoMemory-clause-step g c =
    let heard = rw c.in-NoMemory.is at c.hear_body.ensures.step in
    halted _ _ _ _ _ _ _ _ _ _ _ _ _ Halt.Unkept _ c.requires.errand c.requires.rested heard.went heard.link heard.cause refl

pub returns-clause-step : goal.returns-clause-step
returns-clause-step g c =
    let heard = rw c.in-Whole.is at c.hear_body.ensures.step in
    let whole = rw c.in-Whole.is at c.hear_body.ensures.whole in
    let made = c.make_trip-trip.ensures in
    let far : Spot = record {
      client = (g.W.Conn.Link.link c.hear_body.new.conn).number;
      peer = c.args.client.now.peer;
      table = c.args.client.now.table.now;
      own = c.args.shared.now.ctx_node;
      number = c.args.client.now.requests;
    } in
    let near : far ≡ spot_of g.W.Conn.Link.link c.args.client.now c.args.shared.now = λ i. record {
      client = heard.link.number i;
      peer = c.args.client.now.peer;
      table = c.args.client.now.table.now;
      own = c.args.shared.now.ctx_node;
      number = c.args.client.now.requests;
    } in
    let spot = timed_spot g.W.Conn.Link.link _ c.make_trip-trip.new.client _ c.make_trip-trip.new.shared _ _ made.client made.step.goes.link.number made.same ∙ near in
    passed_kept g.W.Conn.Link.link _ _ _ _ _ _ _ _ _ _ _ _ _ _ _ _ _ _ _ c.make_trip-trip.new.shared.buffers.now _ _ _ _ _ _ _ _ c.requires.errand
    (ap (λ i. i.inbox) c.answer.ensures.read ∙ ap (λ i. i.inbox) made.read) heard.went heard.link near made.step (ap (λ u. u.continued) c.requires.errand.upload)
    (ap (λ i. not (is_done i.body)) made.read ∙ ap (λ l. not (is_done l)) whole.1) (rw (spot, made.client.deadline) at c.answer.ensures.step)
    (goes_since _ _ _ _ _ _ _ made.client.told (rw spot at c.answer.ensures.goes))
