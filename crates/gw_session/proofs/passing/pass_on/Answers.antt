use Rattle.std.proofs.Common.{ap}
use Rattle.gw_session.proofs.PassLemmas.{passed_on}
use Rattle.gw_session.proofs.SeatLemmas.{goes_since, timed_spot}
use Rattle.gw_session.proofs.passing.pass_on.Goals as goal

pub returns-clause-step : goal.returns-clause-step
returns-clause-step g c =
    let made = c.make_upload-trip.ensures in
    let spot = timed_spot g.W.Conn.Link.link c.args.client.now c.make_upload-trip.new.client _ c.make_upload-trip.new.shared _ _ made.client made.step.goes.link.number made.same in
    passed_on g.W.Conn.Link.link _ _ _ _ _ _ _ _ _ _ _ _ _ _ _ _ c.make_upload-trip.new.shared.buffers.now _ _ _ _ _ c.requires.errand (ap (λ i. i.inbox) c.answer.ensures.read) made.step
    (rw (spot, made.errand, made.client.deadline) at c.answer.ensures.step) (goes_since _ _ _ _ _ _ _ made.client.told (rw spot at c.answer.ensures.goes))
