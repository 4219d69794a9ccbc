use Rattle.std.proofs.Common.{◌∙◌, not, refl, ap}
use Rattle.gw_body.specs.declared.place.Place.{Place}
use Rattle.gw_body.specs.Places.{is_done}
use Rattle.gw_transport.specs.declared.buffers.Buffers.{Buffers}
use Rattle.gw_wire.proofs.Facts.{link_same}
use Rattle.gw_session.proofs.RequestLemmas.{deed_owned, deed_stopped, deed_undecided, unread_begun}
use Rattle.gw_session.proofs.SeatLemmas.{held_shut, seats_shut}
use Rattle.gw_session.proofs.session.respond.Goals as goal

pub returns-in-Ok-Own-clause-step : goal.returns-in-Ok-Own-clause-step
returns-in-Ok-Own-clause-step g c =
    let unread = ap (λ (b : Place). not (is_done b)) c.new-shared.ensures ∙ unread_begun c.args.head.now.framing in
    rw (ap (λ (b : Buffers). b.client.inbox) c.say_own.ensures.buffers)
    (deed_owned _ _ _ _ _ _ _ _ _ _ _ _ _ _ c.requires.rested c.requires.bare.last unread (rw c.in-Ok-Own.field-0-is at c.in-Ok-Own.ensures) c.say_own.ensures.step)

pub returns-in-Ok-Stop-clause-step : goal.returns-in-Ok-Stop-clause-step
returns-in-Ok-Stop-clause-step g c =
    let unread = ap (λ (b : Place). not (is_done b)) c.new-shared.ensures ∙ unread_begun c.args.head.now.framing in
    rw (ap (λ (b : Buffers). b.client.inbox) c.say_own-in-Ok-Stop.ensures.buffers)
    (deed_stopped _ _ _ _ _ _ _ _ _ _ _ _ _ _ _ c.requires.rested c.requires.bare.last unread (rw c.in-Ok-Stop.field-0-is at c.in-Ok-Stop.ensures)
    (seats_shut c.args.shared.now.gate_seat.now c.shut-first.new.s _ _ _ _ _ _ _ c.shut-first.ensures.answer c.shut-first.ensures.told) (held_shut c.args.shared.now.gate_seat.now c.shut-first.new.s _ c.shut-first.ensures.answer) refl (link_same _)
    c.say_own-in-Ok-Stop.ensures.step)

pub returns-in-Err-clause-step : goal.returns-in-Err-clause-step
returns-in-Err-clause-step g c = deed_undecided _ _ _ _ _ _ _ _ c.requires.fresh c.requires.rested
