use Rattle.std.proofs.Common.{refl, ap, ◌∙◌}
use Rattle.gw_body.specs.Places.{is_done}
use Rattle.gw_transport.specs.declared.buffers.Buffers.{Buffers}
use Rattle.gw_session.proofs.SayLemmas.{own_said, own_unsaid}
use Rattle.gw_session.proofs.saying.say_own.Goals as goal

pub returns-in-Ok-clause-step : goal.returns-in-Ok-clause-step
returns-in-Ok-clause-step g c =
    let read = c.done-unread.ensures ∙ ap (λ (b : Buffers). is_done b.client.body) c.look_shut-shut.ensures.buffers in
    rw (c.sent_next.ensures, c.why_after-why.ensures, c.is_last.ensures, read)
    (own_said _ _ _ _ _ _ _ _ _ _ _ _ _ _ _ c.now-now.ensures c.look_shut-shut.ensures.step refl
    (rw (c.is_some.ensures, c.why_after-why.ensures, c.is_last.ensures, read) at c.in-Ok.ensures) (rw c.deref.ensures.value at c.write_text-sent.ensures))

pub returns-in-Err-clause-step : goal.returns-in-Err-clause-step
returns-in-Err-clause-step g c = own_unsaid _ _ _ _ _ _ _ _ _ _ _ c.now-now.ensures c.look_shut-shut.ensures.step
