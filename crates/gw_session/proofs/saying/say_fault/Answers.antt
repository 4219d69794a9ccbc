use Rattle.gw_session.proofs.SayLemmas.{fault_said, fault_unsaid}
use Rattle.gw_session.proofs.saying.say_fault.Goals as goal

pub returns-in-Ok-clause-step : goal.returns-in-Ok-clause-step
returns-in-Ok-clause-step g c =
    rw c.sent_next.ensures (fault_said _ _ _ _ _ _ _ _ _ _ _ _ c.now-now.ensures c.in-Ok.ensures (rw c.deref.ensures.value at c.write_text-sent.ensures))

pub returns-clause-step : goal.returns-clause-step
returns-clause-step g c = fault_unsaid _ _ _ _ _ _ _ _ c.now-now.ensures
