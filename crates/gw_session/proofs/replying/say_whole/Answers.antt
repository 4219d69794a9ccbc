use Rattle.std.proofs.Common.{refl}
use Rattle.gw_session.proofs.ReplyLemmas.{whole_said, whole_unsaid}
use Rattle.gw_session.proofs.replying.say_whole.Goals as goal

pub returns-in-Put-clause-step : goal.returns-in-Put-clause-step
returns-in-Put-clause-step g c =
    rw c.relayed_next.ensures
    (whole_said _ _ _ _ _ _ _ _ _ _ _ _ _ _ _ _ _ _ refl refl refl c.now-now.ensures refl c.requires.first c.requires.chunks c.requires.short
    (rw c.in-Put.is at c.put_head.ensures.step) c.write_whole-written.ensures.step)

pub returns-in-NoMemory-clause-step : goal.returns-in-NoMemory-clause-step
returns-in-NoMemory-clause-step g c = whole_unsaid _ _ _ _ _ _ _ _ _ _ _ _ _ c.now-now.ensures (rw c.in-NoMemory.is at c.put_head.ensures.step)
