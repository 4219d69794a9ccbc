-- With no token out no unit is live.
use Rattle.gw_pool.specs.Core.{state_at}
use Rattle.gw_pool.proofs.TieWant.{quiet}
use Rattle.gw_pool.proofs.solo.Solo.close.Goals as goal

pub close-requires : goal.close-requires
close-requires g c = quiet (state_at c.self.inside.core) c.self.inside.out.out c.self.inside.core.taken c.self.invariant.tied (rw (← c.self.view_is) at c.requires)

pub returns-in-Ok-clause-callers : goal.returns-in-Ok-clause-callers
returns-in-Ok-clause-callers g c = rw (c.in-Ok.ensures.journal, ← c.self.view_is) c.self.invariant.callers
