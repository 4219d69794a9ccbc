-- A pool that was just opened may be closed.
use Rattle.gw_pool.proofs.Idling.{quiet_at_first}
use Rattle.gw_pool.proofs.tests.opened_and_closed.Goals as goal

pub close-requires : goal.close-requires
close-requires g c = quiet_at_first c.in_ok-core.core c.in_ok-core.ensures.journal
