-- An empty pool with no tokens out.
use Rattle.gw_pool.proofs.SoloCalls.{solo_opened}
use Rattle.gw_pool.proofs.solo.Solo.open.Goals as goal

pub invariant_of-result : goal.invariant_of-result
invariant_of-result g c = solo_opened c.in_ok-core.core c.in_ok-out.out c.args.limits c.in_ok-core.ensures.limits c.in_ok-core.ensures.journal c.in_ok-core.ensures.taken c.in_ok-out.ensures.out c.requires.passes c.requires.per_pass c.in_ok-out.ensures.room
