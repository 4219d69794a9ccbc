-- An empty pool holds.
use Rattle.gw_pool.proofs.pool.PoolCore.open.Goals as goal
use Rattle.std.proofs.Common.{refl, arith}
use Rattle.gw_pool.proofs.Standings.{opened}

pub invariant_of-result : goal.invariant_of-result
invariant_of-result g c =
    opened _ _ c.in_ok-with_capacity.ensures.items c.in_ok-with_capacity-2.ensures.items c.in_ok-new.ensures.rows refl refl refl c.in_ok-with_capacity-3.ensures.items
    (omega arith) c.requires.passes (omega (arith, c.in_ok-with_capacity.ensures.exact)) (omega (arith, c.in_ok-with_capacity-2.ensures.exact)) (omega (arith, c.in_ok-new.ensures.room)) (omega (arith, c.in_ok-with_capacity-3.ensures.exact))
