use Rattle.std.proofs.Common.{arith}
use Rattle.gw_mux.proofs.Conflicting.{conflict_below, conflict_within}
use Rattle.gw_mux.proofs.conflicts.first_conflict.Goals as goal

pub returns-in-Some-clause-within : goal.returns-in-Some-clause-within
returns-in-Some-clause-within c =
    (omega (arith, c.loop-second-test.true, conflict_below c.args.patterns.now c.in-Some.first c.loop-second.second c.in-Some.ensures.0), c.loop-second-test.true)

pub returns-clause-first : goal.returns-clause-first
returns-clause-first c =
    λ i j k. c.loop-second.invariant i j (omega (arith, c.loop-second-test.false, conflict_within c.args.patterns.now i j k)) k
