use Rattle.std.proofs.Common.{ℕ, ◌<◌}
use Rattle.gw_mux.specs.Table.{DoConflict}
use Rattle.gw_mux.proofs.conflicts.first_conflict.Given as goal

abbrev pub invariant-loop-second : goal.invariant-loop-second
invariant-loop-second l = (i j : ℕ) → j < l.second → DoConflict l.patterns i j → ⊥
