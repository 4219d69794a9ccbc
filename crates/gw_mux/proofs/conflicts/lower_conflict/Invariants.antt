use Rattle.std.proofs.Common.{ℕ, ◌<◌}
use Rattle.gw_mux.specs.Table.{DoConflict}
use Rattle.gw_mux.proofs.conflicts.lower_conflict.Given as goal

abbrev pub invariant-loop-first : goal.invariant-loop-first
invariant-loop-first l = (i : ℕ) → i < l.first → DoConflict l.patterns i l.second → ⊥
