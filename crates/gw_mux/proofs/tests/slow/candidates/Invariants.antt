use Rattle.std.proofs.Common.{All, ◌<◌, length}
use Rattle.gw_mux.proofs.tests.slow.candidates.Given as goal

abbrev pub invariant-loop-i : goal.invariant-loop-i
invariant-loop-i l = All (λ i. i < length l.patterns) l.numbers.items
