use Rattle.std.proofs.Common.{◌≡◌, length}
use Rattle.gw_pattern.specs.Path.{parts_of}
use Rattle.gw_pattern.specs.Path.{are_tidy}
use Rattle.gw_pattern.proofs.cleaning.has_tidy_parts.Given as goal

abbrev pub invariant-loop-rest : goal.invariant-loop-rest
invariant-loop-rest l = are_tidy (parts_of l.left) ≡ are_tidy (parts_of l.parts)

abbrev pub decreases-loop-rest : goal.decreases-loop-rest
decreases-loop-rest l = length l.left
