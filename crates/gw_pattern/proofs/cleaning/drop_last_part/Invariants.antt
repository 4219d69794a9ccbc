use Rattle.std.proofs.Common.{◌≡◌, vec_len}
use Rattle.gw_pattern.specs.Walk.{without_last_part}
use Rattle.gw_pattern.proofs.cleaning.drop_last_part.Given as goal

abbrev pub invariant-loop-b : goal.invariant-loop-b
invariant-loop-b l = without_last_part l.clean.items ≡ without_last_part l.initial.clean.items

abbrev pub decreases-loop-b : goal.decreases-loop-b
decreases-loop-b l = vec_len l.clean
