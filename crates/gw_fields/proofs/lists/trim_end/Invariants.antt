use Rattle.std.proofs.Common.{◌≡◌, length, reverse}
use Rattle.gw_fields.specs.Lists.{skip_blanks}
use Rattle.gw_fields.proofs.lists.trim_end.Given as goal

abbrev pub invariant-loop-left : goal.invariant-loop-left
invariant-loop-left l = skip_blanks (reverse l.left) ≡ skip_blanks (reverse l.bytes)

abbrev pub decreases-loop-left : goal.decreases-loop-left
decreases-loop-left l = length l.left
