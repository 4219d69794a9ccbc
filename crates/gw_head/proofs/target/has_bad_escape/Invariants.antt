use Rattle.std.proofs.Common.{◌≡◌, length}
use Rattle.gw_head.specs.Target.{has_bad_escape}
use Rattle.gw_head.proofs.target.has_bad_escape.Given as goal

-- each '%' so far begins an escape
abbrev pub invariant-loop-left : goal.invariant-loop-left
invariant-loop-left l = has_bad_escape l.left ≡ has_bad_escape l.path

abbrev pub decreases-loop-left : goal.decreases-loop-left
decreases-loop-left l = length l.left
