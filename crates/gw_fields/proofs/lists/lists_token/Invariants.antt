use Rattle.std.proofs.Common.{◌≡◌, length}
use Rattle.gw_fields.specs.Lists.{lists_token}
use Rattle.gw_fields.proofs.lists.lists_token.Given as goal

-- no element so far is the token
abbrev pub invariant-loop-after : goal.invariant-loop-after
invariant-loop-after l = lists_token l.token l.left ≡ lists_token l.token l.value

abbrev pub decreases-loop-after : goal.decreases-loop-after
decreases-loop-after l = length l.left
