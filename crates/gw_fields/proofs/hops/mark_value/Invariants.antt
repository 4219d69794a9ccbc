use Rattle.std.proofs.Common.{◌≡◌, ℕ, List, length, false, ◌||◌, slice_index_or}
use Rattle.gw_fields.specs.Lists.{lists_token}
use Rattle.gw_fields.specs.Names.{IsFirst}
use Rattle.gw_fields.proofs.hops.mark_value.Given as goal

-- what was marked, and what is still listed
abbrev pub invariant-loop-rest : goal.invariant-loop-rest
invariant-loop-rest l =
    (name : List ℕ) (at : ℕ) → IsFirst l.names name at
    → slice_index_or l.marks at false || lists_token name l.left
    ≡ slice_index_or l.initial.marks at false || lists_token name l.value

abbrev pub decreases-loop-rest : goal.decreases-loop-rest
decreases-loop-rest l = length l.left
