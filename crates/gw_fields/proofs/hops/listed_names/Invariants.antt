use Rattle.std.proofs.Common.{◌≡◌, ℕ, List, codes, drop, map, false, ◌||◌, slice_index_or}
use Rattle.gw_fields.specs.Fields.{pair_of, has_token}
use Rattle.gw_fields.specs.Names.{IsFirst}
use Rattle.gw_fields.proofs.hops.listed_names.Given as goal

-- what was marked, and what is still listed
abbrev pub invariant-loop-item : goal.invariant-loop-item
invariant-loop-item l =
    (name : List ℕ) (at : ℕ) → IsFirst l.names name at
    → slice_index_or l.marks at false || has_token (codes "connection") name (map pair_of (drop l.item-index l.items))
    ≡ has_token (codes "connection") name (map pair_of l.items)
