-- What a walk through the tree finds.
use Rattle.std.specs.Prelude.{◌≡◌, ℕ, ◌+◌, ◌<◌, ◌⊎◌, false, Bool, List, Option, Some, None, Contains, drop, length}
use Rattle.gw_pattern.specs.declared.form.Pattern.{Pattern}
use Rattle.gw_sets.specs.Comparison.{product, relation_of_methods, relation_of_segs}
use Rattle.gw_sets.specs.Matches.{MethodMatches, SegsMatch}
use Rattle.gw_mux.specs.Best.{is_more_general}
use Rattle.gw_mux.specs.Keys.{first_key, tail_at, tail_keys}
use Rattle.gw_mux.specs.Order.{IsSortedFrom}
use Rattle.gw_mux.specs.Table.{IsAt}

-- the node behind that many segments: a run in which the branches below are known by the segments that are left
pub record IsNode (patterns : List Pattern) (at : ℕ) (numbers : List ℕ) : Type 0 where
  pub sorted : IsSortedFrom patterns (at + 1) numbers
  pub branches : (i : ℕ) (p : Pattern) → Contains numbers i → IsAt patterns i p → tail_at patterns (at + 1) i ≡ tail_keys (drop at p.segs.items) p.method
  pub there : (i : ℕ) → Contains numbers i → i < length patterns

-- the pattern's method matches, and its segments behind that many match these parts of a path
unfoldable pub Fits : List Pattern → ℕ → List ℕ → List (List ℕ) → Bool → ℕ → Type 0
Fits patterns at method parts slash i =
    (p : Pattern) × IsAt patterns i p × MethodMatches p.method method × SegsMatch (drop at p.segs.items) parts slash

-- by the segments behind that many, and by the method, the first pattern does not match more than the second
unfoldable pub Precedes : List Pattern → ℕ → ℕ → ℕ → Type 0
Precedes patterns at i j =
    (p q : Pattern) → IsAt patterns i p → IsAt patterns j q
    → is_more_general (product (relation_of_methods p.method q.method) (relation_of_segs (drop at p.segs.items) (drop at q.segs.items))) ≡ false

-- none of the numbers fits, or that is the first of those that do
abbrev pub IsFirst : List Pattern → List ℕ → ℕ → List ℕ → List (List ℕ) → Bool → Option ℕ → Type 0
IsFirst patterns numbers at method parts slash None =
    (j : ℕ) → Contains numbers j → Fits patterns at method parts slash j → ⊥
IsFirst patterns numbers at method parts slash (Some i) =
    Contains numbers i × Fits patterns at method parts slash i
    × ((j : ℕ) → Contains numbers j → Fits patterns at method parts slash j → Precedes patterns at i j)

-- none of the numbers has this branch at that depth, or that is one that has
abbrev pub IsWith : List Pattern → ℕ → List ℕ → List ℕ → Option ℕ → Type 0
IsWith patterns depth key numbers None = (j : ℕ) → Contains numbers j → first_key (tail_at patterns depth j) ≡ key → ⊥
IsWith patterns depth key numbers (Some i) = Contains numbers i × (first_key (tail_at patterns depth i) ≡ key)

-- the number is one of these, and the segments of its pattern behind that many match these parts of a path
unfoldable pub Remains : List Pattern → List ℕ → ℕ → List (List ℕ) → Bool → ℕ → Type 0
Remains patterns numbers at parts slash i =
    Contains numbers i × (p : Pattern) × IsAt patterns i p × SegsMatch (drop at p.segs.items) parts slash

-- the list has what it had, and what is meant besides
pub record IsAdded (P : ℕ → Type 0) (old new : List ℕ) : Type 0 where
  pub within : (i : ℕ) → Contains new i → Contains old i ⊎ P i
  pub kept : (i : ℕ) → Contains old i → Contains new i
  pub added : (i : ℕ) → P i → Contains new i
