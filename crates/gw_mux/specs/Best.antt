-- What the private steps of the search for the best pattern answer.
use Rattle.std.specs.Prelude.{◌≡◌, ◌≢◌, ℕ, ◌<◌, Bool, true, false, List, Option, Some, None}
use Rattle.gw_pattern.specs.declared.form.Pattern.{Pattern}
use Rattle.gw_sets.specs.declared.relation.Relation.{Relation}
use Rattle.gw_sets.specs.declared.relation.Relation.TheVariants.{Equal, MoreSpecific, MoreGeneral, Disjoint, Overlap}
use Rattle.gw_sets.specs.Shape.{Asked}
use Rattle.gw_mux.specs.Decision.{DoesTake, HasExactBest, IsBest, IsCandidate, IsMoreSpecific}
use Rattle.gw_mux.specs.Request.{is_exact}
use Rattle.gw_mux.specs.Walk.{asked_by}
use Rattle.gw_mux.specs.Table.{IsAt}

-- among the patterns below a number: none has the request's host bytes and matches, or that is the most specific
abbrev pub IsChosen : List Pattern → Asked → ℕ → Option ℕ → Type 0
IsChosen patterns a n None = (j : ℕ) → j < n → DoesTake patterns a a.host j → ⊥
IsChosen patterns a n (Some i) =
    (i < n) × DoesTake patterns a a.host i
    × ((j : ℕ) → j < n → DoesTake patterns a a.host j → j ≢ i → IsMoreSpecific patterns i j)

-- there is no candidate, or that is the best
abbrev pub IsAnswered : List Pattern → Asked → Option ℕ → Type 0
IsAnswered patterns a None = (i : ℕ) → IsCandidate patterns a i → ⊥
IsAnswered patterns a (Some i) = IsBest patterns a i

abbrev pub is_more_general : Relation → Bool
is_more_general Equal = false
is_more_general MoreSpecific = false
is_more_general MoreGeneral = true
is_more_general Disjoint = false
is_more_general Overlap = false

-- there is such a pattern, and it leaves nothing of the segments to a `Rest`
abbrev pub IsExactOf : List Pattern → List (List ℕ) → Option ℕ → Type 0
IsExactOf patterns parts None = ⊥
IsExactOf patterns parts (Some i) = (p : Pattern) × IsAt patterns i p × (is_exact p.segs.items parts ≡ true)

-- a redirect is due from the path to that with a slash more, both said by the path without its last slash
abbrev pub WantsSlashBy : List Pattern → List ℕ → List ℕ → List ℕ → Bool → Type 0
WantsSlashBy patterns method host body slash =
    (HasExactBest patterns (asked_by method host body slash) → ⊥)
    × (slash ≡ false)
    × HasExactBest patterns (asked_by method host body true)
