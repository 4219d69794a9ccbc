-- Which pattern answers a request (Go 1.22's `net/http`, "Patterns").
use Rattle.std.specs.Prelude.{◌≡◌, ◌≢◌, ℕ, true, false, ◌⊎◌, List, [], ◌∷◌, ◌++◌}
use Rattle.gw_pattern.specs.declared.form.Pattern.{Pattern}
use Rattle.gw_pattern.specs.Path.{slash, ends_in_slash}
use Rattle.gw_sets.specs.Shape.{Asked}
use Rattle.gw_sets.specs.Matches.{Matches, Requests}
use Rattle.gw_sets.specs.Relation.{IsBelow}
use Rattle.gw_mux.specs.Request.{asked_for, is_exact}
use Rattle.gw_mux.specs.Table.{IsAt}

-- the pattern of that number has these host bytes, and matches
unfoldable pub DoesTake : List Pattern → Asked → List ℕ → ℕ → Type 0
DoesTake patterns a host i = (p : Pattern) × IsAt patterns i p × (p.host ≡ host) × Matches p a

-- the pattern matches, and has the request's host; or it has none, and no pattern with the request's host matches
abbrev pub IsCandidate : List Pattern → Asked → ℕ → Type 0
IsCandidate patterns a i =
    DoesTake patterns a a.host i ⊎ (DoesTake patterns a [] i × ((j : ℕ) → DoesTake patterns a a.host j → ⊥))

-- the requests of the first are a proper part of those of the second
unfoldable pub IsMoreSpecific : List Pattern → ℕ → ℕ → Type 0
IsMoreSpecific patterns i j =
    (p : Pattern) × (q : Pattern) × IsAt patterns i p × IsAt patterns j q × IsBelow Asked (Requests p) (Requests q)

-- the candidate that is more specific than every other
abbrev pub IsBest : List Pattern → Asked → ℕ → Type 0
IsBest patterns a i =
    IsCandidate patterns a i × ((j : ℕ) → IsCandidate patterns a j → j ≢ i → IsMoreSpecific patterns i j)

-- the pattern has no `Rest`, or its `Rest` takes nothing behind the slash
abbrev pub IsExact : List Pattern → Asked → ℕ → Type 0
IsExact patterns a i = (p : Pattern) × IsAt patterns i p × (is_exact p.segs.items a.segs ≡ true)

abbrev pub HasExactBest : List Pattern → Asked → Type 0
HasExactBest patterns a = (i : ℕ) × IsBest patterns a i × IsExact patterns a i

abbrev pub HasNoBest : List Pattern → Asked → Type 0
HasNoBest patterns a = (i : ℕ) → IsBest patterns a i → ⊥

-- the path with a slash more
abbrev pub with_slash : List ℕ → List ℕ
with_slash path = path ++ slash ∷ []

-- the clean path has no exact best and no slash at its end, and with one it has an exact best
abbrev pub WantsSlash : List Pattern → List ℕ → List ℕ → List ℕ → Type 0
WantsSlash patterns method host path =
    (HasExactBest patterns (asked_for method host path) → ⊥)
    × (ends_in_slash path ≡ false)
    × HasExactBest patterns (asked_for method host (with_slash path))
