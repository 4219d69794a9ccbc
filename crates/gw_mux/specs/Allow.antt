-- Which methods a path allows (RFC 9110, section 10.2.1).
use Rattle.std.specs.Prelude.{◌≡◌, ℕ, ◌<◌, length, slice_index, false, ◌⊎◌, List, [], ◌∷◌, Option, Some, None, Contains, ◌↔◌, if◌then◌else◌, codes}
use Rattle.std.specs.Ordering.{nat_cmp}
use Rattle.std.specs.Cmp.Lexicographic.{slice_cmp}
use Rattle.std.specs.List.Sorted.{IsStrictlySortedBy}
use Rattle.gw_pattern.specs.declared.form.Pattern.{Pattern}
use Rattle.gw_pattern.specs.Path.{ends_in_slash}
use Rattle.gw_sets.specs.Comparison.{is_get}
use Rattle.gw_sets.specs.Shape.{Asked}
use Rattle.gw_sets.specs.Matches.{HostMatches, MethodMatches, SegsMatch}
use Rattle.gw_mux.specs.Decision.{with_slash}
use Rattle.gw_mux.specs.Request.{asked_for}
use Rattle.gw_mux.specs.Table.{IsAt}

-- but for the method the pattern matches that
unfoldable pub DoesServe : Pattern → Asked → Type 0
DoesServe p a = HostMatches p.host a.host × SegsMatch p.segs.items a.segs a.slash

-- but for the method the pattern matches the clean path, or this with a slash more where it ends in none
unfoldable pub ServesPath : Pattern → List ℕ → List ℕ → Type 0
ServesPath p host path =
    DoesServe p (asked_for [] host path)
    ⊎ ((ends_in_slash path ≡ false) × DoesServe p (asked_for [] host (with_slash path)))

-- the pattern of that number does so
abbrev pub IsServed : List Pattern → List ℕ → List ℕ → ℕ → Type 0
IsServed patterns host path i = (p : Pattern) × IsAt patterns i p × ServesPath p host path

-- a pattern with a method that matches this one serves the path: HEAD stands beside GET
abbrev pub IsAllowed : List Pattern → List ℕ → List ℕ → List ℕ → Type 0
IsAllowed patterns host path method =
    (i : ℕ) × (p : Pattern) × (own : List ℕ)
    × IsAt patterns i p × (p.method ≡ Some own) × ServesPath p host path × MethodMatches (Some own) method

-- the allowed methods, each once, sorted by their bytes
abbrev pub IsAllow : List Pattern → List ℕ → List ℕ → List (List ℕ) → Type 0
IsAllow patterns host path methods =
    IsStrictlySortedBy (slice_cmp nat_cmp) methods × ((method : List ℕ) → Contains methods method ↔ IsAllowed patterns host path method)

-- ---- what the private steps answer

-- the methods that a pattern with this one allows
abbrev pub named_methods : Option (List ℕ) → List (List ℕ)
named_methods None = []
named_methods (Some own) = if is_get own then own ∷ codes "HEAD" ∷ [] else own ∷ []

-- the list has what it had, and these besides
abbrev pub HasGained : List (List ℕ) → List (List ℕ) → List (List ℕ) → Type 0
HasGained old more new = (method : List ℕ) → Contains new method ↔ (Contains old method ⊎ Contains more method)

-- the methods that the patterns of the first so many of the numbers allow
abbrev pub AreNamed : List Pattern → List ℕ → ℕ → List (List ℕ) → Type 0
AreNamed patterns numbers n methods =
    (method : List ℕ)
    → Contains methods method
    ↔ ((k : ℕ) × (p : Pattern) × (own : List ℕ)
    × IsAt patterns (slice_index numbers k) p × (p.method ≡ Some own) × MethodMatches (Some own) method × (k < n))

-- the same of all of them, each method once, sorted by their bytes
abbrev pub AreAllowed : List Pattern → List ℕ → List (List ℕ) → Type 0
AreAllowed patterns numbers methods =
    IsStrictlySortedBy (slice_cmp nat_cmp) methods × AreNamed patterns numbers (length numbers) methods
