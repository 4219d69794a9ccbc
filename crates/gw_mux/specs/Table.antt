-- The lists of patterns that a router keeps, and those that it refuses.
use Rattle.std.specs.Prelude.{◌≡◌, ℕ, ◌<◌, ◌≤◌, ◌^◌, List, All, length, Some}
use Rattle.std.specs.List.{slice_get}
use Rattle.gw_pattern.specs.declared.form.Pattern.{Pattern}
use Rattle.gw_pattern.specs.Pattern.{IsWellFormed, wildcard_count}
use Rattle.gw_sets.specs.Comparison.{AreMethodBytes}
use Rattle.gw_sets.specs.Relation.{Conflicts}
use Rattle.gw_sets.specs.Shape.{AreBytes}

-- the pattern of that number
abbrev pub IsAt : List Pattern → ℕ → Pattern → Type 0
IsAt patterns i p = slice_get patterns i ≡ Some p

-- the pattern of the second number conflicts with that of the first, which is lower
unfoldable pub DoConflict : List Pattern → ℕ → ℕ → Type 0
DoConflict patterns first second =
    (first < second) × (p : Pattern) × (q : Pattern) × IsAt patterns first p × IsAt patterns second q × Conflicts p q

abbrev pub HasNoConflict : List Pattern → Type 0
HasNoConflict patterns = (first second : ℕ) → DoConflict patterns first second → ⊥

-- no earlier pair conflicts: none with a lower second number, and none with this second and a lower first one
abbrev pub IsFirstConflict : List Pattern → ℕ → ℕ → Type 0
IsFirstConflict patterns first second =
    DoConflict patterns first second
    × ((i j : ℕ) → j < second → DoConflict patterns i j → ⊥)
    × ((i : ℕ) → i < first → DoConflict patterns i second → ⊥)

-- what a list of patterns must be: their numbers fit, and each is well formed with few enough named wildcards
pub record ArePatterns (patterns : List Pattern) : Type 0 where
  pub few : length patterns < 2 ^ 32
  pub formed : All IsWellFormed patterns
  pub named : All (λ p. wildcard_count p.segs.items ≤ 16) patterns

pub record IsTable (patterns : List Pattern) : Type 0 where
  pub listed : ArePatterns patterns
  pub apart : HasNoConflict patterns

-- a pattern whose method and host are bytes, as those of every value of the type are
pub record IsProper (p : Pattern) : Type 0 where
  pub method : AreMethodBytes p.method
  pub host : AreBytes p.host
  pub segs : IsWellFormed p

abbrev pub AreProper : List Pattern → Type 0
AreProper patterns = All IsProper patterns
