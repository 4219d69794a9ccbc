-- Names in order without case, and what is marked at the first of those that are alike.
use Rattle.std.specs.Prelude.{◌≡◌, ℕ, ◌<◌, Bool, true, false, ◌||◌, List, length, slice_index_or}
use Rattle.std.specs.Borrow.{Bor}
use Rattle.std.specs.List.{AllWithin, HoldsAt}
use Rattle.std.specs.List.Sorted.{IsSortedBy}
use Rattle.std.specs.Str.{str_eq_ignore_ascii_case, str_to_ascii_lowercase}
use Rattle.gw_fields.specs.Order.{is_below}

-- the name stands before the other in the order of bytes, without case
abbrev pub comes_before : List ℕ → List ℕ → Bool
comes_before name other = is_below (str_to_ascii_lowercase name) (str_to_ascii_lowercase other)

abbrev pub AreInOrder : List (Bor (List ℕ)) → Type 0
AreInOrder names = IsSortedBy (λ own other. comes_before own.now other.now) names

-- the first of the names that is alike but for case stands at the place
pub record IsFirst (names : List (Bor (List ℕ))) (name : List ℕ) (at : ℕ) : Type 0 where
  pub within : at < length names
  pub same : HoldsAt (λ own. str_eq_ignore_ascii_case own.now name ≡ true) names at
  pub before : AllWithin (λ own. comes_before own.now name ≡ true) names 0 at

-- no name is
abbrev pub IsUnlike : List (Bor (List ℕ)) → List ℕ → Type 0
IsUnlike names name = (at : ℕ) → IsFirst names name at → ⊥

-- those for which the test holds were marked as well
abbrev pub Marks : List (Bor (List ℕ)) → List Bool → List Bool → (List ℕ → Bool) → Type 0
Marks names old new test =
    (name : List ℕ) (at : ℕ) → IsFirst names name at → slice_index_or new at false ≡ slice_index_or old at false || test name

-- the marks are what the test says
abbrev pub Knows : List (Bor (List ℕ)) → List Bool → (List ℕ → Bool) → Type 0
Knows names marks test =
    (name : List ℕ) (at : ℕ) → IsFirst names name at → slice_index_or marks at false ≡ test name
