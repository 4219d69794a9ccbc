-- What is true of the order of fields.
use Rattle.std.specs.Prelude.{◌≡◌, ℕ, Bool, List, filter, bytes_eq}
use Rattle.std.specs.List.Sorted.{IsPermutation, IsSortedBy}
use Rattle.gw_fields.specs.Order.{is_below, sorted}

-- the field has just that name
abbrev pub has_name : List ℕ → List ℕ × List ℕ → Bool
has_name name field = bytes_eq field.0 name

-- the same fields, each as often as before
abbrev pub SortedIsPermutation : Type 0
SortedIsPermutation = (fields : List (List ℕ × List ℕ)) → IsPermutation fields (sorted fields)

-- no name is below the one before it
abbrev pub SortedIsOrdered : Type 0
SortedIsOrdered =
    (fields : List (List ℕ × List ℕ)) → IsSortedBy (λ field other. is_below field.0 other.0) (sorted fields)

-- the fields of one name stand as they stood
abbrev pub SortedIsStable : Type 0
SortedIsStable =
    (fields : List (List ℕ × List ℕ)) (name : List ℕ) → filter (has_name name) (sorted fields) ≡ filter (has_name name) fields
