-- The elements of a list, one after another.
use Rattle.std.proofs.Common.{◌≡◌, ℕ, ◌+◌, ◌-◌, ◌<◌, ◌≤◌, Bool, List, [], ◌∷◌, length, take, drop, Some, None, sym, subst, arith, length-drop}
use Rattle.std.proofs.Math.Seq.{take-length}
use Rattle.std.specs.List.{position, position_or_len}
use Rattle.std.proofs.lemmas.Bool.Decides.{nat_tests}
use Rattle.std.proofs.lemmas.List.Sums.{fails_before_first}
use Rattle.std.proofs.lemmas.List.Splits.{slice_split_none, slice_split_first}
use Rattle.gw_fields.specs.Lists.{is_comma, elements_of}

place_of_none : {X : Type 0} (p : X → Bool) (xs : List X) → position p xs ≡ None → length xs ≤ position_or_len p xs
place_of_none p xs h = grind (arith, nat_tests)

place_of_some : {X : Type 0} (p : X → Bool) (xs : List X) (i : ℕ) → position p xs ≡ Some i
    → (i ≡ position_or_len p xs) × (i < length xs)
place_of_some p xs i h = grind (arith, nat_tests)

pub one_element : (value : List ℕ) → position is_comma value ≡ None → elements_of value ≡ value ∷ []
one_element value h =
    let past = place_of_none is_comma value h in
    slice_split_none is_comma value (λ k d within. fails_before_first is_comma value k d (omega arith))

pub first_element : (value : List ℕ) (i : ℕ) → position is_comma value ≡ Some i
    → elements_of value ≡ take i value ∷ elements_of (drop (i + 1) value)
first_element value i h =
    let found = place_of_some is_comma value i h in
    let e : position_or_len is_comma value ≡ i = sym found.0 in
    subst (λ n. elements_of value ≡ take n value ∷ elements_of (drop (n + 1) value)) e
    (slice_split_first is_comma value 0 (omega arith))

pub take_rest : (xs : List ℕ) (n : ℕ) → take (length xs - n) (drop n xs) ≡ drop n xs
take_rest xs n = rw (← length-drop n xs) (take-length (drop n xs))
