-- The first byte that passes a test.
use Rattle.std.proofs.Common.{◌≡◌, ℕ, ◌≤◌, Bool, List, length, Some, None, arith}
use Rattle.std.specs.Prelude.{not}
use Rattle.std.specs.List.{position, position_or_len}
use Rattle.std.proofs.lemmas.Bool.Decides.{nat_tests}
use Rattle.std.proofs.lemmas.List.Sums.{prefix_len-le-length}

pub place_of_some : {X : Type 0} (p : X → Bool) (xs : List X) (i : ℕ) → position p xs ≡ Some i → i ≡ position_or_len p xs
place_of_some p xs i h = grind (arith, nat_tests)

place_past : {X : Type 0} (p : X → Bool) (xs : List X) → position p xs ≡ None → length xs ≤ position_or_len p xs
place_past p xs h = grind (arith, nat_tests)

pub place_of_none : {X : Type 0} (p : X → Bool) (xs : List X) → position p xs ≡ None → length xs ≡ position_or_len p xs
place_of_none p xs h = let past = place_past p xs h in omega (arith, prefix_len-le-length (λ x. not (p x)) xs)
