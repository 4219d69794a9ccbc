-- What a search for a byte finds.
use Rattle.std.proofs.Common.{◌≡◌, ℕ, ◌<◌, Bool, true, false, List, length, get_or, Option, Some, None, refl, arith}
use Rattle.std.specs.Prelude.{IfSome}
use Rattle.std.specs.List.{position, position_or_len}
use Rattle.std.proofs.lemmas.Bool.Decides.{nat_tests}
use Rattle.std.proofs.lemmas.List.Sums.{position_or_len_is}
use Rattle.memchr.specs.Find.{IsFirstByte}

no_pass : (b : Bool) → (b ≡ true → ⊥) → b ≡ false
no_pass true h = absurd (h refl)
no_pass false h = refl

is_some_place : (test : ℕ → Bool) (bytes : List ℕ) (i : ℕ) → position_or_len test bytes ≡ i → i < length bytes → Some i ≡ position test bytes
is_some_place test bytes i e within = grind (arith, nat_tests)

is_no_place : (test : ℕ → Bool) (bytes : List ℕ) → position_or_len test bytes ≡ length bytes → None ≡ position test bytes
is_no_place test bytes e = grind (arith, nat_tests)

pub first_place : (test : ℕ → Bool) (bytes : List ℕ) (r : Option ℕ) → IsFirstByte test bytes r → r ≡ position test bytes
first_place test bytes None h =
    is_no_place test bytes
    (position_or_len_is test bytes (length bytes) 0 (omega arith) (λ k less. no_pass (test (get_or bytes k 0)) (h k (omega arith) less))
    (λ less. absurd (omega arith)))
first_place test bytes (Some i) h =
    let high = h.0.high in
    is_some_place test bytes i
    (position_or_len_is test bytes i 0 (omega arith) (λ k less. no_pass (test (get_or bytes k 0)) (h.0.before k (omega arith) less))
    (λ less. h.1))
    high

pub first_within : (test : ℕ → Bool) (bytes : List ℕ) (r : Option ℕ) → IsFirstByte test bytes r → IfSome r (λ at. at < length bytes)
first_within test bytes None h = tt
first_within test bytes (Some i) h = h.0.high
