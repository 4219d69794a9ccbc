-- The test of a Content-Length, and the parts of it.
use Rattle.std.proofs.Common.{◌≡◌, ℕ, ◌<◌, ◌≤◌, ◌^◌, ◌-◌, ◌∙◌, Bool, true, false, List, length, min, refl, sym, arith}
use Rattle.std.specs.Prelude.{◌==◌, ◌&&◌}
use Rattle.std.specs.Char.{is_ascii_digit}
use Rattle.std.specs.Str.Parse.{digits_value}
use Rattle.std.proofs.lemmas.Bool.{eqb-false, false≢true, ltb-true, lt-ltb}
use Rattle.std.proofs.lemmas.List.Sums.{AllPass-from_list_all, list_all-from_AllPass}
use Rattle.httparse.specs.Grammar.{AllPass}
use Rattle.gw_head.specs.Fields.{is_length}

-- the parts of the test
pub record IsLength (value : List ℕ) (n : ℕ) : Type 0 where
  pub some : 0 < length value
  pub digits : AllPass is_ascii_digit value
  pub number : digits_value 10 value ≡ n
  pub small : n < 2 ^ 63

all_three : (a b c : Bool) → a ≡ true → b ≡ true → c ≡ true → (a && (b && c)) ≡ true
all_three true true true p q r = refl
all_three true true false p q r = r
all_three true false c p q r = q
all_three false b c p q r = p

both : (a b : Bool) → (a && b) ≡ true → (a ≡ true) × (b ≡ true)
both true b e = (refl, e)
both false b e = absurd (false≢true e)

pub length_yes : (value : List ℕ) (n : ℕ) → IsLength value n → is_length value ≡ true
length_yes value n is =
    all_three _ _ _ (lt-ltb _ _ is.some) (list_all-from_AllPass is_ascii_digit value is.digits)
    (lt-ltb _ _ (rw is.number is.small))

length_from : (value : List ℕ) → is_length value ≡ true → IsLength value (digits_value 10 value)
length_from value e =
    let outer = both _ _ e in
    let inner = both _ _ outer.1 in
    record {
      some = ltb-true _ _ outer.0;
      digits = AllPass-from_list_all is_ascii_digit value inner.0;
      number = refl;
      small = ltb-true _ _ inner.1;
    }

no_length : (value : List ℕ) (r : Bool) → is_length value ≡ r → ((n : ℕ) → IsLength value n → ⊥) → r ≡ false
no_length value true e none = absurd (none _ (length_from value e))
no_length value false e none = refl

pub length_no : (value : List ℕ) → ((n : ℕ) → IsLength value n → ⊥) → is_length value ≡ false
length_no value none = no_length value (is_length value) refl none

pub length_is : (value : List ℕ) (number : ℕ) (is_empty : Bool) → is_empty ≡ (length value == 0) → is_empty ≡ false
    → AllPass is_ascii_digit value → number ≡ min (digits_value 10 value) (2 ^ 64 - 1) → number ≤ 9223372036854775807
    → (is_length value ≡ true) × (number ≡ digits_value 10 value)
length_is value number is_empty empty other digits least most =
    let some = eqb-false (length value) 0 (sym empty ∙ other) in
    let same : digits_value 10 value ≡ number = omega arith in
    (length_yes value number (record { some = omega (arith, some); digits = digits; number = same; small = omega arith }), sym same)
