-- The walk over a head's fields.
use Rattle.std.proofs.Common.{◌≡◌, ℕ, ◌+◌, ◌-◌, ◌*◌, ◌<◌, min, take, Bool, true, false, List, [], ◌∷◌, length, get_or, drop, map, refl, sym, ap, ◌∙◌, arith}
use Rattle.std.specs.Prelude.{IsTrue, ◌↔◌, ◌&&◌, if◌then◌else◌}
use Rattle.std.specs.Char.{to_ascii_lowercase, is_ascii_digit, digit_value}
use Rattle.std.specs.Int.{IsInRange}
use Rattle.std.specs.Str.Parse.{digits_value}
use Rattle.httparse.specs.Grammar.{AllPass}
use Rattle.std.proofs.lemmas.Int.Digits.{digits_value_push}
use Rattle.std.proofs.lemmas.Str.{digit_value_digit}
use Rattle.std.proofs.lemmas.List.Elements.{All-more}
use Rattle.std.specs.Str.{str_eq_ignore_ascii_case}
use Rattle.std.proofs.lemmas.Slice.Eq.{bytes_eq-Decides}
use Rattle.std.proofs.lemmas.Bool.Decides.{same_from_decides}
use Rattle.std.proofs.lemmas.List.{at_drop_more, take_more}
use Rattle.std.specs.Prelude.{bytes_eq}
use Rattle.std.specs.List.{list_all}
use Rattle.gw_head.specs.Fields.{values_named, agrees}

pub same_name : (r : Bool) (a b : List ℕ) → IsTrue r ↔ (map to_ascii_lowercase a ≡ map to_ascii_lowercase b)
    → str_eq_ignore_ascii_case a b ≡ r
same_name r a b test = sym (same_from_decides r (str_eq_ignore_ascii_case a b) test
    (bytes_eq-Decides (map to_ascii_lowercase a) (map to_ascii_lowercase b)))

-- the values from this field on, where the test of its name answered r
pub values_more : {X : Type 0} (name : List ℕ) (pair : X → List ℕ × List ℕ) (fields : List X) (i : ℕ) (d : X) (r answer : Bool)
    (found : List ℕ) → i < length fields → found ≡ (pair (get_or fields i d)).0
    → IsTrue r ↔ (map to_ascii_lowercase found ≡ map to_ascii_lowercase name) → r ≡ answer
    → values_named name (map pair (drop i fields))
    ≡ (if answer then (pair (get_or fields i d)).1 ∷ values_named name (map pair (drop (i + 1) fields))
    else values_named name (map pair (drop (i + 1) fields)))
values_more name pair fields i d r answer found within is test answered =
    let rest = values_named name (map pair (drop (i + 1) fields)) in
    let field = pair (get_or fields i d) in
    at_drop_more (λ fs. values_named name (map pair fs)) fields i d within
    ∙ ap (λ a. if str_eq_ignore_ascii_case a name then field.1 ∷ rest else rest) (sym is)
    ∙ ap (λ b. if b then field.1 ∷ rest else rest) (same_name r found name test ∙ answered)

-- the values of that name are all the same where each field agrees
pub agree_values : (name value : List ℕ) (fields : List (List ℕ × List ℕ))
    → list_all (agrees name value) fields ≡ list_all (bytes_eq value) (values_named name fields)
agree_values name value [] = refl
agree_values name value (field ∷ fields) =
    agree_step (str_eq_ignore_ascii_case field.0 name) value field.1 (values_named name fields)
    (list_all (agrees name value) fields) (agree_values name value fields)
  where
    agree_step : (r : Bool) (value found : List ℕ) (values : List (List ℕ)) (rest : Bool)
        → rest ≡ list_all (bytes_eq value) values
        → ((if r then bytes_eq value found else true) && rest)
        ≡ list_all (bytes_eq value) (if r then found ∷ values else values)
    agree_step true value found values rest e = ap (λ b. bytes_eq value found && b) e
    agree_step false value found values rest e = e

length_if : {X : Type 0} (r : Bool) (x : X) (rest : List X)
    → length (if r then x ∷ rest else rest) ≡ (if r then 1 else 0) + length rest
length_if true x rest = omega arith
length_if false x rest = omega arith

-- how many there are from this field on
pub count_more : {X : Type 0} (name : List ℕ) (pair : X → List ℕ × List ℕ) (fields : List X) (i : ℕ) (d : X) (r answer : Bool)
    (found : List ℕ) → i < length fields → found ≡ (pair (get_or fields i d)).0
    → IsTrue r ↔ (map to_ascii_lowercase found ≡ map to_ascii_lowercase name) → r ≡ answer
    → length (values_named name (map pair (drop i fields)))
    ≡ (if answer then 1 else 0) + length (values_named name (map pair (drop (i + 1) fields)))
count_more name pair fields i d r answer found within is test answered =
    ap length (values_more name pair fields i d r answer found within is test answered) ∙ length_if answer _ _

pub only_one : {X : Type 0} (xs : List X) (x y : X) (rest : List X) → length xs ≡ 1 → xs ≡ x ∷ rest → y ≡ x → xs ≡ y ∷ []
only_one xs x y [] one is same = is ∙ ap (λ v. v ∷ []) (sym same)
only_one xs x y (z ∷ rest) one is same = absurd (omega (arith, ap length is))

-- ---- the number of a Content-Length

-- one more digit, where numbers stop at M
pub number_step : (value : List ℕ) (i number tenfold result M : ℕ) → i < length value
    → AllPass is_ascii_digit (take i value) → is_ascii_digit (get_or value i 0) ≡ true
    → IsInRange 48 57 (get_or value i 0)
    → number ≡ min (digits_value 10 (take i value)) M → tenfold ≡ min (number * 10) M
    → result ≡ min (tenfold + (get_or value i 0 - 48)) M
    → AllPass is_ascii_digit (take (i + 1) value) × (result ≡ min (digits_value 10 (take (i + 1) value)) M)
number_step value i number tenfold result M within all digit range before times is =
    let e : digits_value 10 (take (i + 1) value) ≡ digits_value 10 (take i value) * 10 + digit_value (get_or value i 0) =
    ap (digits_value 10) (take_more value i 0 within) ∙ digits_value_push 10 (take i value) (get_or value i 0) in
    let v = digit_value_digit (get_or value i 0) range in
    (All-more (λ b. IsTrue (is_ascii_digit b)) value i 0 within all digit, omega arith)
