-- Which bytes make a good chunk line, and what size they say.
use Rattle.std.proofs.Common.{◌≡◌, ℕ, ◌+◌, ◌*◌, ◌^◌, ◌<◌, List, [], ◌∷◌, ◌++◌, length, refl, sym, ap, ◌∙◌, subst, arith, Bool, true, false, min, ⊎_elim}
use Rattle.std.proofs.lemmas.Bool.{lt-ltb, ltb-true, eqb-true, ne_eqb, or_cases, and_parts, and_from, not_from_false, not-true}
use Rattle.std.specs.Prelude.{◌==◌, not, if◌then◌else◌}
use Rattle.std.specs.Char.{digit_value}
use Rattle.std.specs.List.{list_all}
use Rattle.std.specs.Str.Parse.{AllDigits, digits_value_after, digits_value, IsNumeral}
use Rattle.gw_chunk.specs.declared.lines.LineForm.{LineForm}
use Rattle.gw_chunk.specs.declared.lines.LineForm.TheVariants.{Empty, Digits, Blanks, Extension, Return, Broken}
use Rattle.gw_chunk.specs.Bytes.{is_hex, is_blank, is_extension_byte}
use Rattle.gw_chunk.specs.Chunked.{IsExtension, NoFeed}
use Rattle.gw_chunk.specs.Lines.{form_behind_size, line_form, with_digit, line_size}

-- the form and the size behind the bytes
abbrev pub run : LineForm → List ℕ → LineForm
run f [] = f
run f (b ∷ l) = run (line_form f b) l

abbrev pub sized : LineForm → ℕ → List ℕ → ℕ
sized f n [] = n
sized f n (b ∷ l) = sized (line_form f b) (line_size f n b) l

pub run-append : (f : LineForm) (a b : List ℕ) → run f (a ++ b) ≡ run (run f a) b
run-append f [] b = refl
run-append f (x ∷ a) b = run-append (line_form f x) a b

pub sized-append : (f : LineForm) (n : ℕ) (a b : List ℕ) → sized f n (a ++ b) ≡ sized (run f a) (sized f n a) b
sized-append f n [] b = refl
sized-append f n (x ∷ a) b = sized-append (line_form f x) (line_size f n x) a b

-- ---- behind the size

abbrev is_past : LineForm → Bool
is_past Empty = false
is_past Digits = false
is_past Blanks = true
is_past Extension = true
is_past Return = true
is_past Broken = true

past_behind_size : (b : ℕ) → is_past (form_behind_size b) ≡ true
past_behind_size b = cases (is_blank b) (b == 59) (b == 13)
  where
    cases : (u v w : Bool) → is_past (if u then Blanks else (if v then Extension else (if w then Return else Broken))) ≡ true
    cases true v w = refl
    cases false true w = refl
    cases false false true = refl
    cases false false false = refl

past_step : (f : LineForm) (b : ℕ) → is_past f ≡ true → is_past (line_form f b) ≡ true
past_step Empty b h = absurd (cc)
past_step Digits b h = absurd (cc)
past_step Blanks b h = past_behind_size b
past_step Extension b h = cases (b == 13)
  where
    cases : (v : Bool) → is_past (if v then Return else Extension) ≡ true
    cases true = refl
    cases false = refl
past_step Return b h = refl
past_step Broken b h = refl

past_size : (f : LineForm) (n b : ℕ) → is_past f ≡ true → line_size f n b ≡ n
past_size Empty n b h = absurd (cc)
past_size Digits n b h = absurd (cc)
past_size Blanks n b h = refl
past_size Extension n b h = refl
past_size Return n b h = refl
past_size Broken n b h = refl

sized_past : (f : LineForm) (n : ℕ) (l : List ℕ) → is_past f ≡ true → sized f n l ≡ n
sized_past f n [] h = refl
sized_past f n (b ∷ l) h =
    ap (λ m. sized (line_form f b) m l) (past_size f n b h) ∙ sized_past (line_form f b) n l (past_step f b h)

-- ---- good lines

run_extension : (bytes : List ℕ) → list_all is_extension_byte bytes ≡ true → run Extension (bytes ++ 13 ∷ []) ≡ Return
run_extension [] h = refl
run_extension (b ∷ bytes) h =
    let parts = and_parts (is_extension_byte b) (list_all is_extension_byte bytes) h in
    let other : (b == 13) ≡ false = not-true (b == 13) (and_parts (not (b == 13)) (not (b == 10)) parts.0).0 in
    ap (λ v. run (if v then Return else Extension) (bytes ++ 13 ∷ [])) other ∙ run_extension bytes parts.1

-- from the digits or the blanks, the rest of a good line leads to its CR, and leaves the size
record Closes (f : LineForm) (n : ℕ) (l : List ℕ) : Type 0 where
  form : run f l ≡ Return
  size : sized f n l ≡ n

closes_extension : (n : ℕ) (extension : List ℕ) → IsExtension extension → Closes Digits n (extension ++ 13 ∷ []) × Closes Blanks n (extension ++ 13 ∷ [])
closes_extension n [] h = (record { form = refl; size = refl }, record { form = refl; size = refl })
closes_extension n (b ∷ bytes) h =
    let C : LineForm → ℕ → Type 0 = λ f s. Closes f n (s ∷ (bytes ++ 13 ∷ [])) in
    let D : ℕ → Type 0 = λ s. C Digits s × C Blanks s in
    subst D (sym h.0) (
      record { form = run_extension bytes h.1; size = sized_past Extension n (bytes ++ 13 ∷ []) refl },
      record { form = run_extension bytes h.1; size = sized_past Extension n (bytes ++ 13 ∷ []) refl },
    )

run_blanks : (blanks : List ℕ) → list_all is_blank blanks ≡ true → run Blanks blanks ≡ Blanks
run_blanks [] h = refl
run_blanks (b ∷ blanks) h =
    let parts = and_parts (is_blank b) (list_all is_blank blanks) h in
    ap (λ v. run (if v then Blanks else (if b == 59 then Extension else (if b == 13 then Return else Broken))) blanks) parts.0
    ∙ run_blanks blanks parts.1

-- a first blank behind the digits
blank_step : (n b : ℕ) → is_blank b ≡ true → (line_form Digits b ≡ Blanks) × (line_size Digits n b ≡ n)
blank_step n b h =
    let P : ℕ → Type 0 = λ s. (line_form Digits s ≡ Blanks) × (line_size Digits n s ≡ n) in
    ⊎_elim
    (λ e. subst P (sym (eqb-true b 32 e)) (refl, refl))
    (λ e. subst P (sym (eqb-true b 9 e)) (refl, refl))
    (or_cases (b == 32) (b == 9) h)

closes_blanks : (n : ℕ) (blanks extension : List ℕ) → list_all is_blank blanks ≡ true → IsExtension extension
    → Closes Digits n (blanks ++ (extension ++ 13 ∷ []))
closes_blanks n [] extension h k = (closes_extension n extension k).0
closes_blanks n (b ∷ blanks) extension h k =
    let parts = and_parts (is_blank b) (list_all is_blank blanks) h in
    let step = blank_step n b parts.0 in
    let tail = extension ++ 13 ∷ [] in
    record {
      form = ap (λ f. run f (blanks ++ tail)) step.0 ∙ run-append Blanks blanks tail
          ∙ ap (λ f. run f tail) (run_blanks blanks parts.1) ∙ (closes_extension n extension k).1.form;
      size = ap (λ f. sized f (line_size Digits n b) (blanks ++ tail)) step.0
          ∙ sized_past Blanks (line_size Digits n b) (blanks ++ tail) refl ∙ step.1;
    }

abbrev limit : ℕ
limit = 2 ^ 48

capped : (n m d : ℕ) → n ≡ min m (2 ^ 48) → min (n * 16 + d) (2 ^ 48) ≡ min (m * 16 + d) (2 ^ 48)
capped n m d h = omega arith

run_digits : (digits : List ℕ) → AllDigits 16 digits → run Digits digits ≡ Digits
run_digits [] h = refl
run_digits (b ∷ digits) h =
    ap (λ v. run (if v then Digits else form_behind_size b) digits) (lt-ltb (digit_value b) 16 h.0) ∙ run_digits digits h.1

with_digit-hex : (n m b : ℕ) → n ≡ min m (2 ^ 48) → digit_value b < 16 → with_digit n b ≡ min (m * 16 + digit_value b) (2 ^ 48)
with_digit-hex n m b h hex =
    ap (λ v. if v then min (n * 16 + digit_value b) (2 ^ 48) else n) (lt-ltb (digit_value b) 16 hex) ∙ capped n m (digit_value b) h

sized_digits : (digits : List ℕ) (n m : ℕ) → AllDigits 16 digits → n ≡ min m (2 ^ 48)
    → sized Digits n digits ≡ min (digits_value_after 16 m digits) (2 ^ 48)
sized_digits [] n m h e = e
sized_digits (b ∷ digits) n m h e =
    ap (λ v. sized (if v then Digits else form_behind_size b) (with_digit n b) digits) (lt-ltb (digit_value b) 16 h.0)
    ∙ sized_digits digits (with_digit n b) (m * 16 + digit_value b) h.1 (with_digit-hex n m b e h.0)

-- what a good line but for its LF leads to
pub record GoodInner (digits : List ℕ) (inner : List ℕ) : Type 0 where
  pub form : run Empty inner ≡ Return
  pub size : sized Empty 0 inner ≡ min (digits_value 16 digits) (2 ^ 48)

pub good_inner : (digits blanks extension : List ℕ) → IsNumeral 16 digits → list_all is_blank blanks ≡ true
    → IsExtension extension → GoodInner digits (digits ++ (blanks ++ (extension ++ 13 ∷ [])))
good_inner [] blanks extension h k e = absurd (omega (arith, h.0))
good_inner (b ∷ digits) blanks extension h k e =
    let tail = blanks ++ (extension ++ 13 ∷ []) in
    let is_digit : is_hex b ≡ true = lt-ltb (digit_value b) 16 h.1.0 in
    let first : run Empty (b ∷ (digits ++ tail)) ≡ run Digits (digits ++ tail) =
    ap (λ v. run (if v then Digits else Broken) (digits ++ tail)) is_digit in
    let same : run Digits (digits ++ tail) ≡ run Digits tail =
    run-append Digits digits tail ∙ ap (λ f. run f tail) (run_digits digits h.1.1) in
    let start : with_digit 0 b ≡ min (0 * 16 + digit_value b) (2 ^ 48) = with_digit-hex 0 0 b (omega arith) h.1.0 in
    let value = sized_digits digits (with_digit 0 b) (0 * 16 + digit_value b) h.1.1 start in
    let first_size : sized Empty 0 (b ∷ (digits ++ tail)) ≡ sized Digits (with_digit 0 b) (digits ++ tail) =
    ap (λ v. sized (if v then Digits else Broken) (with_digit 0 b) (digits ++ tail)) is_digit in
    let n = sized Digits (with_digit 0 b) digits in
    record {
      form = first ∙ same ∙ (closes_blanks n blanks extension k e).form;
      size = first_size ∙ sized-append Digits (with_digit 0 b) digits tail
          ∙ ap (λ f. sized f n tail) (run_digits digits h.1.1)
          ∙ (closes_blanks n blanks extension k e).size ∙ value;
    }

-- ---- and back

run_broken : (l : List ℕ) → run Broken l ≡ Return → ⊥
run_broken [] h = cc
run_broken (b ∷ l) h = run_broken l h

back_return : (l : List ℕ) → run Return l ≡ Return → l ≡ []
back_return [] h = refl
back_return (b ∷ l) h = absurd (run_broken l h)

record Extended (l : List ℕ) : Type 0 where
  bytes : List ℕ
  text : l ≡ bytes ++ 13 ∷ []
  good : list_all is_extension_byte bytes ≡ true

extended : (v : Bool) (b : ℕ) (l : List ℕ) → (b == 13) ≡ v → (b ≡ 10 → ⊥) → (run Extension l ≡ Return → Extended l)
    → run (if v then Return else Extension) l ≡ Return → Extended (b ∷ l)
extended true b l e other more h = record {
  bytes = [];
  text = ap (λ x. x ∷ l) (eqb-true b 13 e) ∙ ap (λ r. 13 ∷ r) (back_return l h);
  good = refl;
}
extended false b l e other more h =
    let found = more h in
    record {
      bytes = b ∷ found.bytes;
      text = ap (λ r. b ∷ r) found.text;
      good = and_from (is_extension_byte b) (list_all is_extension_byte found.bytes)
          (and_from (not (b == 13)) (not (b == 10)) (not_from_false (b == 13) e) (not_from_false (b == 10) (ne_eqb b 10 other)))
          found.good;
    }

back_extension : (l : List ℕ) → NoFeed l → run Extension l ≡ Return → Extended l
back_extension [] k h = absurd (cc)
back_extension (b ∷ l) k h = extended (b == 13) b l refl k.0 (back_extension l k.1) h

record Blanked (l : List ℕ) : Type 0 where
  blanks : List ℕ
  extension : List ℕ
  text : l ≡ blanks ++ (extension ++ 13 ∷ [])
  good : list_all is_blank blanks ≡ true
  extended : IsExtension extension

blanked : (u v w : Bool) (b : ℕ) (l : List ℕ) → is_blank b ≡ u → (b == 59) ≡ v → (b == 13) ≡ w → NoFeed l
    → (run Blanks l ≡ Return → Blanked l)
    → run (if u then Blanks else (if v then Extension else (if w then Return else Broken))) l ≡ Return → Blanked (b ∷ l)
blanked true v w b l e f g k more h =
    let found = more h in
    record {
      blanks = b ∷ found.blanks;
      extension = found.extension;
      text = ap (λ r. b ∷ r) found.text;
      good = and_from (is_blank b) (list_all is_blank found.blanks) e found.good;
      extended = found.extended;
    }
blanked false true w b l e f g k more h =
    let found = back_extension l k h in
    record {
      blanks = [];
      extension = b ∷ found.bytes;
      text = ap (λ r. b ∷ r) found.text;
      good = refl;
      extended = (eqb-true b 59 f, found.good);
    }
blanked false false true b l e f g k more h = record {
  blanks = [];
  extension = [];
  text = ap (λ x. x ∷ l) (eqb-true b 13 g) ∙ ap (λ r. 13 ∷ r) (back_return l h);
  good = refl;
  extended = tt;
}
blanked false false false b l e f g k more h = absurd (run_broken l h)

back_blanks : (l : List ℕ) → NoFeed l → run Blanks l ≡ Return → Blanked l
back_blanks [] k h = absurd (cc)
back_blanks (b ∷ l) k h = blanked (is_blank b) (b == 59) (b == 13) b l refl refl refl k.1 (back_blanks l k.1) h

-- the parts of a good line but for its LF
pub record Inner (l : List ℕ) : Type 0 where
  pub digits : List ℕ
  pub blanks : List ℕ
  pub extension : List ℕ
  pub text : l ≡ digits ++ (blanks ++ (extension ++ 13 ∷ []))
  pub are_digits : AllDigits 16 digits
  pub are_blanks : list_all is_blank blanks ≡ true
  pub is_extension : IsExtension extension

digited : (v : Bool) (b : ℕ) (l : List ℕ) → is_hex b ≡ v → NoFeed l → (run Digits l ≡ Return → Inner l)
    → run (if v then Digits else form_behind_size b) l ≡ Return → Inner (b ∷ l)
digited true b l e k more h =
    let found = more h in
    record {
      digits = b ∷ found.digits;
      blanks = found.blanks;
      extension = found.extension;
      text = ap (λ r. b ∷ r) found.text;
      are_digits = (ltb-true (digit_value b) 16 e, found.are_digits);
      are_blanks = found.are_blanks;
      is_extension = found.is_extension;
    }
digited false b l e k more h =
    let found = blanked (is_blank b) (b == 59) (b == 13) b l refl refl refl k (back_blanks l k) h in
    record {
      digits = [];
      blanks = found.blanks;
      extension = found.extension;
      text = found.text;
      are_digits = tt;
      are_blanks = found.good;
      is_extension = found.extended;
    }

back_digits : (l : List ℕ) → NoFeed l → run Digits l ≡ Return → Inner l
back_digits [] k h = absurd (cc)
back_digits (b ∷ l) k h = digited (is_hex b) b l refl k.1 (back_digits l k.1) h

-- and there is a digit
pub record InnerLine (l : List ℕ) : Type 0 where
  pub parts : Inner l
  pub some : 0 < length parts.digits

first_digit : (v : Bool) (b : ℕ) (l : List ℕ) → is_hex b ≡ v → NoFeed l → run (if v then Digits else Broken) l ≡ Return
    → InnerLine (b ∷ l)
first_digit true b l e k h =
    let found = back_digits l k h in
    record {
      parts = record {
        digits = b ∷ found.digits;
        blanks = found.blanks;
        extension = found.extension;
        text = ap (λ r. b ∷ r) found.text;
        are_digits = (ltb-true (digit_value b) 16 e, found.are_digits);
        are_blanks = found.are_blanks;
        is_extension = found.is_extension;
      };
      some = omega arith;
    }
first_digit false b l e k h = absurd (run_broken l h)

pub inner_line : (l : List ℕ) → NoFeed l → run Empty l ≡ Return → InnerLine l
inner_line [] k h = absurd (cc)
inner_line (b ∷ l) k h = first_digit (is_hex b) b l refl k.1 h
