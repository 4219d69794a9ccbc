-- Which bytes make a line of a trailer section.
use Rattle.std.proofs.Common.{◌≡◌, ℕ, ◌<◌, List, [], ◌∷◌, ◌++◌, length, refl, ap, ◌∙◌, arith, Bool, true, false}
use Rattle.std.proofs.lemmas.Bool.{eqb-true, ne_eqb, and_parts, and_from, not_from_false, not-true}
use Rattle.std.specs.Prelude.{◌==◌, not, ◌&&◌, if◌then◌else◌}
use Rattle.std.specs.List.{list_all}
use Rattle.gw_chunk.specs.declared.lines.FieldForm.{FieldForm}
use Rattle.gw_chunk.specs.declared.lines.FieldForm.TheVariants.{Begin, Name, Value, Close, Last, Faulty}
use Rattle.gw_chunk.specs.Bytes.{is_token_byte, is_value_byte}
use Rattle.gw_chunk.specs.Chunked.{NoFeed}
use Rattle.gw_chunk.specs.Lines.{field_form}

-- the form behind the bytes
abbrev pub run : FieldForm → List ℕ → FieldForm
run f [] = f
run f (b ∷ l) = run (field_form f b) l

run-append : (f : FieldForm) (a b : List ℕ) → run f (a ++ b) ≡ run (run f a) b
run-append f [] b = refl
run-append f (x ∷ a) b = run-append (field_form f x) a b

-- ---- good lines

token_colon : is_token_byte 58 ≡ false
unfolding is_token_byte
token_colon = refl

token_return : is_token_byte 13 ≡ false
unfolding is_token_byte
token_return = refl

run_value : (value : List ℕ) → list_all is_value_byte value ≡ true → run Value (value ++ 13 ∷ []) ≡ Close
run_value [] h = refl
run_value (b ∷ value) h =
    let parts = and_parts (is_value_byte b) (list_all is_value_byte value) h in
    let tests = and_parts (not (b == 13)) (not (b == 10) && not (b == 0)) parts.0 in
    let other : (b == 13) ≡ false = not-true (b == 13) tests.0 in
    let some : (b == 0) ≡ false = not-true (b == 0) (and_parts (not (b == 10)) (not (b == 0)) tests.1).1 in
    ap (λ v. run (if v then Close else (if b == 0 then Faulty else Value)) (value ++ 13 ∷ [])) other
    ∙ ap (λ v. run (if v then Faulty else Value) (value ++ 13 ∷ [])) some
    ∙ run_value value parts.1

run_name : (name : List ℕ) → list_all is_token_byte name ≡ true → run Name name ≡ Name
run_name [] h = refl
run_name (b ∷ name) h =
    let parts = and_parts (is_token_byte b) (list_all is_token_byte name) h in
    ap (λ v. run (if v then Name else (if b == 58 then Value else Faulty)) name) parts.0 ∙ run_name name parts.1

run_colon : (l : List ℕ) → run Name (58 ∷ l) ≡ run Value l
run_colon l = ap (λ v. run (if v then Name else Value) l) token_colon

pub run_field : (name value : List ℕ) → 0 < length name → list_all is_token_byte name ≡ true
    → list_all is_value_byte value ≡ true → run Begin (name ++ 58 ∷ (value ++ 13 ∷ [])) ≡ Close
run_field [] value some h k = absurd (omega arith)
run_field (b ∷ name) value some h k =
    let parts = and_parts (is_token_byte b) (list_all is_token_byte name) h in
    let tail = value ++ 13 ∷ [] in
    ap (λ v. run (if v then Name else (if b == 13 then Last else Faulty)) (name ++ 58 ∷ tail)) parts.0
    ∙ run-append Name name (58 ∷ tail) ∙ ap (λ f. run f (58 ∷ tail)) (run_name name parts.1)
    ∙ run_colon tail ∙ run_value value k

pub run_empty : run Begin (13 ∷ []) ≡ Last
run_empty = ap (λ v. run (if v then Name else Last) []) token_return

-- ---- and back

run_faulty : (l : List ℕ) → run Faulty l ≡ Faulty
run_faulty [] = refl
run_faulty (b ∷ l) = run_faulty l

run_last : (l : List ℕ) → run Last l ≡ Close → ⊥
run_last [] h = cc
run_last (b ∷ l) h = cc (run_faulty l)

back_close : (l : List ℕ) → run Close l ≡ Close → l ≡ []
back_close [] h = refl
back_close (b ∷ l) h = absurd (cc (run_faulty l))

record Valued (l : List ℕ) : Type 0 where
  value : List ℕ
  text : l ≡ value ++ 13 ∷ []
  good : list_all is_value_byte value ≡ true

valued : (u v : Bool) (b : ℕ) (l : List ℕ) → (b == 13) ≡ u → (b == 0) ≡ v → (b ≡ 10 → ⊥) → (run Value l ≡ Close → Valued l)
    → run (if u then Close else (if v then Faulty else Value)) l ≡ Close → Valued (b ∷ l)
valued true v b l e f other more h = record {
  value = [];
  text = ap (λ x. x ∷ l) (eqb-true b 13 e) ∙ ap (λ r. 13 ∷ r) (back_close l h);
  good = refl;
}
valued false true b l e f other more h = absurd (cc (run_faulty l))
valued false false b l e f other more h =
    let found = more h in
    record {
      value = b ∷ found.value;
      text = ap (λ r. b ∷ r) found.text;
      good = and_from (is_value_byte b) (list_all is_value_byte found.value)
          (and_from (not (b == 13)) (not (b == 10) && not (b == 0)) (not_from_false (b == 13) e)
          (and_from (not (b == 10)) (not (b == 0)) (not_from_false (b == 10) (ne_eqb b 10 other)) (not_from_false (b == 0) f)))
          found.good;
    }

back_value : (l : List ℕ) → NoFeed l → run Value l ≡ Close → Valued l
back_value [] k h = absurd (cc)
back_value (b ∷ l) k h = valued (b == 13) (b == 0) b l refl refl k.0 (back_value l k.1) h

-- the parts of a field line but for its LF
pub record Inner (l : List ℕ) : Type 0 where
  pub name : List ℕ
  pub value : List ℕ
  pub text : l ≡ name ++ 58 ∷ (value ++ 13 ∷ [])
  pub is_token : list_all is_token_byte name ≡ true
  pub is_value : list_all is_value_byte value ≡ true

named : (u v : Bool) (b : ℕ) (l : List ℕ) → is_token_byte b ≡ u → (b == 58) ≡ v → NoFeed l → (run Name l ≡ Close → Inner l)
    → run (if u then Name else (if v then Value else Faulty)) l ≡ Close → Inner (b ∷ l)
named true v b l e f k more h =
    let found = more h in
    record {
      name = b ∷ found.name;
      value = found.value;
      text = ap (λ r. b ∷ r) found.text;
      is_token = and_from (is_token_byte b) (list_all is_token_byte found.name) e found.is_token;
      is_value = found.is_value;
    }
named false true b l e f k more h =
    let found = back_value l k h in
    record {
      name = [];
      value = found.value;
      text = ap (λ x. x ∷ l) (eqb-true b 58 f) ∙ ap (λ r. 58 ∷ r) found.text;
      is_token = refl;
      is_value = found.good;
    }
named false false b l e f k more h = absurd (cc (run_faulty l))

back_name : (l : List ℕ) → NoFeed l → run Name l ≡ Close → Inner l
back_name [] k h = absurd (cc)
back_name (b ∷ l) k h = named (is_token_byte b) (b == 58) b l refl refl k.1 (back_name l k.1) h

pub record InnerField (l : List ℕ) : Type 0 where
  pub parts : Inner l
  pub some : 0 < length parts.name

first_byte : (u v : Bool) (b : ℕ) (l : List ℕ) → is_token_byte b ≡ u → NoFeed l
    → run (if u then Name else (if v then Last else Faulty)) l ≡ Close → InnerField (b ∷ l)
first_byte true v b l e k h =
    let found = back_name l k h in
    record {
      parts = record {
        name = b ∷ found.name;
        value = found.value;
        text = ap (λ r. b ∷ r) found.text;
        is_token = and_from (is_token_byte b) (list_all is_token_byte found.name) e found.is_token;
        is_value = found.is_value;
      };
      some = omega arith;
    }
first_byte false true b l e k h = absurd (run_last l h)
first_byte false false b l e k h = absurd (cc (run_faulty l))

pub inner_field : (l : List ℕ) → NoFeed l → run Begin l ≡ Close → InnerField l
inner_field [] k h = absurd (cc)
inner_field (b ∷ l) k h = first_byte (is_token_byte b) (b == 13) b l refl k.1 h

-- ---- the empty line

never_last_close : (l : List ℕ) → run Close l ≡ Last → ⊥
never_last_close [] h = cc
never_last_close (b ∷ l) h = cc (run_faulty l)

value_cases : (u v : Bool) (l : List ℕ) → (run Value l ≡ Last → ⊥)
    → run (if u then Close else (if v then Faulty else Value)) l ≡ Last → ⊥
value_cases true v l more h = never_last_close l h
value_cases false true l more h = cc (run_faulty l)
value_cases false false l more h = more h

never_last_value : (l : List ℕ) → run Value l ≡ Last → ⊥
never_last_value [] h = cc
never_last_value (b ∷ l) h = value_cases (b == 13) (b == 0) l (never_last_value l) h

name_cases : (u v : Bool) (l : List ℕ) → (run Name l ≡ Last → ⊥)
    → run (if u then Name else (if v then Value else Faulty)) l ≡ Last → ⊥
name_cases true v l more h = more h
name_cases false true l more h = never_last_value l h
name_cases false false l more h = cc (run_faulty l)

never_last_name : (l : List ℕ) → run Name l ≡ Last → ⊥
never_last_name [] h = cc
never_last_name (b ∷ l) h = name_cases (is_token_byte b) (b == 58) l (never_last_name l) h

back_last : (l : List ℕ) → run Last l ≡ Last → l ≡ []
back_last [] h = refl
back_last (b ∷ l) h = absurd (cc (run_faulty l))

pub inner_empty : (l : List ℕ) → run Begin l ≡ Last → l ≡ 13 ∷ []
inner_empty [] h = absurd (cc)
inner_empty (b ∷ l) h = cases (is_token_byte b) (b == 13) refl h
  where
    cases : (u v : Bool) → (b == 13) ≡ v → run (if u then Name else (if v then Last else Faulty)) l ≡ Last → b ∷ l ≡ 13 ∷ []
    cases true v e k = absurd (never_last_name l k)
    cases false true e k = ap (λ x. x ∷ l) (eqb-true b 13 e) ∙ ap (λ r. 13 ∷ r) (back_last l k)
    cases false false e k = absurd (cc (run_faulty l))
