-- The value of X-Forwarded-For and a host can stand in a field line.
use Rattle.std.proofs.Common.{◌≡◌, ℕ, suc, ◌<◌, Bool, true, false, not, ◌||◌, ◌&&◌, List, [], ◌∷◌, ◌++◌, length, refl, sym, ap, subst, ◌∙◌, arith, append_assoc}
use Rattle.std.specs.Prelude.{All, IsTrue, nat_le, codes, if◌then◌else◌}
use Rattle.std.proofs.lemmas.Bool.Decides.{nat_tests}
use Rattle.std.proofs.lemmas.List.Elements.{All-nil, All-cons, All-head, All-tail, All-append}
use Rattle.std.proofs.lemmas.List.Sums.{AllPass-from_list_all}
use Rattle.http_header.specs.Token.{is_value_byte}
use Rattle.http_header.specs.FieldValue.{IsFieldValue}
use Rattle.gw_fields.specs.Fields.{is_named}
use Rattle.gw_fields.specs.Lines.{listed, values_text}
use Rattle.gw_fields.specs.Lists.{is_blank, skip_blanks}
use Rattle.gw_head.specs.Checks.{is_bad_host, is_bad_host_byte}
use Rattle.gw_head.specs.Written.{IsPlainField}
use Rattle.gw_head.proofs.Facts.{shorter}
use Rattle.gw_proxy.proofs.FieldLemmas.{Pair}
use Rattle.gw_proxy.proofs.ValueLemmas.{IsFit, IsMark, back_by, mark, marks_fit}

-- a text whose end is the peer, with no blank in front
record Shows (text peer : List ℕ) : Type 0 where
  good : IsFieldValue text
  front : skip_blanks text ≡ text
  before : List ℕ
  ends : text ≡ before ++ peer

-- a bare value and a comma behind it
front_listed : (value rest : List ℕ) → skip_blanks value ≡ value → skip_blanks (listed value ++ rest) ≡ listed value ++ rest
front_listed [] rest bare = refl
front_listed (b ∷ value) rest bare = by_test (is_blank b) refl
  where
    by_test : (v : Bool) → is_blank b ≡ v → skip_blanks (listed (b ∷ value) ++ rest) ≡ listed (b ∷ value) ++ rest
    by_test true is =
        let all = ap (λ (v : Bool). if v then skip_blanks value else b ∷ value) is in
        let short = shorter value in
        let size : length (skip_blanks value) ≡ suc (length value) = ap length (sym all ∙ bare) in
        absurd (omega arith)
    by_test false is = ap (λ (v : Bool). if v then skip_blanks (listed value ++ rest) else b ∷ (listed value ++ rest)) is

shows_more : (v : Bool) (value text peer : List ℕ) → IsFieldValue value → skip_blanks value ≡ value → Shows (text ++ peer) peer
    → Shows ((if v then listed value ++ text else text) ++ peer) peer
shows_more false value text peer good bare has = has
shows_more true value text peer good bare has =
    let P : ℕ → Type 0 = λ b. IsTrue (is_value_byte b) in
    let same = append_assoc (listed value) text peer in
    record {
      good = subst IsFieldValue (sym same) (All-append P (listed value) (text ++ peer)
          (All-append P value (codes ", ") good (AllPass-from_list_all is_value_byte (codes ", ") refl)) has.good);
      front = ap skip_blanks same ∙ front_listed value (text ++ peer) bare ∙ sym same;
      before = listed value ++ has.before;
      ends = same ∙ ap (λ l. listed value ++ l) has.ends ∙ sym (append_assoc (listed value) has.before peer);
    }

shows : (name : List ℕ) (fields : List Pair) (peer : List ℕ) → All IsPlainField fields → Shows peer peer
    → Shows (values_text name fields ++ peer) peer
shows name [] peer all here = here
shows name (field ∷ fields) peer all here =
    let is = All-head IsPlainField field fields all in
    shows_more (is_named name field) field.1 (values_text name fields) peer is.value is.bare.front
    (shows name fields peer (All-tail IsPlainField field fields all) here)

pub forwarded_fits : (name : List ℕ) (fields : List Pair) (peer : List ℕ) → All IsPlainField fields → All IsMark peer → 0 < length peer
    → IsFit (values_text name fields ++ peer)
forwarded_fits name fields peer all marks some =
    let alone = marks_fit peer marks in
    let has = shows name fields peer all (record { good = alone.good; front = alone.bare.front; before = []; ends = refl }) in
    record {
      good = has.good;
      bare = record { front = has.front; back = back_by (values_text name fields ++ peer) has.before peer has.ends some marks };
    }

-- ---- hosts

host_mark : (b : ℕ) → is_bad_host_byte b ≡ false → IsMark b
host_mark b good =
    let visible = low_high (nat_le 33 b) (nat_le b 126) _ good in
    mark b (grind (arith, nat_tests)) (grind (arith, nat_tests))
  where
    low_high : (v w x : Bool) → (not (v && w) || x) ≡ false → (v ≡ true) × (w ≡ true)
    low_high true true x e = (refl, refl)
    low_high true false x e = absurd (cc)
    low_high false w x e = absurd (cc)

host_marks : (host : List ℕ) → is_bad_host host ≡ false → All IsMark host
host_marks [] good = All-nil IsMark
host_marks (b ∷ host) good =
    let parts = each (is_bad_host_byte b) (is_bad_host host) good in
    All-cons IsMark b host (host_mark b parts.0) (host_marks host parts.1)
  where
    each : (v w : Bool) → (v || w) ≡ false → (v ≡ false) × (w ≡ false)
    each false w e = (refl, e)
    each true w e = absurd (cc)

pub host_fits : (host : List ℕ) → is_bad_host host ≡ false → IsFit host
host_fits host good = marks_fit host (host_marks host good)
