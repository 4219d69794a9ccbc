-- The fields that are read can be written again as they are.
use Rattle.std.proofs.Common.{◌≡◌, ℕ, suc, ◌^◌, ◌<◌, ◌≤◌, Bool, true, false, not, ◌||◌, List, [], ◌∷◌, ◌++◌, length, reverse, refl, sym, ap, subst, ◌∙◌, arith, length-append}
use Rattle.std.specs.Prelude.{All, Some, None, if◌then◌else◌}
use Rattle.std.specs.Str.Parse.{digits_value}
use Rattle.std.proofs.lemmas.Bool.{ltb-true, and_parts}
use Rattle.std.proofs.lemmas.List.{reverse-append, reverse-reverse}
use Rattle.std.proofs.lemmas.List.Elements.{All-nil, All-cons, All-head, All-tail}
use Rattle.httparse.specs.Grammar.{Field, field_value, trim_ows, status_code}
use Rattle.http_header.proofs.TokenLemmas.{IsHeaderName-lowercase}
use Rattle.gw_fields.specs.Lists.{is_blank, skip_blanks}
use Rattle.gw_head.specs.declared.error.HeadError.{HeadError}
use Rattle.gw_head.specs.declared.error.HeadError.TheVariants.{BadLength, LengthAndCoding, Coding, Malformed}
use Rattle.gw_head.specs.declared.reply.ReplyHead.{ReplyHead}
use Rattle.gw_head.specs.Copies.{IsCopyable}
use Rattle.gw_head.specs.Checks.{first_fault, reply_fault, lengths_of, are_bad_lengths, has_bad_code, has_bad_coding, has_length_and_coding, has_bad_length}
use Rattle.gw_head.specs.Fields.{fields_of, is_length}
use Rattle.gw_head.specs.Head.{length_of, lowered, lowered_fields, ReplyHeadOf}
use Rattle.gw_head.specs.Written.{IsBare, IsPlainField, IsWritableReply}
use Rattle.gw_head.proofs.CopyLemmas.{copyable_reply}

-- ---- trimmed values have no blank at their ends

skip_by : (v : Bool) (b : ℕ) (bytes : List ℕ) → is_blank b ≡ v → skip_blanks (skip_blanks bytes) ≡ skip_blanks bytes
    → skip_blanks (skip_blanks (b ∷ bytes)) ≡ skip_blanks (b ∷ bytes)
skip_by true b bytes is again =
    let same : skip_blanks (b ∷ bytes) ≡ skip_blanks bytes = ap (λ (v : Bool). if v then skip_blanks bytes else b ∷ bytes) is in
    ap skip_blanks same ∙ again ∙ sym same
skip_by false b bytes is again =
    let same : skip_blanks (b ∷ bytes) ≡ b ∷ bytes = ap (λ (v : Bool). if v then skip_blanks bytes else b ∷ bytes) is in
    ap skip_blanks same

skip_twice : (bytes : List ℕ) → skip_blanks (skip_blanks bytes) ≡ skip_blanks bytes
skip_twice [] = refl
skip_twice (b ∷ bytes) = skip_by (is_blank b) b bytes refl (skip_twice bytes)

-- what is passed over stood before the rest
record Passes (bytes : List ℕ) : Type 0 where
  front : List ℕ
  same : bytes ≡ front ++ skip_blanks bytes

passes_by : (v : Bool) (b : ℕ) (bytes : List ℕ) → is_blank b ≡ v → Passes bytes → Passes (b ∷ bytes)
passes_by true b bytes is has = record {
  front = b ∷ has.front;
  same = ap (λ l. b ∷ l) has.same
      ∙ sym (ap (λ (v : Bool). b ∷ has.front ++ (if v then skip_blanks bytes else b ∷ bytes)) is);
}
passes_by false b bytes is has = record {
  front = [];
  same = sym (ap (λ (v : Bool). if v then skip_blanks bytes else b ∷ bytes) is);
}

passes : (bytes : List ℕ) → Passes bytes
passes [] = record { front = []; same = refl }
passes (b ∷ bytes) = passes_by (is_blank b) b bytes refl (passes bytes)

pub shorter : (bytes : List ℕ) → length (skip_blanks bytes) ≤ length bytes
shorter bytes =
    let has = passes bytes in
    let size = ap length has.same ∙ length-append has.front (skip_blanks bytes) in
    omega arith

-- a text that begins a bare one is bare in front
begins_bare : (text rest : List ℕ) → skip_blanks (text ++ rest) ≡ text ++ rest → skip_blanks text ≡ text
begins_bare [] rest bare = refl
begins_bare (b ∷ text) rest bare = by_test (is_blank b) refl
  where
    by_test : (v : Bool) → is_blank b ≡ v → skip_blanks (b ∷ text) ≡ b ∷ text
    by_test true is =
        let all = ap (λ (v : Bool). if v then skip_blanks (text ++ rest) else b ∷ (text ++ rest)) is in
        let short = shorter (text ++ rest) in
        let size : length (skip_blanks (text ++ rest)) ≡ suc (length (text ++ rest)) = ap length (sym all ∙ bare) in
        absurd (omega arith)
    by_test false is = ap (λ (v : Bool). if v then skip_blanks text else b ∷ text) is

trimmed_bare : (raw : List ℕ) → IsBare (trim_ows raw)
unfolding trim_ows
trimmed_bare raw =
    let from = skip_blanks raw in
    let turned = skip_blanks (reverse from) in
    let has = passes (reverse from) in
    let whole : from ≡ reverse turned ++ reverse has.front =
    sym (reverse-reverse from) ∙ ap reverse has.same ∙ reverse-append has.front turned in
    record {
      front = begins_bare (reverse turned) (reverse has.front) (ap skip_blanks (sym whole) ∙ skip_twice raw ∙ whole);
      back = ap skip_blanks (reverse-reverse turned) ∙ skip_twice (reverse from) ∙ sym (reverse-reverse turned);
    }

-- ---- fields

field_plain : (field : Field) → IsCopyable (field.name, field_value field)
    → IsPlainField (lowered (field.name, field_value field))
field_plain field is = record { name = IsHeaderName-lowercase field.name is.0; value = is.1; bare = trimmed_bare field.raw }

pub fields_plain : (fields : List Field) → All IsCopyable (fields_of fields) → All IsPlainField (lowered_fields (fields_of fields))
fields_plain [] all = All-nil IsPlainField
fields_plain (field ∷ fields) all =
    All-cons IsPlainField _ _ (field_plain field (All-head IsCopyable (field.name, field_value field) (fields_of fields) all))
    (fields_plain fields (All-tail IsCopyable (field.name, field_value field) (fields_of fields) all))

-- ---- lengths

pub small_by : (value : List ℕ) (values : List (List ℕ)) → are_bad_lengths (value ∷ values) ≡ false → digits_value 10 value < 2 ^ 63
small_by value values good =
    let is = not_true (is_length value) (or_left _ _ good) in
    ltb-true _ _ (and_parts _ _ (and_parts _ _ is).1).1
  where
    or_left : (a b : Bool) → (a || b) ≡ false → a ≡ false
    or_left false b e = refl
    or_left true b e = e

    not_true : (a : Bool) → not a ≡ false → a ≡ true
    not_true true e = refl
    not_true false e = absurd (cc)

lengths_small : (values : List (List ℕ)) (n : ℕ) → are_bad_lengths values ≡ false → length_of values ≡ Some n → n < 2 ^ 63
lengths_small [] n good is = absurd (cc)
lengths_small (value ∷ values) n good is =
    let same : digits_value 10 value ≡ n = cc in
    let small = small_by value values good in
    subst (λ v. v < 2 ^ 63) same small

all_pass : (a b c d : Bool) (e f g h : HeadError) → first_fault ((a, e) ∷ (b, f) ∷ (c, g) ∷ (d, h) ∷ []) ≡ None
    → (a ≡ false) × (d ≡ false)
all_pass false false false false e f g h passes = (refl, refl)
all_pass true b c d e f g h passes = absurd (cc)
all_pass false true c d e f g h passes = absurd (cc)
all_pass false false true d e f g h passes = absurd (cc)
all_pass false false false true e f g h passes = absurd (cc)

-- what passes has a good code and good lengths
passed : (minor code : ℕ) (fields : List (List ℕ × List ℕ)) → reply_fault minor code fields ≡ None
    → (has_bad_code code ≡ false) × (are_bad_lengths (lengths_of fields) ≡ false)
unfolding has_bad_length
passed minor code fields passes =
    all_pass (has_bad_code code) (has_bad_coding minor fields) (has_length_and_coding fields) (has_bad_length fields)
    Malformed Coding LengthAndCoding BadLength passes

pub writable_reply : (bytes : List ℕ) (head : ReplyHead) → ReplyHeadOf bytes head → IsWritableReply head
writable_reply bytes head reads =
    let fields = fields_of reads.parts.fields in
    let good = passed reads.parts.minor (status_code reads.parts) fields reads.passes in
    subst IsWritableReply (sym reads.is) (record {
      plain = fields_plain reads.parts.fields (copyable_reply bytes reads.parts reads.whole.short reads.reads);
      coded = good.0;
      small = λ n is. lengths_small (lengths_of fields) n good.1 is;
    })
