-- A reply's head that is written plainly is read with just its parts.
use Rattle.std.proofs.Common.{◌≡◌, ℕ, zero, suc, ◌+◌, ◌-◌, ◌/◌, ◌%◌, ◌^◌, ◌<◌, ◌≤◌, Bool, true, false, List, [], ◌∷◌, ◌++◌, length, take, map, refl, sym, ap, ◌∙◌, arith, rules, append_assoc, append-nil, length-append}
use Rattle.std.specs.Prelude.{IsTrue, not, cond, codes, decimal, Some, None, ◌==◌, if◌then◌else◌, slice_index}
use Rattle.std.specs.List.{list_all, position_or_len}
use Rattle.std.specs.Char.{is_ascii_digit}
use Rattle.std.specs.Str.Parse.{AllDigits, digits_value}
use Rattle.std.proofs.Math.Seq.{take-append-add}
use Rattle.std.proofs.lemmas.Bool.Decides.{nat_tests}
use Rattle.std.proofs.lemmas.Fmt.{decimal_step, decimal_digit, decimal_is_IsNumeral}
use Rattle.std.proofs.lemmas.List.{length-map}
use Rattle.std.proofs.lemmas.List.Elements.{All-nil, All-cons, All-head, All-tail}
use Rattle.std.proofs.lemmas.List.Sums.{AllPass-from_list_all}
use Rattle.httparse.specs.Grammar.{AllPass, is_value_byte, crlf, ResponseHead as ReplyParts, print_response, ReadsResponse}
use Rattle.httparse.proofs.GrammarLemmas.{print_response-append, cons-append}
use Rattle.gw_fields.specs.Order.{lines_of}
use Rattle.gw_head.specs.declared.error.HeadError.{HeadError}
use Rattle.gw_head.specs.declared.error.HeadError.TheVariants.{Malformed, TooManyFields, Version, BadLength, LengthAndCoding, Coding}
use Rattle.gw_head.specs.Checks.{first_fault, reply_fault, has_bad_code, has_bad_coding, has_length_and_coding, has_bad_length, has_other_reply_version, has_too_many_fields}
use Rattle.gw_head.specs.Fields.{fields_of}
use Rattle.gw_head.specs.Head.{reply_head_of, ReplyHeadOf}
use Rattle.gw_head.specs.Lines.{begins_with_other_version, line_count, without_return}
use Rattle.gw_head.specs.Pieces.{before, is_byte}
use Rattle.gw_head.specs.Mark.{head_limit}
use Rattle.gw_head.specs.Written.{IsPlainReply, reply_text, version_text}
use Rattle.gw_head.proofs.GrammarEnd.{passes_other, response_end}
use Rattle.gw_head.proofs.LineLemmas.{reply_lines}
use Rattle.gw_head.proofs.Plain.{written, lines_same, lines_good, fields_same, head_same, fault_same}

-- ---- the code

-- the digits of a code of three digits, and the number that they write
record IsCode (code : ℕ) : Type 0 where
  three : length (decimal code) ≡ 3
  digits : AllPass is_ascii_digit (decimal code)
  value : digits_value 10 (decimal code) ≡ code

one_more : (n : ℕ) → 10 ≤ n → n < 2 ^ 64 → length (decimal n) ≡ length (decimal (n / 10)) + 1
one_more n many small =
    ap length (decimal_step n many small) ∙ length-append (decimal (n / 10)) ((48 + n % 10) ∷ [])

three_digits : (code : ℕ) → 100 ≤ code → code < 1000 → length (decimal code) ≡ 3
three_digits code low high =
    let last = one_more code (omega arith) (omega arith) in
    let middle = one_more (code / 10) (omega arith) (omega arith) in
    let first : length (decimal (code / 10 / 10)) ≡ 1 = ap length (decimal_digit (code / 10 / 10) (omega arith)) in
    omega arith

pub digits_pass : (digits : List ℕ) → AllDigits 10 digits → AllPass is_ascii_digit digits
digits_pass [] all = All-nil (λ b. IsTrue (is_ascii_digit b))
digits_pass (b ∷ digits) all =
    All-cons (λ x. IsTrue (is_ascii_digit x)) b digits (grind (arith, nat_tests)) (digits_pass digits all.1)

is_code : (code : ℕ) → 100 ≤ code → code < 1000 → IsCode code
is_code code low high =
    let numeral = decimal_is_IsNumeral code (omega arith) in
    record { three = three_digits code low high; digits = digits_pass (decimal code) numeral.0.1; value = numeral.1 }

-- a code that passes has three digits
first_passes : (first : Bool) (fault : HeadError) (checks : List (Bool × HeadError)) → first_fault ((first, fault) ∷ checks) ≡ None
    → first ≡ false
first_passes false fault checks passes = refl
first_passes true fault checks passes = search rules

code_range : (code : ℕ) → has_bad_code code ≡ false → (100 ≤ code) × (code < 1000)
unfolding has_bad_code
code_range code good = grind (arith, nat_tests)

-- ---- the first line

record KeepsFront (front line : List ℕ) : Type 0 where
  more : List ℕ
  same : without_return line ≡ front ++ more

keeps_front : (front : List ℕ) (b : ℕ) (rest : List ℕ) → KeepsFront front (front ++ b ∷ rest)
keeps_front front b rest = kept (slice_index line (length line - 1) == 13) refl
  where
    line : List ℕ
    line = front ++ b ∷ rest

    kept : (r : Bool) → (slice_index line (length line - 1) == 13) ≡ r → KeepsFront front line
    kept true is = record {
      more = take (length rest) (b ∷ rest);
      same = ap (λ (v : Bool). if v then take (length line - 1) line else line) is
          ∙ ap (λ n. take n line) (omega (arith, length-append front (b ∷ rest)))
          ∙ take-append-add front (b ∷ rest) (length rest);
    }
    kept false is = record { more = b ∷ rest; same = ap (λ (v : Bool). if v then take (length line - 1) line else line) is }

spoken_front : (front : List ℕ) (b : ℕ) (rest : List ℕ) → ((more : List ℕ) → begins_with_other_version (front ++ more) ≡ false)
    → begins_with_other_version (without_return (front ++ b ∷ rest)) ≡ false
spoken_front front b rest spoken =
    let kept = keeps_front front b rest in
    ap begins_with_other_version kept.same ∙ spoken kept.more

one_past : (b n : ℕ) (text : List ℕ) → take (1 + n) (b ∷ text) ≡ b ∷ take n text
one_past b n text = let next : 1 + n ≡ suc n = omega arith in ap (λ m. take m (b ∷ text)) next

pub before_other : (b : ℕ) (text : List ℕ) → (b == 10) ≡ false → before 10 (b ∷ text) ≡ b ∷ before 10 text
before_other b text other =
    ap (λ (v : Bool). take (cond (not v) (1 + position_or_len (is_byte 10) text) 0) (b ∷ text)) other
    ∙ one_past b (position_or_len (is_byte 10) text) text

-- bytes that pass a test that LF fails stand in the line
pub before_run : (test : ℕ → Bool) (run text : List ℕ) → test 10 ≡ false → AllPass test run
    → before 10 (run ++ text) ≡ run ++ before 10 text
before_run test [] text fails all = refl
before_run test (b ∷ run) text fails all =
    before_other b (run ++ text) (passes_other test b fails (All-head (λ v. test v ≡ true) b run all))
    ∙ ap (λ l. b ∷ l) (before_run test run text fails (All-tail (λ v. test v ≡ true) b run all))

-- what follows the version and its space
abbrev behind_version : ℕ → List ℕ → List (List ℕ × List ℕ) → List ℕ
behind_version code phrase fields =
    (((decimal code ++ codes " ") ++ phrase) ++ codes "\r\n") ++ (lines_of fields ++ codes "\r\n")

spoken_line : (front text : List ℕ) → list_all is_value_byte front ≡ true
    → ((more : List ℕ) → begins_with_other_version (front ++ more) ≡ false)
    → begins_with_other_version (without_return (before 10 (front ++ 32 ∷ text))) ≡ false
spoken_line front text all spoken =
    ap (λ l. begins_with_other_version (without_return l))
    (before_run is_value_byte front (32 ∷ text) refl (AllPass-from_list_all is_value_byte front all)
    ∙ ap (λ l. front ++ l) (before_other 32 text refl))
    ∙ spoken_front front 32 (before 10 text) spoken

spoken_version : (minor code : ℕ) (phrase : List ℕ) (fields : List (List ℕ × List ℕ)) → minor ≤ 1
    → has_other_reply_version (reply_text minor code phrase fields) ≡ false
unfolding has_other_reply_version
spoken_version zero code phrase fields spoken =
    spoken_line (codes "HTTP/1.0") (behind_version code phrase fields) refl (λ more. refl)
spoken_version (suc zero) code phrase fields spoken =
    spoken_line (codes "HTTP/1.1") (behind_version code phrase fields) refl (λ more. refl)
spoken_version (suc (suc minor)) code phrase fields spoken = absurd (omega arith)

pub few_fields : (bytes : List ℕ) (n : ℕ) → line_count bytes ≡ n → n ≤ 128 → has_too_many_fields bytes ≡ false
unfolding has_too_many_fields
few_fields bytes n is few = grind (arith, nat_tests)

-- ---- the head

abbrev parts_of : ℕ → ℕ → List ℕ → List (List ℕ × List ℕ) → ReplyParts
parts_of minor code phrase fields = record {
  blank = [];
  minor = minor;
  digits = decimal code;
  reason = Some phrase;
  line_end = crlf;
  fields = map written fields;
  last = crlf;
}

regroup : (version digits phrase end section : List ℕ)
    → (((version ++ 32 ∷ []) ++ ((digits ++ 32 ∷ []) ++ phrase)) ++ end) ++ section
    ≡ version ++ 32 ∷ (digits ++ (32 ∷ phrase ++ (end ++ (section ++ []))))
regroup version digits phrase end section = simp (append_assoc, cons-append, append-nil)

text_is : (minor code : ℕ) (phrase : List ℕ) (fields : List (List ℕ × List ℕ))
    → reply_text minor code phrase fields ≡ print_response (parts_of minor code phrase fields) ++ []
text_is minor code phrase fields =
    regroup (version_text minor) (decimal code) phrase (codes "\r\n") (lines_of fields ++ codes "\r\n")
    ∙ ap (λ l. version_text minor ++ 32 ∷ (decimal code ++ (32 ∷ phrase ++ (codes "\r\n" ++ ((l ++ codes "\r\n") ++ [])))))
    (sym (lines_same fields))
    ∙ sym (print_response-append (parts_of minor code phrase fields) [])

reads : (minor code : ℕ) (phrase : List ℕ) (fields : List (List ℕ × List ℕ)) → IsPlainReply minor code phrase fields → IsCode code
    → ReadsResponse (reply_text minor code phrase fields) (parts_of minor code phrase fields) []
reads minor code phrase fields plain is = (
  record {
    minor = plain.spoken;
    digits = (is.three, is.digits);
    reason = plain.words;
    fields = lines_good fields plain.plain;
  },
  text_is minor code phrase fields,
)

head_from : (minor code : ℕ) (phrase : List ℕ) (fields : List (List ℕ × List ℕ)) → IsPlainReply minor code phrase fields
    → IsCode code → length (reply_text minor code phrase fields) ≤ head_limit
    → ReplyHeadOf (reply_text minor code phrase fields) (reply_head_of minor code fields)
head_from minor code phrase fields plain is short =
    let text = reply_text minor code phrase fields in
    let parts = parts_of minor code phrase fields in
    let has = reads minor code phrase fields plain is in
    let printed : print_response parts ≡ text = sym (append-nil (print_response parts)) ∙ sym (text_is minor code phrase fields) in
    let count = reply_lines text parts has ∙ length-map fields written in
    let other = spoken_version minor code phrase fields plain.spoken in
    let few = few_fields text (length fields) count plain.few in
    let same = fields_same fields plain.plain in
    record {
      whole = record { ended = response_end text parts [] has ∙ ap (λ l. Some (length l)) printed; short = short };
      lines = λ i. first_fault ((other i, Version) ∷ (few i, TooManyFields) ∷ []);
      parts = parts;
      reads = has;
      passes = ap (λ n. reply_fault minor n (fields_of (map written fields))) is.value
          ∙ ap (reply_fault minor code) same ∙ fault_same minor code fields ∙ plain.passes;
      is = sym (ap (λ n. reply_head_of minor n (fields_of (map written fields))) is.value
          ∙ ap (reply_head_of minor code) same ∙ head_same minor code fields);
    }

pub reply_written : (minor code : ℕ) (phrase : List ℕ) (fields : List (List ℕ × List ℕ)) → IsPlainReply minor code phrase fields
    → length (reply_text minor code phrase fields) ≤ head_limit
    → ReplyHeadOf (reply_text minor code phrase fields) (reply_head_of minor code fields)
reply_written minor code phrase fields plain short =
    let others = (has_bad_coding minor fields, Coding) ∷ (has_length_and_coding fields, LengthAndCoding)
    ∷ (has_bad_length fields, BadLength) ∷ [] in
    let range = code_range code (first_passes (has_bad_code code) Malformed others plain.passes) in
    head_from minor code phrase fields plain (is_code code range.0 range.1) short
