-- Values that can stand in a field line as they are.
use Rattle.std.proofs.Common.{◌≡◌, ℕ, zero, suc, append-nil, ◌^◌, ◌<◌, Bool, true, false, ◌&&◌, List, [], ◌∷◌, ◌++◌, length, reverse, refl, sym, ap, subst, ◌∙◌, arith}
use Rattle.std.specs.Prelude.{All, IsTrue, nat_lt, nat_le, decimal, unwrap_or, if◌then◌else◌}
use Rattle.std.specs.List.{list_all}
use Rattle.std.specs.Str.Parse.{AllDigits}
use Rattle.std.proofs.lemmas.Bool.{ltb-true}
use Rattle.std.proofs.lemmas.Str.Parse.{digit_from_value}
use Rattle.std.proofs.lemmas.Bool.Decides.{nat_tests, Decides-below_and}
use Rattle.std.proofs.lemmas.Fmt.{decimal_is_IsNumeral}
use Rattle.std.proofs.lemmas.List.{reverse-append, length-reverse}
use Rattle.std.proofs.lemmas.List.Elements.{All-nil, All-cons, All-head, All-tail, All-push, All-weaker}
use Rattle.std.proofs.lemmas.List.Sums.{AllPass-from_list_all}
use Rattle.http_header.specs.Token.{is_token_byte, is_value_byte, IsToken}
use Rattle.http_header.specs.FieldValue.{IsFieldValue}
use Rattle.http_header.proofs.TokenLemmas.{token_byte_range}
use Rattle.http.specs.StatusCode.{reason_phrase}
use Rattle.gw_wire.specs.Visible.{is_visible, AreVisible}
use Rattle.gw_fields.specs.Lists.{is_blank, skip_blanks}
use Rattle.gw_head.specs.Fields.{is_length}
use Rattle.gw_head.specs.Written.{IsBare}
use Rattle.gw_head.proofs.Facts.{length_yes, digits_pass}
use Rattle.gw_proxy.specs.OutReply.{phrase_of}

-- a value for a field line
pub record IsFit (value : List ℕ) : Type 0 where
  pub good : IsFieldValue value
  pub bare : IsBare value

-- a byte that is visible
pub record IsMark (b : ℕ) : Type 0 where
  pub other : is_blank b ≡ false
  pub good : IsTrue (is_value_byte b)

pub mark : (b : ℕ) → 32 < b → b < 127 → IsMark b
mark b low high = record { other = grind (arith, nat_tests); good = grind (arith, nat_tests) }

-- ---- no blank at the ends

pub skip_mark : (b : ℕ) (rest : List ℕ) → IsMark b → skip_blanks (b ∷ rest) ≡ b ∷ rest
skip_mark b rest is = ap (λ (v : Bool). if v then skip_blanks rest else b ∷ rest) is.other

skip_run : (run rest : List ℕ) → 0 < length run → All IsMark run → skip_blanks (run ++ rest) ≡ run ++ rest
skip_run [] rest some all = absurd (omega arith)
skip_run (b ∷ run) rest some all = skip_mark b (run ++ rest) (All-head IsMark b run all)

all_reverse : (run : List ℕ) → All IsMark run → All IsMark (reverse run)
all_reverse [] all = all
all_reverse (b ∷ run) all =
    subst (All IsMark) (sym (reverse-append (b ∷ []) run))
    (All-push IsMark (reverse run) b (all_reverse run (All-tail IsMark b run all)) (All-head IsMark b run all))

-- a text that ends in marks has no blank at its end
pub back_by : (value before last : List ℕ) → value ≡ before ++ last → 0 < length last → All IsMark last
    → skip_blanks (reverse value) ≡ reverse value
back_by value before last ends any stops =
    let turned = ap reverse ends ∙ reverse-append before last in
    let enough : 0 < length (reverse last) = let same = length-reverse last in omega arith in
    ap skip_blanks turned ∙ skip_run (reverse last) (reverse before) enough (all_reverse last stops) ∙ sym turned

-- marks stand first and last
pub record HasEnds (value : List ℕ) : Type 0 where
  pub first : List ℕ
  pub behind : List ℕ
  pub begins : value ≡ first ++ behind
  pub some : 0 < length first
  pub marks : All IsMark first
  pub before : List ℕ
  pub last : List ℕ
  pub ends : value ≡ before ++ last
  pub any : 0 < length last
  pub stops : All IsMark last

pub bare_by : (value : List ℕ) → HasEnds value → IsBare value
bare_by value has = record {
  front = ap skip_blanks has.begins ∙ skip_run has.first has.behind has.some has.marks ∙ sym has.begins;
  back = back_by value has.before has.last has.ends has.any has.stops;
}

pub all_value : (run : List ℕ) → All IsMark run → IsFieldValue run
all_value run all = All-weaker IsMark (λ b. IsTrue (is_value_byte b)) (λ b is. is.good) run all

-- marks alone
pub marks_fit : (run : List ℕ) → All IsMark run → IsFit run
marks_fit [] all = record { good = all_value [] all; bare = record { front = refl; back = refl } }
marks_fit (b ∷ run) all = record {
  good = all_value (b ∷ run) all;
  bare = bare_by (b ∷ run) (record {
    first = b ∷ run;
    behind = [];
    begins = sym (append-nil (b ∷ run));
    some = omega arith;
    marks = all;
    before = [];
    last = b ∷ run;
    ends = refl;
    any = omega arith;
    stops = all;
  });
}

pub token_marks : (token : List ℕ) → IsToken token → All IsMark token
token_marks token is =
    All-weaker (λ b. IsTrue (is_token_byte b)) IsMark (λ b t. let range = token_byte_range b t in mark b range.0 range.1) token is.1

pub visible_marks : (bytes : List ℕ) → AreVisible bytes → All IsMark bytes
visible_marks bytes are =
    All-weaker (λ b. IsTrue (is_visible b)) IsMark (λ b t. mark b (grind (arith, nat_tests)) (grind (arith, nat_tests))) bytes
    (AllPass-from_list_all is_visible bytes are)

-- ---- numbers

digit_marks : (digits : List ℕ) → AllDigits 10 digits → All IsMark digits
digit_marks [] all = All-nil IsMark
digit_marks (b ∷ digits) all =
    All-cons IsMark b digits (let range = digit_from_value b all.0 in mark b (omega arith) (omega arith)) (digit_marks digits all.1)

pub number_fits : (n : ℕ) → n < 2 ^ 64 → IsFit (decimal n)
number_fits n small = marks_fit (decimal n) (digit_marks (decimal n) (decimal_is_IsNumeral n small).0.1)

pub number_is_length : (n : ℕ) → n < 2 ^ 63 → is_length (decimal n) ≡ true
number_is_length n small =
    let numeral = decimal_is_IsNumeral n (omega arith) in
    length_yes (decimal n) n
    (record { some = numeral.0.0; digits = digits_pass (decimal n) numeral.0.1; number = numeral.1; small = small })

-- ---- phrases

abbrev phrase_passes : ℕ → Bool
phrase_passes code =
    list_all is_value_byte (unwrap_or (reason_phrase code) []) && nat_lt (length (unwrap_or (reason_phrase code) [])) 100

abbrev all_pass : ℕ → Bool
all_pass zero = true
all_pass (suc n) = phrase_passes n && all_pass n

known_passes : (code : ℕ) → code < 1000 → phrase_passes code ≡ true
known_passes =
    (Decides-below_and phrase_passes (λ k. phrase_passes k ≡ true) all_pass (λ k. (λ x. x, λ x. x)) refl (λ _. refl) 1000).0 refl

-- a phrase can stand in a status line, and is short
pub record IsPhrase (phrase : List ℕ) : Type 0 where
  pub good : IsFieldValue phrase
  pub short : length phrase < 100

both : (a b : Bool) → (a && b) ≡ true → (a ≡ true) × (b ≡ true)
both true b e = (refl, e)
both false b e = absurd (cc)

known_phrase : (code : ℕ) → code < 1000 → IsPhrase (unwrap_or (reason_phrase code) [])
known_phrase code small =
    let passes = both _ _ (known_passes code small) in
    record { good = AllPass-from_list_all is_value_byte _ passes.0; short = ltb-true _ _ passes.1 }

no_phrase : IsPhrase []
no_phrase = record { good = All-nil (λ b. IsTrue (is_value_byte b)); short = omega arith }

phrase_by : (low high : Bool) (code : ℕ) → nat_lt code 1000 ≡ high
    → IsPhrase (if low && high then unwrap_or (reason_phrase code) [] else [])
phrase_by true true code small = known_phrase code (ltb-true _ _ small)
phrase_by true false code small = no_phrase
phrase_by false high code small = no_phrase

pub is_phrase : (code : ℕ) → IsPhrase (phrase_of code)
unfolding phrase_of
is_phrase code = phrase_by (nat_le 100 code) (nat_lt code 1000) code refl
