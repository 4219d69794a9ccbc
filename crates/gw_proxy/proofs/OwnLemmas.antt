-- The gateway's own replies are read as they were meant.
use Rattle.std.proofs.Common.{◌≡◌, ℕ, ◌^◌, ◌<◌, ◌≤◌, Bool, true, false, ◌||◌, List, [], ◌∷◌, ◌++◌, length, refl, sym, ap, subst, ◌∙◌, arith, append_assoc, append-nil, length-append}
use Rattle.std.specs.Prelude.{All, IsTrue, codes, decimal, flat_map, Some, if◌then◌else◌, ◌==◌}
use Rattle.std.specs.List.{list_any}
use Rattle.std.proofs.lemmas.Bool.Decides.{nat_tests}
use Rattle.std.proofs.lemmas.Fmt.{length-decimal-le_succ}
use Rattle.std.proofs.lemmas.List.Elements.{All-nil, All-cons, All-head, All-tail, All-append}
use Rattle.std.proofs.lemmas.List.Sums.{AllPass-from_list_all}
use Rattle.http_header.specs.Token.{IsToken, is_value_byte}
use Rattle.http_header.specs.FieldValue.{IsFieldValue}
use Rattle.gw_head.specs.declared.framing.Framing.TheVariants.{None as NoBody, Length}
use Rattle.gw_head.specs.Checks.{has_bad_code}
use Rattle.gw_head.specs.Mark.{head_limit}
use Rattle.gw_head.specs.Written.{IsPlainField}
use Rattle.gw_body.specs.Framing.{is_bodiless}
use Rattle.gw_proxy.specs.declared.own.Own.{Own}
use Rattle.gw_proxy.specs.declared.own.Own.TheVariants.{Options, Stopped, Moved, NotAllowed, Plain}
use Rattle.gw_proxy.specs.Lines.{field_section, length_fields}
use Rattle.gw_proxy.specs.OutReply.{close_fields, code_line, is_own, is_head, method_list, own_body, own_code, own_codes, own_fields, own_line, phrase_of, sent_body, status_line_of, OwnReply}
use Rattle.gw_proxy.specs.Read.{CanBeSent, own_framing, ReadsAsReply, ReadsOwn}
use Rattle.gw_proxy.proofs.DateText.{date_fits}
use Rattle.gw_proxy.proofs.FieldLemmas.{closes_plain, plain}
use Rattle.gw_proxy.proofs.ReplyLemmas.{IsSent, Says, said_framing, sent_reply}
use Rattle.gw_proxy.proofs.ValueLemmas.{IsFit, IsMark, all_value, bare_by, is_phrase, marks_fit, number_fits, token_marks, visible_marks}

-- ---- methods

-- a token ends the list
record EndsIn (text : List ℕ) : Type 0 where
  before : List ℕ
  last : List ℕ
  same : text ≡ before ++ last
  token : IsToken last

abbrev listed : List (List ℕ) → List ℕ
listed methods = flat_map (λ other. codes ", " ++ other) methods

ends_in : (front method : List ℕ) (methods : List (List ℕ)) → IsToken method → All IsToken methods
    → EndsIn (front ++ (method ++ listed methods))
ends_in front method [] token all =
    record { before = front; last = method; same = ap (λ l. front ++ l) (append-nil method); token = token }
ends_in front method (other ∷ methods) token all =
    let next = ends_in ((front ++ method) ++ codes ", ") other methods (All-head IsToken other methods all) (All-tail IsToken other methods all) in
    record {
      before = next.before;
      last = next.last;
      same = regroup front method other (listed methods) ∙ next.same;
      token = next.token;
    }
  where
    regroup : (a b c d : List ℕ) → a ++ (b ++ ((codes ", " ++ c) ++ d)) ≡ ((a ++ b) ++ codes ", ") ++ (c ++ d)
    regroup a b c d =
        ap (λ l. a ++ (b ++ l)) (append_assoc (codes ", ") c d)
        ∙ sym (append_assoc a b (codes ", " ++ (c ++ d)))
        ∙ sym (append_assoc (a ++ b) (codes ", ") (c ++ d))

listed_good : (methods : List (List ℕ)) → All IsToken methods → IsFieldValue (listed methods)
listed_good [] all = All-nil (λ b. IsTrue (is_value_byte b))
listed_good (method ∷ methods) all =
    let P : ℕ → Type 0 = λ b. IsTrue (is_value_byte b) in
    All-append P (codes ", " ++ method) (listed methods)
    (All-append P (codes ", ") method (AllPass-from_list_all is_value_byte (codes ", ") refl)
    (all_value method (token_marks method (All-head IsToken method methods all))))
    (listed_good methods (All-tail IsToken method methods all))

methods_fit : (methods : List (List ℕ)) → All IsToken methods → IsFit (method_list methods)
methods_fit [] all = marks_fit [] (All-nil IsMark)
methods_fit (method ∷ methods) all =
    let token = All-head IsToken method methods all in
    let others = All-tail IsToken method methods all in
    let ends = ends_in [] method methods token others in
    record {
      good = All-append (λ b. IsTrue (is_value_byte b)) method (listed methods) (all_value method (token_marks method token))
          (listed_good methods others);
      bare = bare_by (method_list (method ∷ methods)) (record {
        first = method;
        behind = listed methods;
        begins = refl;
        some = token.0;
        marks = token_marks method token;
        before = ends.before;
        last = ends.last;
        ends = ends.same;
        any = ends.token.0;
        stops = token_marks ends.last ends.token;
      });
    }

-- ---- the replies

line_plain : (own : Own) → CanBeSent own → All IsPlainField (own_line own)
line_plain Options can = All-nil IsPlainField
line_plain Stopped can = All-nil IsPlainField
line_plain (Moved location) can =
    All-cons IsPlainField (codes "location", location) []
    (plain (codes "location") location refl (marks_fit location (visible_marks location can))) (All-nil IsPlainField)
line_plain (NotAllowed methods) can =
    All-cons IsPlainField (codes "allow", method_list methods.items) []
    (plain (codes "allow") (method_list methods.items) refl (methods_fit methods.items can)) (All-nil IsPlainField)
line_plain (Plain code) can = All-nil IsPlainField

own_plain : (own : Own) (close : Bool) (date : List ℕ) → CanBeSent own → IsFit date → length (own_body own) < 2 ^ 63
    → All IsPlainField (own_fields own close date)
own_plain own close date can fits short =
    let n = length (own_body own) in
    All-append IsPlainField _ (close_fields close)
    (All-append IsPlainField _ ((codes "date", date) ∷ [])
    (All-append IsPlainField (own_line own) (length_fields (Some n)) (line_plain own can)
    (All-cons IsPlainField (codes "content-length", decimal n) []
    (plain (codes "content-length") (decimal n) refl (number_fits n (omega arith))) (All-nil IsPlainField)))
    (All-cons IsPlainField (codes "date", date) [] (plain (codes "date") date refl fits) (All-nil IsPlainField)))
    (closes_plain close)

own_says : (own : Own) (close : Bool) (date : List ℕ)
    → Says (own_fields own close date) (Some (length (own_body own))) false close
own_says Options true date = record { lengths = refl; codings = refl; closes = refl }
own_says Options false date = record { lengths = refl; codings = refl; closes = refl }
own_says Stopped true date = record { lengths = refl; codings = refl; closes = refl }
own_says Stopped false date = record { lengths = refl; codings = refl; closes = refl }
own_says (Moved location) true date = record { lengths = refl; codings = refl; closes = refl }
own_says (Moved location) false date = record { lengths = refl; codings = refl; closes = refl }
own_says (NotAllowed methods) true date = record { lengths = refl; codings = refl; closes = refl }
own_says (NotAllowed methods) false date = record { lengths = refl; codings = refl; closes = refl }
own_says (Plain code) true date = record { lengths = refl; codings = refl; closes = refl }
own_says (Plain code) false date = record { lengths = refl; codings = refl; closes = refl }

own_few : (own : Own) (close : Bool) (date : List ℕ) → length (own_fields own close date) ≤ 128
own_few Options true date = omega arith
own_few Options false date = omega arith
own_few Stopped true date = omega arith
own_few Stopped false date = omega arith
own_few (Moved location) true date = omega arith
own_few (Moved location) false date = omega arith
own_few (NotAllowed methods) true date = omega arith
own_few (NotAllowed methods) false date = omega arith
own_few (Plain code) true date = omega arith
own_few (Plain code) false date = omega arith

-- a code that a body follows
record IsPlainCode (code : ℕ) : Type 0 where
  good : has_bad_code code ≡ false
  small : code < 1000
  body : is_bodiless code ≡ false

plain_code : (code : ℕ) → list_any (λ known. code == known) own_codes ≡ true → IsPlainCode code
unfolding has_bad_code
plain_code code known = record { good = grind (arith, nat_tests); small = grind (arith, nat_tests); body = grind (arith, nat_tests) }

moved_good : has_bad_code 301 ≡ false
unfolding has_bad_code
moved_good = refl

known_code : (own : Own) → IsTrue (is_own own) → IsPlainCode (own_code own)
known_code Options is = plain_code 200 refl
known_code Stopped is = plain_code 200 refl
known_code (Moved location) is = record { good = moved_good; small = omega arith; body = refl }
known_code (NotAllowed methods) is = plain_code 405 refl
known_code (Plain code) is = plain_code code is

line_short : (code : ℕ) → code < 1000 → length (code_line code) < 2 ^ 63
line_short code small =
    let number = length-decimal-le_succ code (omega arith) in
    let phrase = (is_phrase code).short in
    omega (
      arith,
      length-append ((decimal code ++ codes " ") ++ phrase_of code) (codes "\n"),
      length-append (decimal code ++ codes " ") (phrase_of code),
      length-append (decimal code) (codes " "),
    )

body_short : (own : Own) → IsPlainCode (own_code own) → length (own_body own) < 2 ^ 63
body_short Options is = omega arith
body_short Stopped is = line_short 200 is.small
body_short (Moved location) is = omega arith
body_short (NotAllowed methods) is = line_short 405 is.small
body_short (Plain code) is = line_short code is.small

own_sent : (own : Own) (old close : Bool) (date : List ℕ) → IsTrue (is_own own) → CanBeSent own → IsFit date
    → IsSent old (own_code own) (own_fields own close date) (Some (length (own_body own))) false close
own_sent own old close date is can fits =
    let code = known_code own is in
    let short = body_short own code in
    record {
      plain = own_plain own close date can fits short;
      says = own_says own close date;
      agrees = record { small = short; alone = λ e. absurd (cc); spoken = λ e. absurd (cc) };
      good = code.good;
      few = own_few own close date;
    }

framing_by : (head body : Bool) (n : ℕ) → body ≡ false
    → (if head || body then NoBody else Length n) ≡ (if head then NoBody else Length n)
framing_by true body n none = refl
framing_by false body n none = ap (λ (v : Bool). if v then NoBody else Length n) none

framing_is : (own : Own) (method : List ℕ) → is_bodiless (own_code own) ≡ false
    → said_framing method (own_code own) (Some (length (own_body own))) false ≡ own_framing own method
framing_is own method none = framing_by (is_head method) (is_bodiless (own_code own)) (length (own_body own)) none

pub own_reads : (own : Own) (method : List ℕ) (old close : Bool) (moment : ℕ) (text : List ℕ) → IsTrue (is_own own) → CanBeSent own
    → OwnReply own method old close moment text → length text ≤ head_limit → ReadsOwn own method old close text
own_reads own method old close moment text is can reply short =
    let date = reply.0 in
    let front = status_line_of old (own_code own) ++ field_section (own_fields own close date) in
    let sent = own_sent own old close date is can (date_fits moment date reply.1) in
    let size = length-append front (sent_body method (own_body own)) in
    let whole = ap length reply.2 in
    record {
      front = front;
      parts = reply.2;
      reads = subst (ReadsAsReply front (own_code own) old close method) (framing_is own method (known_code own is).body)
          (sent_reply old (own_code own) (own_fields own close date) (Some (length (own_body own))) false close method sent (omega arith));
    }
