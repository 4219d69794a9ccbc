-- The head that the grammar reads ends with the end mark (RFC 9112, section 2.1).
use Rattle.std.proofs.Common.{◌≡◌, ◌≢◌, ℕ, suc, ◌+◌, Bool, true, false, ◌||◌, ◌&&◌, List, [], ◌∷◌, ◌++◌, length, refl, sym, ap, ◌∙◌, subst, arith, append_assoc, length-append}
use Rattle.std.specs.Prelude.{Option, Some, None, All, ◌==◌, if◌then◌else◌}
use Rattle.std.specs.List.{flat_map}
use Rattle.std.specs.Option.{option_map, option_or}
use Rattle.std.specs.Char.{is_ascii_digit}
use Rattle.std.proofs.lemmas.Bool.{false≢true, ne_eqb}
use Rattle.std.proofs.lemmas.List.Elements.{All-head, All-tail}
use Rattle.httparse.specs.Grammar.{is_token_byte, is_uri_byte, is_value_byte, AllPass, LineEnd, crlf, lf, print_end, print_blank, print_version, print_reason, reason_phrase, Field, print_field, IsField, print_section, RequestHead, print_request, ReadsRequest, ResponseHead, print_response, ReadsResponse}
use Rattle.httparse.specs.Pieces.{Stops, is_newline}
use Rattle.httparse.proofs.GrammarLemmas.{print_request-append, print_response-append}
use Rattle.httparse.proofs.PieceLemmas.{Stops_token, print_field-append}
use Rattle.gw_head.specs.Mark.{head_end, lines_end, empty_line, starts_with_line_feed}

-- from inside a line, the first empty line behind it ends where the rest begins
record Ends (text rest : List ℕ) : Type 0 where
  count : ℕ
  end : lines_end text ≡ Some count
  sum : count + length rest ≡ length text

-- the same from the start of a head
record HeadEnds (text rest : List ℕ) : Type 0 where
  count : ℕ
  end : head_end text ≡ Some count
  sum : count + length rest ≡ length text

-- ---- inside a line

ends_cons : (b : ℕ) (text rest : List ℕ) → (b == 10) ≡ false → Ends text rest → Ends (b ∷ text) rest
ends_cons b text rest other ends = record {
  count = suc ends.count;
  end = ap (λ (v : Bool). option_map suc (option_or (if v then empty_line text else None) (lines_end text))) other
      ∙ ap (option_map suc) ends.end;
  sum = let e = ends.sum in omega arith;
}

-- a byte that passes a test that LF fails is none
pub passes_other : (test : ℕ → Bool) (b : ℕ) → test 10 ≡ false → test b ≡ true → (b == 10) ≡ false
passes_other test b fails passes =
    let differs : b ≢ 10 = λ e. false≢true (sym fails ∙ ap test (sym e) ∙ passes) in ne_eqb b 10 differs

ends_run : (test : ℕ → Bool) (run text rest : List ℕ) → test 10 ≡ false → AllPass test run → Ends text rest
    → Ends (run ++ text) rest
ends_run test [] text rest fails all ends = ends
ends_run test (b ∷ run) text rest fails all ends =
    ends_cons b (run ++ text) rest (passes_other test b fails (All-head (λ v. test v ≡ true) b run all))
    (ends_run test run text rest fails (All-tail (λ v. test v ≡ true) b run all) ends)

pub token_fails : is_token_byte 10 ≡ false
unfolding is_token_byte
token_fails = refl

-- ---- at the end of a line

no_empty_line : (v w x : Bool) (one two : Option ℕ) → (w || v) ≡ false
    → (if v then one else (if w && x then two else None)) ≡ None
no_empty_line true true x one two e = absurd (false≢true (sym e))
no_empty_line true false x one two e = absurd (false≢true (sym e))
no_empty_line false true x one two e = absurd (false≢true (sym e))
no_empty_line false false x one two e = refl

ends_feed : (text rest : List ℕ) → Stops is_newline text → Ends text rest → Ends (10 ∷ text) rest
ends_feed [] rest stops ends = absurd stops
ends_feed (b ∷ text) rest stops ends = record {
  count = suc ends.count;
  end = ap (λ (o : Option ℕ). option_map suc (option_or o (lines_end (b ∷ text))))
      (no_empty_line (b == 10) (b == 13) (starts_with_line_feed text) (Some 1) (Some 2) stops)
      ∙ ap (option_map suc) ends.end;
  sum = let e = ends.sum in omega arith;
}

-- a line that another one follows
ends_line : (e : LineEnd) (text rest : List ℕ) → Stops is_newline text → Ends text rest
    → Ends (print_end e ++ text) rest
ends_line crlf text rest stops ends = ends_cons 13 (10 ∷ text) rest refl (ends_feed text rest stops ends)
ends_line lf text rest stops ends = ends_feed text rest stops ends

-- a line that the empty line follows
ends_last : (e last : LineEnd) (rest : List ℕ) → Ends (print_end e ++ (print_end last ++ rest)) rest
ends_last crlf crlf rest = record { count = 4; end = refl; sum = omega arith }
ends_last crlf lf rest = record { count = 3; end = refl; sum = omega arith }
ends_last lf crlf rest = record { count = 3; end = refl; sum = omega arith }
ends_last lf lf rest = record { count = 2; end = refl; sum = omega arith }

-- the fields behind a line
ends_section : (e : LineEnd) (fields : List Field) (last : LineEnd) (rest : List ℕ) → All IsField fields
    → Ends (print_end e ++ (print_section fields last ++ rest)) rest
ends_section e [] last rest all = ends_last e last rest
ends_section e (f ∷ fields) last rest all =
    let here = All-head IsField f fields all in
    let after = print_section fields last ++ rest in
    let line : print_section (f ∷ fields) last ++ rest ≡ f.name ++ 58 ∷ (f.raw ++ (print_end f.end ++ after)) =
    ap (λ (t : List ℕ). t ++ rest) (append_assoc (print_field f) (flat_map print_field fields) (print_end last))
    ∙ append_assoc (print_field f) (print_section fields last) rest
    ∙ print_field-append f after in
    let value = ends_run is_value_byte f.raw (print_end f.end ++ after) rest refl here.raw
    (ends_section f.end fields last rest (All-tail IsField f fields all)) in
    let name = ends_run is_token_byte f.name (58 ∷ (f.raw ++ (print_end f.end ++ after))) rest token_fails here.name.1
    (ends_cons 58 (f.raw ++ (print_end f.end ++ after)) rest refl value) in
    subst (λ (t : List ℕ). Ends (print_end e ++ t) rest) (sym line)
    (ends_line e _ rest (Stops_token f.name _ here.name.0 here.name.1) name)

ends_version : (minor : ℕ) (text rest : List ℕ) → Ends text rest → Ends (print_version minor ++ text) rest
ends_version minor text rest ends =
    let digit : 48 + minor ≢ 10 = λ e. omega arith in
    let c = λ (b : ℕ) (t : List ℕ) (other : (b == 10) ≡ false) (h : Ends t rest). ends_cons b t rest other h in
    c 72 _ refl (c 84 _ refl (c 84 _ refl (c 80 _ refl (c 47 _ refl (c 49 _ refl (c 46 _ refl
    (c (48 + minor) text (ne_eqb (48 + minor) 10 digit) ends)))))))

-- ---- from the start

first_line : (v w : Bool) (text : List ℕ) → (w || v) ≡ false
    → option_map suc (if w || v then head_end text else lines_end text)
    ≡ option_map suc (option_or (if v then empty_line text else None) (lines_end text))
first_line true true text e = absurd (false≢true (sym e))
first_line true false text e = absurd (false≢true (sym e))
first_line false true text e = absurd (false≢true (sym e))
first_line false false text e = refl

head_ends : (text rest : List ℕ) → Stops is_newline text → Ends text rest → HeadEnds text rest
head_ends [] rest stops ends = absurd stops
head_ends (b ∷ text) rest stops ends = record {
  count = ends.count;
  end = first_line (b == 10) (b == 13) text stops ∙ ends.end;
  sum = ends.sum;
}

-- a byte of an empty line before the start line
ends_newline : (b : ℕ) (text rest : List ℕ) → is_newline b ≡ true → HeadEnds text rest → HeadEnds (b ∷ text) rest
ends_newline b text rest newline ends = record {
  count = suc ends.count;
  end = ap (λ (v : Bool). option_map suc (if v then head_end text else lines_end text)) newline
      ∙ ap (option_map suc) ends.end;
  sum = let e = ends.sum in omega arith;
}

ends_empty : (e : LineEnd) (text rest : List ℕ) → HeadEnds text rest → HeadEnds (print_end e ++ text) rest
ends_empty crlf text rest ends = ends_newline 13 (10 ∷ text) rest refl (ends_newline 10 text rest refl ends)
ends_empty lf text rest ends = ends_newline 10 text rest refl ends

ends_blank : (blank : List LineEnd) (text rest : List ℕ) → HeadEnds text rest → HeadEnds (print_blank blank ++ text) rest
ends_blank [] text rest ends = ends
ends_blank (e ∷ blank) text rest ends =
    subst (λ (t : List ℕ). HeadEnds t rest) (sym (append_assoc (print_end e) (print_blank blank) text))
    (ends_empty e (print_blank blank ++ text) rest (ends_blank blank text rest ends))

-- the count is the length of what was printed
at_mark : (bytes printed text rest : List ℕ) → bytes ≡ printed ++ rest → printed ++ rest ≡ text → HeadEnds text rest
    → head_end bytes ≡ Some (length printed)
at_mark bytes printed text rest is regrouped ends =
    let size : length printed + length rest ≡ length text =
    sym (length-append printed rest) ∙ ap length regrouped in
    let same : ends.count ≡ length printed = let e = ends.sum in omega arith in
    ap head_end (is ∙ regrouped) ∙ ends.end ∙ ap Some same

pub request_end : (bytes : List ℕ) (h : RequestHead) (rest : List ℕ) → ReadsRequest bytes h rest
    → head_end bytes ≡ Some (length (print_request h))
request_end bytes h rest reads =
    let section = ends_section h.line_end h.fields h.last rest reads.0.fields in
    let version = ends_cons 32 _ rest refl (ends_version h.minor _ rest section) in
    let target = ends_cons 32 _ rest refl (ends_run is_uri_byte h.target _ rest refl reads.0.target.1 version) in
    let method = ends_run is_token_byte h.method _ rest token_fails reads.0.method.1 target in
    at_mark bytes (print_request h) _ rest reads.1 (print_request-append h rest)
    (ends_blank h.blank _ rest (head_ends _ rest (Stops_token h.method _ reads.0.method.0 reads.0.method.1) method))

ends_reason : (reason : Option (List ℕ)) (text rest : List ℕ) → AllPass is_value_byte (reason_phrase reason) → Ends text rest
    → Ends (print_reason reason ++ text) rest
ends_reason None text rest all ends = ends
ends_reason (Some phrase) text rest all ends =
    ends_cons 32 (phrase ++ text) rest refl (ends_run is_value_byte phrase text rest refl all ends)

pub response_end : (bytes : List ℕ) (h : ResponseHead) (rest : List ℕ) → ReadsResponse bytes h rest
    → head_end bytes ≡ Some (length (print_response h))
response_end bytes h rest reads =
    let section = ends_section h.line_end h.fields h.last rest reads.0.fields in
    let reason = ends_reason h.reason _ rest reads.0.reason section in
    let digits = ends_run is_ascii_digit h.digits _ rest refl reads.0.digits.1 reason in
    let version = ends_version h.minor _ rest (ends_cons 32 _ rest refl digits) in
    at_mark bytes (print_response h) _ rest reads.1 (print_response-append h rest)
    (ends_blank h.blank _ rest (head_ends _ rest refl version))
