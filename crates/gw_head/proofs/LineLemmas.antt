-- How many lines a head of the grammar has.
use Rattle.std.proofs.Common.{◌≡◌, ◌≢◌, ℕ, ◌+◌, Bool, true, false, List, [], ◌∷◌, ◌++◌, length, refl, sym, ap, ◌∙◌, subst, arith, append_assoc}
use Rattle.std.specs.Prelude.{Option, Some, None, All, ◌==◌, cond, if◌then◌else◌}
use Rattle.std.specs.List.{flat_map}
use Rattle.std.specs.Char.{is_ascii_digit}
use Rattle.std.proofs.lemmas.Bool.{ne_eqb}
use Rattle.std.proofs.lemmas.List.Elements.{All-head, All-tail}
use Rattle.std.proofs.lemmas.List.Sums.{sum_by-cons}
use Rattle.httparse.specs.Grammar.{is_token_byte, is_uri_byte, is_value_byte, AllPass, LineEnd, crlf, lf, print_end, print_blank, print_version, print_reason, reason_phrase, Field, print_field, IsField, print_section, RequestHead, ReadsRequest, ResponseHead, ReadsResponse}
use Rattle.httparse.specs.Pieces.{Stops, is_newline}
use Rattle.httparse.proofs.GrammarLemmas.{print_request-append, print_response-append}
use Rattle.httparse.proofs.PieceLemmas.{Stops_token, print_field-append}
use Rattle.gw_head.specs.Pieces.{is_byte, count_of}
use Rattle.gw_head.specs.Lines.{skip_newlines, line_count}
use Rattle.gw_head.proofs.GrammarEnd.{passes_other, token_fails}

-- so many lines end in the text
record Feeds (text : List ℕ) (n : ℕ) : Type 0 where
  count : count_of 10 text ≡ n

feed_step : (b : ℕ) (text : List ℕ) → count_of 10 (b ∷ text) ≡ cond (b == 10) 1 0 + count_of 10 text
feed_step b text = sum_by-cons (λ x. cond (is_byte 10 x) 1 0) b text

no_feed : (v : Bool) → v ≡ false → cond {A = ℕ} v 1 0 ≡ 0
no_feed v e = ap (λ (x : Bool). cond {A = ℕ} x 1 0) e

feeds_other : (b : ℕ) (text : List ℕ) (n : ℕ) → (b == 10) ≡ false → Feeds text n → Feeds (b ∷ text) n
feeds_other b text n other feeds =
    record { count = let s = feed_step b text in let z = no_feed (b == 10) other in let e = feeds.count in omega arith }

feeds_end : (text : List ℕ) (n : ℕ) → Feeds text n → Feeds (10 ∷ text) (n + 1)
feeds_end text n feeds = record { count = let e = feeds.count in let s = feed_step 10 text in omega arith }

feeds_as : (text : List ℕ) (n m : ℕ) → n ≡ m → Feeds text n → Feeds text m
feeds_as text n m same feeds = record { count = feeds.count ∙ same }

feeds_run : (test : ℕ → Bool) (run text : List ℕ) (n : ℕ) → test 10 ≡ false → AllPass test run → Feeds text n
    → Feeds (run ++ text) n
feeds_run test [] text n fails all feeds = feeds
feeds_run test (b ∷ run) text n fails all feeds =
    feeds_other b (run ++ text) n (passes_other test b fails (All-head (λ v. test v ≡ true) b run all))
    (feeds_run test run text n fails (All-tail (λ v. test v ≡ true) b run all) feeds)

feeds_line : (e : LineEnd) (text : List ℕ) (n : ℕ) → Feeds text n → Feeds (print_end e ++ text) (n + 1)
feeds_line crlf text n feeds = feeds_other 13 (10 ∷ text) (n + 1) refl (feeds_end text n feeds)
feeds_line lf text n feeds = feeds_end text n feeds

-- the fields and the empty line behind them
feeds_section : (fields : List Field) (last : LineEnd) → All IsField fields
    → Feeds (print_section fields last ++ []) (length fields + 1)
feeds_section [] last all = feeds_line last [] 0 (record { count = refl })
feeds_section (f ∷ fields) last all =
    let here = All-head IsField f fields all in
    let after = print_section fields last ++ [] in
    let line : print_section (f ∷ fields) last ++ [] ≡ f.name ++ 58 ∷ (f.raw ++ (print_end f.end ++ after)) =
    ap (λ (t : List ℕ). t ++ []) (append_assoc (print_field f) (flat_map print_field fields) (print_end last))
    ∙ append_assoc (print_field f) (print_section fields last) []
    ∙ print_field-append f after in
    let rest = feeds_line f.end after (length fields + 1)
    (feeds_section fields last (All-tail IsField f fields all)) in
    let value = feeds_run is_value_byte f.raw _ (length fields + 1 + 1) refl here.raw rest in
    let name = feeds_run is_token_byte f.name _ (length fields + 1 + 1) token_fails here.name.1
    (feeds_other 58 _ (length fields + 1 + 1) refl value) in
    feeds_as _ _ _ (omega arith) (subst (λ (t : List ℕ). Feeds t (length fields + 1 + 1)) (sym line) name)

feeds_version : (minor : ℕ) (text : List ℕ) (n : ℕ) → Feeds text n → Feeds (print_version minor ++ text) n
feeds_version minor text n feeds =
    let digit : 48 + minor ≢ 10 = λ e. omega arith in
    let c = λ (b : ℕ) (t : List ℕ) (other : (b == 10) ≡ false) (h : Feeds t n). feeds_other b t n other h in
    c 72 _ refl (c 84 _ refl (c 84 _ refl (c 80 _ refl (c 47 _ refl (c 49 _ refl (c 46 _ refl
    (c (48 + minor) text (ne_eqb (48 + minor) 10 digit) feeds)))))))

-- ---- the empty lines before the start line

pub skip_stop : (text : List ℕ) → Stops is_newline text → skip_newlines text ≡ text
skip_stop [] stops = absurd stops
skip_stop (b ∷ text) stops = ap (λ (v : Bool). if v then skip_newlines text else b ∷ text) stops

skip_empty : (e : LineEnd) (text : List ℕ) → skip_newlines (print_end e ++ text) ≡ skip_newlines text
skip_empty crlf text = refl
skip_empty lf text = refl

skip_blank : (blank : List LineEnd) (text : List ℕ) → skip_newlines (print_blank blank ++ text) ≡ skip_newlines text
skip_blank [] text = refl
skip_blank (e ∷ blank) text =
    ap skip_newlines (append_assoc (print_end e) (print_blank blank) text)
    ∙ skip_empty e (print_blank blank ++ text) ∙ skip_blank blank text

-- ---- the whole head

lines_behind : (bytes text : List ℕ) (blank : List LineEnd) (n : ℕ) → bytes ≡ print_blank blank ++ text
    → Stops is_newline text → Feeds text (n + 2) → line_count bytes ≡ n
lines_behind bytes text blank n is stops feeds =
    let skipped : skip_newlines bytes ≡ text = ap skip_newlines is ∙ skip_blank blank text ∙ skip_stop text stops in
    let count : count_of 10 (skip_newlines bytes) ≡ n + 2 = ap (count_of 10) skipped ∙ feeds.count in
    omega arith

pub request_lines : (bytes : List ℕ) (h : RequestHead) → ReadsRequest bytes h [] → line_count bytes ≡ length h.fields
request_lines bytes h reads =
    let n = length h.fields + 2 in
    let section = feeds_as _ _ n (omega arith)
    (feeds_line h.line_end _ (length h.fields + 1) (feeds_section h.fields h.last reads.0.fields)) in
    let version = feeds_other 32 _ n refl (feeds_version h.minor _ n section) in
    let target = feeds_other 32 _ n refl (feeds_run is_uri_byte h.target _ n refl reads.0.target.1 version) in
    let method = feeds_run is_token_byte h.method _ n token_fails reads.0.method.1 target in
    lines_behind bytes _ h.blank (length h.fields) (reads.1 ∙ print_request-append h [])
    (Stops_token h.method _ reads.0.method.0 reads.0.method.1) method

feeds_reason : (reason : Option (List ℕ)) (text : List ℕ) (n : ℕ) → AllPass is_value_byte (reason_phrase reason)
    → Feeds text n → Feeds (print_reason reason ++ text) n
feeds_reason None text n all feeds = feeds
feeds_reason (Some phrase) text n all feeds =
    feeds_other 32 (phrase ++ text) n refl (feeds_run is_value_byte phrase text n refl all feeds)

pub reply_lines : (bytes : List ℕ) (h : ResponseHead) → ReadsResponse bytes h [] → line_count bytes ≡ length h.fields
reply_lines bytes h reads =
    let n = length h.fields + 2 in
    let section = feeds_as _ _ n (omega arith)
    (feeds_line h.line_end _ (length h.fields + 1) (feeds_section h.fields h.last reads.0.fields)) in
    let reason = feeds_reason h.reason _ n reads.0.reason section in
    let digits = feeds_run is_ascii_digit h.digits _ n refl reads.0.digits.1 reason in
    let version = feeds_version h.minor _ n (feeds_other 32 _ n refl digits) in
    lines_behind bytes _ h.blank (length h.fields) (reads.1 ∙ print_response-append h []) refl version
