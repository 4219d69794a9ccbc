-- Parts of a chunked text, by the grammar and by the position behind them.
use Rattle.std.proofs.Common.{◌≡◌, ℕ, ◌+◌, ◌-◌, ◌≤◌, List, [], ◌∷◌, ◌++◌, length, refl, sym, ap, ◌∙◌, subst, arith, true, ⊎_elim}
use Rattle.std.proofs.lemmas.List.{append-nil}
use Rattle.gw_chunk.specs.declared.lines.LineForm.TheVariants.{Empty}
use Rattle.gw_chunk.specs.declared.lines.FieldForm.TheVariants.{Begin}
use Rattle.gw_chunk.specs.declared.position.Position.{Position}
use Rattle.gw_chunk.specs.declared.position.Position.TheVariants.{Content, Fields, Ended}
use Rattle.gw_chunk.specs.Chunked.{Chunk, AreChunks, data_limit, contents_of, texts_of}
use Rattle.gw_chunk.specs.Part.{Begins, BeginsContent, IsPart}
use Rattle.gw_chunk.specs.Position.{first, next_line, after, given, is_undecided, Leads}
use Rattle.gw_chunk.proofs.Given.{given_then, given_line, given_quiet}
use Rattle.gw_chunk.proofs.Walks.{after-append, after-ended, leads_data}
use Rattle.gw_chunk.proofs.Forward.{behind_allowed, chunks_go, last_line_goes, line_goes, sum_within}
use Rattle.gw_chunk.proofs.Parsing.{Outcome, whole, broken, undecided, Parsed, parsed}
use Rattle.gw_chunk.proofs.TextLaws.{bad_fails, fails_bad, has_text, parsed_bad, regroup, texts_end, text_has, undecided_end, undecided_fault, undecided_from}

part_by : (bytes : List ℕ) (found : Parsed 0 bytes) → Outcome found.total found.rest → is_undecided (after first bytes) ≡ true
    → IsPart bytes (given first bytes)
part_by bytes found (whole last rest text is_last) h =
    let all = regroup (texts_of found.chunks) last rest bytes found.rest found.text text in
    let front = texts_of found.chunks ++ last in
    let led = texts_end found.chunks last found.are_chunks is_last in
    let ended : after first bytes ≡ Ended =
    ap (after first) all ∙ after-append first front rest ∙ ap (λ q. after q rest) led.place ∙ after-ended rest in
    absurd (cc)
part_by bytes found (broken fault rest error text breaks) h =
    let bad = parsed_bad bytes found fault rest error text breaks in
    absurd (undecided_fault first bytes error h (bad_fails bytes error bad))
part_by bytes found (undecided content begins out going) h =
    let same : found.total ≡ length (contents_of found.chunks) = omega (arith, found.is_total) in
    let B : ℕ → Type 0 = λ n. Begins n found.rest content in
    record {
      chunks = found.chunks;
      begun = found.rest;
      content = content;
      text = found.text;
      are_chunks = found.are_chunks;
      begins = subst B same begins;
      is_data = ap (given first) found.text
          ∙ given_then first (next_line (0 + length (contents_of found.chunks))) (texts_of found.chunks) (contents_of found.chunks) found.rest
          (chunks_go 0 found.chunks found.are_chunks)
          ∙ ap (λ n. contents_of found.chunks ++ given (next_line n) found.rest) (sym found.is_total)
          ∙ ap (λ l. contents_of found.chunks ++ l) out;
      no_end = λ front more e text chunked. undecided_end first bytes front more e h text (text_has front e chunked);
      no_fault = λ error bad. undecided_fault first bytes error h (bad_fails bytes error bad);
    }

-- an undecided front is a part, with the data among it
pub undecided_part : (bytes : List ℕ) → is_undecided (after first bytes) ≡ true → IsPart bytes (given first bytes)
undecided_part bytes h =
    let found = parsed (length bytes) 0 bytes (omega arith) (omega arith) in
    part_by bytes found found.outcome h

-- ---- and a part is such a front

one_byte : (at : Position) (behind : List ℕ) → ((b : ℕ) → given at (b ∷ []) ≡ []) → length behind ≡ 1 → given at behind ≡ []
one_byte at [] none one = refl
one_byte at (b ∷ []) none one = none b
one_byte at (b ∷ c ∷ more) none one = absurd (omega arith)

content_given : (sum : ℕ) (begun content : List ℕ) → BeginsContent sum begun content → given (next_line sum) begun ≡ content
content_given sum begun content h =
    let at = Content h.size (sum + h.size) in
    let L : Position → Type 0 = λ q. Leads (next_line sum) h.line [] q in
    let led = subst L (behind_allowed h.size sum h.some h.is_allowed) (line_goes h.line h.size sum h.is_line) in
    let most : length content ≤ h.size = ⊎_elim (λ w. w.1) (λ w. (let same = w.1 in omega arith)) h.cut in
    let inside = leads_data content h.size (sum + h.size) most in
    ap (given (next_line sum)) h.text
    ∙ given_then (next_line sum) at h.line [] (content ++ h.behind) led
    ∙ given_then at (Content (h.size - length content) (sum + h.size)) content content h.behind inside
    ∙ ap (λ l. content ++ l)
    (⊎_elim
    (λ w. ap (given (Content (h.size - length content) (sum + h.size))) w.0)
    (λ w. one_byte (Content (h.size - length content) (sum + h.size)) h.behind
    (λ b. ap (λ n. given (Content n (sum + h.size)) (b ∷ [])) (whole_size w.1)) w.0)
    h.cut)
    ∙ append-nil content
  where
    whole_size : length content ≡ h.size → h.size - length content ≡ 0
    whole_size same = omega arith

begins_given : (sum : ℕ) (begun content : List ℕ) → sum ≤ data_limit → Begins sum begun content → given (next_line sum) begun ≡ content
begins_given sum begun content small h =
    ⊎_elim
    (λ w. given_line begun w.0 Empty 0 0 sum ∙ sym w.1)
    (λ more. ⊎_elim
    (λ w. content_given sum begun content w)
    (λ w. ap (given (next_line sum)) w.0.text
    ∙ given_then (next_line sum) (Fields Begin 0) w.0.line [] w.0.section (last_line_goes w.0.line sum small w.0.is_line)
    ∙ given_quiet (Fields Begin 0) w.0.section refl
    ∙ sym w.1)
    more)
    h

zero_sum : (d : List ℕ) → 0 + length d ≡ length d
zero_sum d = omega arith

within : (chunks : List Chunk) → AreChunks 0 chunks → length (contents_of chunks) ≤ data_limit
within chunks good = let most = sum_within 0 chunks (omega arith) good in omega arith

pub part_undecided : (bytes d : List ℕ) → IsPart bytes d → (is_undecided (after first bytes) ≡ true) × (given first bytes ≡ d)
part_undecided bytes d h = (
  undecided_from first bytes (λ front more e text has. h.no_end front more e text (has_text front e has))
      (λ error fails. h.no_fault error (fails_bad bytes error fails)),
  ap (given first) h.text
      ∙ given_then first (next_line (0 + length (contents_of h.chunks))) (texts_of h.chunks) (contents_of h.chunks) h.begun
      (chunks_go 0 h.chunks h.are_chunks)
      ∙ ap (λ n. contents_of h.chunks ++ given (next_line n) h.begun) (zero_sum (contents_of h.chunks))
      ∙ ap (λ l. contents_of h.chunks ++ l)
      (begins_given (length (contents_of h.chunks)) h.begun h.content (within h.chunks h.are_chunks) h.begins)
      ∙ sym h.is_data,
)
