-- Any bytes are chunks and then the end of a text, a fault, or something that isn't decided yet.
use Rattle.std.proofs.Common.{◌≡◌, ℕ, zero, suc, ◌+◌, ◌-◌, ◌^◌, ◌<◌, ◌≤◌, List, [], ◌∷◌, ◌++◌, length, take, drop, refl, sym, ap, ◌∙◌, subst, arith, true, inl, inr, ⊎_elim}
use Rattle.std.proofs.lemmas.List.{append-nil, append_assoc, length-append, append_cancel_right, take-append-drop, length-take-le}
use Rattle.std.proofs.lemmas.Bool.{cases_lt, cases_eq}
use Rattle.std.specs.Prelude.{◌⊎◌}
use Rattle.std.specs.List.{concat}
use Rattle.gw_chunk.specs.declared.error.ChunkError.{ChunkError}
use Rattle.gw_chunk.specs.declared.error.ChunkError.TheVariants.{BadLine, LineTooLong, TooLarge, DataEnd, Trailer}
use Rattle.gw_chunk.specs.declared.lines.LineForm.{LineForm}
use Rattle.gw_chunk.specs.declared.lines.LineForm.TheVariants.{Empty, Digits, Blanks, Extension, Return, Broken}
use Rattle.gw_chunk.specs.declared.lines.FieldForm.{FieldForm}
use Rattle.gw_chunk.specs.declared.lines.FieldForm.TheVariants.{Begin, Name, Value, Close, Last, Faulty}
use Rattle.gw_chunk.specs.declared.position.Position.{Position}
use Rattle.gw_chunk.specs.declared.position.Position.TheVariants.{Line, Content, Fields}
use Rattle.gw_chunk.specs.Bytes.{crlf}
use Rattle.gw_chunk.specs.Chunked.{IsChunkLine, IsAllowed, Chunk, IsChunk, AreChunks, text_of, texts_of, contents_of, IsFieldLine, AreFieldLines, IsLast, NoFeed, IsLine, Breaks, data_limit, section_limit, line_limit}
use Rattle.gw_chunk.specs.Part.{Begins}
use Rattle.gw_chunk.specs.Position.{next_line, after, given, is_undecided, Leads}
use Rattle.gw_chunk.proofs.Walks.{after-append, leads_data}
use Rattle.gw_chunk.proofs.Given.{given_then, given_quiet}
use Rattle.gw_chunk.proofs.LineForms.{run, sized}
use Rattle.gw_chunk.proofs.FieldForms.{run as run_fields, run_empty, inner_empty}
use Rattle.gw_chunk.proofs.Feeds.{Cut, short, long, line, cut}
use Rattle.gw_chunk.proofs.Forward.{line_run, line_parts, line_goes, chunk_line, behind_allowed, last_line_goes, line_and_content, field_run, field_line, field_parts, field_goes}

-- nothing is decided behind the bytes
abbrev pub Going : Position → List ℕ → Type 0
Going p bytes = is_undecided (after p bytes) ≡ true

going_led : (p q : Position) (bytes d : List ℕ) → Leads p bytes d q → is_undecided q ≡ true → Going p bytes
going_led p q bytes d led going = ap is_undecided led.place ∙ going

going_after : (p q : Position) (a d b : List ℕ) → Leads p a d q → Going q b → Going p (a ++ b)
going_after p q a d b led going = ap is_undecided (after-append p a b ∙ ap (λ r. after r b) led.place) ∙ going

-- ---- trailer sections

-- what bytes of a trailer section are, behind so many others
data SectionOutcome (read : ℕ) (bytes : List ℕ) : Type 0 where
  ended : (lines : List (List ℕ)) (rest : List ℕ) → bytes ≡ (concat lines ++ crlf) ++ rest → AreFieldLines lines
      → read + length (concat lines ++ crlf) ≤ section_limit → SectionOutcome read bytes
  broke : (lines : List (List ℕ)) (last rest : List ℕ) → bytes ≡ (concat lines ++ last) ++ rest → AreFieldLines lines
      → ((IsLine last × (last ≡ crlf → ⊥) × (IsFieldLine last → ⊥) × (read + length (concat lines ++ last) ≤ section_limit))
      ⊎ (NoFeed last × (read + length (concat lines ++ last) ≡ section_limit)))
      → SectionOutcome read bytes
  going : Going (Fields Begin read) bytes → SectionOutcome read bytes

-- a field line more at the front
cons_count : (read n : ℕ) (one : List ℕ) (lines : List (List ℕ)) (last : List ℕ) → read + length one + length (concat lines ++ last) ≡ n
    → read + length ((one ++ concat lines) ++ last) ≡ n
cons_count read n one lines last h =
    let same = ap length (append_assoc one (concat lines) last) in
    let parts = length-append one (concat lines ++ last) in
    omega arith

cons_text : (one bytes rest m : List ℕ) (lines : List (List ℕ)) (last : List ℕ) → bytes ≡ one ++ m → m ≡ (concat lines ++ last) ++ rest
    → bytes ≡ ((one ++ concat lines) ++ last) ++ rest
cons_text one bytes rest m lines last h k = h ∙ ap (λ r. one ++ r) k ∙ simp append_assoc

cons_section : (read : ℕ) (one bytes m : List ℕ) → bytes ≡ one ++ m → IsFieldLine one → read + length one ≤ 65535
    → SectionOutcome (read + length one) m → SectionOutcome read bytes
cons_section read one bytes m text field less (ended lines rest more fields within) =
    ended (one ∷ lines) rest (cons_text one bytes rest m lines crlf text more) (field, fields)
    (let count = cons_count read (read + length one + length (concat lines ++ crlf)) one lines crlf refl in omega arith)
cons_section read one bytes m text field less (broke lines last rest more fields cause) =
    broke (one ∷ lines) last rest (cons_text one bytes rest m lines last text more) (field, fields)
    (let count = cons_count read (read + length one + length (concat lines ++ last)) one lines last refl in
    ⊎_elim
    (λ bad. (let most = bad.3 in inl (bad.0, bad.1, bad.2, omega arith)))
    (λ full. (let many = full.1 in inr (full.0, omega arith)))
    cause)
cons_section read one bytes m text field less (going still) =
    let G : List ℕ → Type 0 = λ l. Going (Fields Begin read) l in
    going (subst G (sym text) (going_after (Fields Begin read) (Fields Begin (read + length one)) one [] m (field_goes one read field less) still))

-- a line of the section, by its form
data FieldKind (inner : List ℕ) : Type 0 where
  field : IsFieldLine (inner ++ 10 ∷ []) → FieldKind inner
  empty : inner ≡ 13 ∷ [] → FieldKind inner
  neither : (inner ++ 10 ∷ [] ≡ crlf → ⊥) → (IsFieldLine (inner ++ 10 ∷ []) → ⊥) → FieldKind inner

other_form : (inner : List ℕ) (f : FieldForm) → run_fields Begin inner ≡ f → (f ≡ Close → ⊥) → (f ≡ Last → ⊥) → FieldKind inner
other_form inner f is not_close not_last =
    neither
    (λ e. (let P : List ℕ → Type 0 = λ l. run_fields Begin l ≡ f in
    let same = append_cancel_right inner (13 ∷ []) (10 ∷ []) e in
    not_last (sym is ∙ ap (run_fields Begin) same ∙ run_empty)))
    (λ h. (let parts = field_parts (inner ++ 10 ∷ []) h in
    let same = append_cancel_right inner parts.inner (10 ∷ []) parts.text in
    not_close (sym is ∙ ap (run_fields Begin) same ∙ parts.form)))

kind_by : (inner : List ℕ) (f : FieldForm) → NoFeed inner → run_fields Begin inner ≡ f → FieldKind inner
kind_by inner Begin none is = other_form inner Begin is (λ e. cc) (λ e. cc)
kind_by inner Name none is = other_form inner Name is (λ e. cc) (λ e. cc)
kind_by inner Value none is = other_form inner Value is (λ e. cc) (λ e. cc)
kind_by inner Close none is = field (field_line inner none is)
kind_by inner Last none is = empty (inner_empty inner is)
kind_by inner Faulty none is = other_form inner Faulty is (λ e. cc) (λ e. cc)

-- behind a field line
after_field : (read : ℕ) (one bytes m : List ℕ) → bytes ≡ one ++ m → IsFieldLine one → read + length one ≤ section_limit
    → (read + length one ≤ 65535 → SectionOutcome (read + length one) m) → SectionOutcome read bytes
after_field read one bytes m text is_field within more =
    ⊎_elim
    (λ less. cons_section read one bytes m text is_field (omega arith) (more (omega arith)))
    (λ full. broke (one ∷ []) [] m (text ∙ simp append-nil) (is_field, tt)
    (inr (tt, (let same : length ((one ++ []) ++ []) ≡ length one = simp append-nil in omega arith))))
    (cases_lt (read + length one) section_limit)

by_kind : (read : ℕ) (inner bytes m : List ℕ) → bytes ≡ (inner ++ 10 ∷ []) ++ m → NoFeed inner → length inner < section_limit - read
    → read ≤ 65535 → FieldKind inner
    → (read + length (inner ++ 10 ∷ []) ≤ 65535 → SectionOutcome (read + length (inner ++ 10 ∷ [])) m)
    → SectionOutcome read bytes
by_kind read inner bytes m text none less room (field h) more =
    let size = length-append inner (10 ∷ []) in
    after_field read (inner ++ 10 ∷ []) bytes m text h (omega arith) more
by_kind read inner bytes m text none less room (empty h) more =
    let size = ap length h in
    ended [] m (text ∙ ap (λ l. (l ++ 10 ∷ []) ++ m) h) tt (omega arith)
by_kind read inner bytes m text none less room (neither h k) more =
    let size = length-append inner (10 ∷ []) in
    broke [] (inner ++ 10 ∷ []) m text tt
    (inl (record { inner = inner; text = refl; no_feed = none }, h, k, omega arith))

by_cut : (turns read : ℕ) (bytes : List ℕ) → read ≤ 65535 → length bytes ≤ turns → Cut (section_limit - read) bytes
    → ((inner m : List ℕ) → bytes ≡ (inner ++ 10 ∷ []) ++ m → read + length (inner ++ 10 ∷ []) ≤ 65535 → SectionOutcome (read + length (inner ++ 10 ∷ [])) m)
    → SectionOutcome read bytes
by_cut turns read bytes room enough (short none less) more =
    going (going_led (Fields Begin read) (Fields (run_fields Begin bytes) (read + length bytes)) bytes []
    (field_run bytes Begin read none (omega arith)) refl)
by_cut turns read bytes room enough (long front rest text none many) more =
    broke [] front rest text tt (inr (none, omega arith))
by_cut turns read bytes room enough (line inner rest text none less) more =
    by_kind read inner bytes rest text none less room (kind_by inner (run_fields Begin inner) none refl) (more inner rest text)

section_outcome : (turns read : ℕ) (bytes : List ℕ) → read ≤ 65535 → length bytes ≤ turns → SectionOutcome read bytes
section_outcome zero read bytes room enough =
    by_cut zero read bytes room enough (cut (section_limit - read) bytes)
    (λ inner m text within. (let size = ap length text ∙ length-append (inner ++ 10 ∷ []) m in
    let one = length-append inner (10 ∷ []) in absurd (omega arith)))
section_outcome (suc turns) read bytes room enough =
    by_cut (suc turns) read bytes room enough (cut (section_limit - read) bytes)
    (λ inner m text within. section_outcome turns (read + length (inner ++ 10 ∷ [])) m within
    (let size = ap length text ∙ length-append (inner ++ 10 ∷ []) m in
    let one = length-append inner (10 ∷ []) in omega arith))

-- ---- chunks

-- what bytes that begin where a chunk must begin are, behind so many bytes of data
pub data Outcome (sum : ℕ) (bytes : List ℕ) : Type 0 where
  whole : (last rest : List ℕ) → bytes ≡ last ++ rest → IsLast last → Outcome sum bytes
  broken : (fault rest : List ℕ) (error : ChunkError) → bytes ≡ fault ++ rest → Breaks sum fault error → Outcome sum bytes
  undecided : (content : List ℕ) → Begins sum bytes content → given (next_line sum) bytes ≡ content → Going (next_line sum) bytes
      → Outcome sum bytes

-- these, or a chunk at the front
data FirstPart (sum : ℕ) (bytes : List ℕ) : Type 0 where
  no_chunk : Outcome sum bytes → FirstPart sum bytes
  chunk : (one : Chunk) (rest : List ℕ) → bytes ≡ text_of one ++ rest → IsChunk sum one → FirstPart sum bytes

behind_last : (sum : ℕ) (head bytes m : List ℕ) → sum ≤ data_limit → bytes ≡ head ++ m → IsChunkLine head 0 → SectionOutcome 0 m
    → Outcome sum bytes
behind_last sum head bytes m small text is_line (ended lines rest more fields within) =
    whole (head ++ (concat lines ++ crlf)) rest
    (text ∙ ap (λ r. head ++ r) more ∙ sym (append_assoc head (concat lines ++ crlf) rest))
    (record {
      line = head;
      section = concat lines ++ crlf;
      text = refl;
      is_line = is_line;
      is_section = record { lines = lines; text = refl; are_fields = fields; short = omega arith };
    })
behind_last sum head bytes m small text is_line (broke lines last rest more fields cause) =
    broken (head ++ (concat lines ++ last)) rest Trailer
    (text ∙ ap (λ r. head ++ r) more ∙ sym (append_assoc head (concat lines ++ last) rest))
    (record {
      line = head;
      section = concat lines ++ last;
      text = refl;
      is_line = is_line;
      breaks = record {
        lines = lines;
        last = last;
        text = refl;
        are_fields = fields;
        cause = ⊎_elim
            (λ bad. (let most = bad.3 in inl (bad.0, bad.1, bad.2, omega arith)))
            (λ full. (let many = full.1 in inr (full.0, omega arith)))
            cause;
      };
    })
behind_last sum head bytes m small text is_line (going still) =
    let G : List ℕ → Type 0 = λ l. Going (next_line sum) l in
    let led = last_line_goes head sum small is_line in
    undecided [] (inr (inr (record { line = head; section = m; text = text; is_line = is_line }, refl)))
    (ap (given (next_line sum)) text ∙ given_then (next_line sum) (Fields Begin 0) head [] m led ∙ given_quiet (Fields Begin 0) m refl)
    (subst G (sym text) (going_after (next_line sum) (Fields Begin 0) head [] m led still))

is_allowed : (sum size : ℕ) → IsAllowed sum size ⊎ (IsAllowed sum size → ⊥)
is_allowed sum size =
    ⊎_elim
    (λ less. ⊎_elim
    (λ over. inr (λ h. (let together = h.together in omega arith)))
    (λ within. inl (record { alone = less; together = within }))
    (cases_lt (2 ^ 62) (sum + size)))
    (λ more. inr (λ h. (let alone = h.alone in omega arith)))
    (cases_lt size (2 ^ 48))

-- behind the data, and before its end is decided
content_read : (sum : ℕ) (one : Chunk) (bytes m : List ℕ) → bytes ≡ (one.line ++ one.content) ++ m → IsChunk sum one
    → ((m ≡ []) × (length one.content ≤ length one.content)) ⊎ ((length m ≡ 1) × (length one.content ≡ length one.content))
    → given (Content 0 (sum + length one.content)) m ≡ [] → Going (Content 0 (sum + length one.content)) m → Outcome sum bytes
content_read sum one bytes m text is_chunk cut none still =
    let G : List ℕ → Type 0 = λ l. Going (next_line sum) l in
    let at = Content 0 (sum + length one.content) in
    let led = line_and_content sum one is_chunk in
    undecided one.content
    (inr (inl (record {
      line = one.line;
      size = length one.content;
      behind = m;
      text = text ∙ append_assoc one.line one.content m;
      is_line = is_chunk.is_line;
      some = is_chunk.some;
      is_allowed = is_chunk.is_allowed;
      cut = cut;
    })))
    (ap (given (next_line sum)) text ∙ given_then (next_line sum) at (one.line ++ one.content) one.content m led
    ∙ ap (λ l. one.content ++ l) none ∙ append-nil one.content)
    (subst G (sym text) (going_after (next_line sum) at (one.line ++ one.content) one.content m led still))

behind_content : (sum : ℕ) (one : Chunk) (bytes m : List ℕ) → bytes ≡ (one.line ++ one.content) ++ m → IsChunk sum one → FirstPart sum bytes
behind_content sum one bytes [] text is_chunk = no_chunk (content_read sum one bytes [] text is_chunk (inl (refl, omega arith)) refl refl)
behind_content sum one bytes (x ∷ []) text is_chunk = no_chunk (content_read sum one bytes (x ∷ []) text is_chunk (inr (refl, refl)) refl refl)
behind_content sum one bytes (x ∷ y ∷ m) text is_chunk =
    let broken_by : (x ∷ y ∷ [] ≡ crlf → ⊥) → FirstPart sum bytes =
    λ other. no_chunk (broken (one.line ++ (one.content ++ x ∷ y ∷ [])) m DataEnd
    (text ∙ regrouped one.line one.content x y m)
    (record { chunk = one; two = x ∷ y ∷ []; text = refl; is_chunk = is_chunk; are_two = refl; not_crlf = other })) in
    ⊎_elim
    (λ first. ⊎_elim
    (λ second. chunk one m (text ∙ regrouped one.line one.content x y m
    ∙ ap (λ v. (one.line ++ (one.content ++ v ∷ y ∷ [])) ++ m) first
    ∙ ap (λ w. (one.line ++ (one.content ++ 13 ∷ w ∷ [])) ++ m) second) is_chunk)
    (λ other. broken_by (λ e. other (cc)))
    (cases_eq y 10))
    (λ other. broken_by (λ e. other (cc)))
    (cases_eq x 13)
  where
    regrouped : (a b : List ℕ) (v w : ℕ) (r : List ℕ) → (a ++ b) ++ v ∷ w ∷ r ≡ (a ++ (b ++ v ∷ w ∷ [])) ++ r
    regrouped a b v w r = simp append_assoc

-- behind a good line with an allowed size above 0
behind_good : (sum size : ℕ) (head bytes m : List ℕ) → bytes ≡ head ++ m → IsChunkLine head size → 0 < size → IsAllowed sum size
    → FirstPart sum bytes
behind_good sum size head bytes m text is_line some allowed =
    ⊎_elim
    (λ few. (let G : List ℕ → Type 0 = λ l. Going (next_line sum) l in
    let L : Position → Type 0 = λ q. Leads (next_line sum) head [] q in
    let led = subst L (behind_allowed size sum some allowed) (line_goes head size sum is_line) in
    let content = leads_data m size (sum + size) (omega arith) in
    no_chunk (undecided m
    (inr (inl (record {
      line = head;
      size = size;
      behind = [];
      text = text ∙ ap (λ l. head ++ l) (sym (append-nil m));
      is_line = is_line;
      some = some;
      is_allowed = allowed;
      cut = inl (refl, omega arith);
    })))
    (ap (given (next_line sum)) text ∙ given_then (next_line sum) (Content size (sum + size)) head [] m led ∙ content.out)
    (subst G (sym text) (going_after (next_line sum) (Content size (sum + size)) head [] m led
    (going_led (Content size (sum + size)) (Content (size - length m) (sum + size)) m m content refl))))))
    (λ enough. (let content = take size m in
    let long : length content ≡ size = length-take-le size m enough in
    let I : ℕ → Type 0 = λ n. IsChunkLine head n in
    let A : ℕ → Type 0 = λ n. IsAllowed sum n in
    behind_content sum (record { line = head; content = content }) bytes (drop size m)
    (text ∙ ap (λ r. head ++ r) (sym (take-append-drop size m)) ∙ sym (append_assoc head content (drop size m)))
    (record { some = omega arith; is_line = subst I (sym long) is_line; is_allowed = subst A (sym long) allowed })))
    (cases_lt (length m) size)

behind_line_text : (sum size : ℕ) (head bytes m : List ℕ) → sum ≤ data_limit → bytes ≡ head ++ m → IsChunkLine head size → FirstPart sum bytes
behind_line_text sum size head bytes m small text is_line =
    ⊎_elim
    (λ allowed. ⊎_elim
    (λ none. (let I : ℕ → Type 0 = λ n. IsChunkLine head n in
    no_chunk (behind_last sum head bytes m small text (subst I none is_line) (section_outcome (length m) 0 m (omega arith) (omega arith)))))
    (λ some. behind_good sum size head bytes m text is_line (omega arith) allowed)
    (cases_eq size 0))
    (λ refused. no_chunk (broken head m TooLarge text (size, is_line, refused)))
    (is_allowed sum size)

bad_form : (sum : ℕ) (inner bytes m : List ℕ) → bytes ≡ (inner ++ 10 ∷ []) ++ m → NoFeed inner → length inner < line_limit
    → (run Empty inner ≡ Return → ⊥) → FirstPart sum bytes
bad_form sum inner bytes m text none less not_good =
    let size = length-append inner (10 ∷ []) in
    no_chunk (broken (inner ++ 10 ∷ []) m BadLine text (
      record { inner = inner; text = refl; no_feed = none },
      omega arith,
      λ n h. (let parts = line_parts (inner ++ 10 ∷ []) n h in
          let same = append_cancel_right inner parts.inner (10 ∷ []) parts.text in
          not_good (ap (run Empty) same ∙ parts.form)),
    ))

by_form : (sum : ℕ) (inner bytes m : List ℕ) (f : LineForm) → sum ≤ data_limit → bytes ≡ (inner ++ 10 ∷ []) ++ m → NoFeed inner
    → length inner < line_limit → run Empty inner ≡ f → FirstPart sum bytes
by_form sum inner bytes m Empty small text none less is = bad_form sum inner bytes m text none less (λ e. cc)
by_form sum inner bytes m Digits small text none less is = bad_form sum inner bytes m text none less (λ e. cc)
by_form sum inner bytes m Blanks small text none less is = bad_form sum inner bytes m text none less (λ e. cc)
by_form sum inner bytes m Extension small text none less is = bad_form sum inner bytes m text none less (λ e. cc)
by_form sum inner bytes m Return small text none less is =
    let found = chunk_line inner none (omega arith) is in
    behind_line_text sum found.0 (inner ++ 10 ∷ []) bytes m small text found.1
by_form sum inner bytes m Broken small text none less is = bad_form sum inner bytes m text none less (λ e. cc)

first_by : (sum : ℕ) (bytes : List ℕ) → sum ≤ data_limit → Cut line_limit bytes → FirstPart sum bytes
first_by sum bytes small (short none less) =
    let led = line_run bytes Empty 0 0 sum none (omega arith) in
    no_chunk (undecided [] (inl (none, refl)) led.out
    (going_led (next_line sum) (Line (run Empty bytes) (0 + length bytes) (sized Empty 0 bytes) sum) bytes [] led refl))
first_by sum bytes small (long front rest text none many) = no_chunk (broken front rest LineTooLong text (none, many))
first_by sum bytes small (line inner rest text none less) = by_form sum inner bytes rest (run Empty inner) small text none less refl

first_part : (sum : ℕ) (bytes : List ℕ) → sum ≤ data_limit → FirstPart sum bytes
first_part sum bytes small = first_by sum bytes small (cut line_limit bytes)

-- chunks, and what follows them
pub record Parsed (sum : ℕ) (bytes : List ℕ) : Type 0 where
  pub chunks : List Chunk
  pub rest : List ℕ
  pub text : bytes ≡ texts_of chunks ++ rest
  pub are_chunks : AreChunks sum chunks
  pub total : ℕ
  pub is_total : total ≡ sum + length (contents_of chunks)
  pub outcome : Outcome total rest

parsed_by : (sum : ℕ) (bytes : List ℕ) → FirstPart sum bytes
    → ((one : Chunk) (rest : List ℕ) → bytes ≡ text_of one ++ rest → IsChunk sum one → Parsed (sum + length one.content) rest)
    → Parsed sum bytes
parsed_by sum bytes (no_chunk outcome) more = record {
  chunks = [];
  rest = bytes;
  text = refl;
  are_chunks = tt;
  total = sum;
  is_total = omega arith;
  outcome = outcome;
}
parsed_by sum bytes (chunk one rest text is_chunk) more =
    let found = more one rest text is_chunk in
    let sums = found.is_total in
    let long = length-append one.content (contents_of found.chunks) in
    record {
      chunks = one ∷ found.chunks;
      rest = found.rest;
      text = text ∙ ap (λ r. text_of one ++ r) found.text ∙ sym (append_assoc (text_of one) (texts_of found.chunks) found.rest);
      are_chunks = (is_chunk, found.are_chunks);
      total = found.total;
      is_total = omega arith;
      outcome = found.outcome;
    }

shorter : (sum : ℕ) (one : Chunk) (bytes rest : List ℕ) → bytes ≡ text_of one ++ rest → IsChunk sum one → length rest < length bytes
shorter sum one bytes rest text is_chunk =
    let size = ap length text ∙ length-append (text_of one) rest in
    let parts = length-append one.line (one.content ++ crlf) in
    let data_part = length-append one.content crlf in
    omega arith

pub parsed : (turns sum : ℕ) (bytes : List ℕ) → length bytes ≤ turns → sum ≤ data_limit → Parsed sum bytes
parsed zero sum bytes enough small =
    parsed_by sum bytes (first_part sum bytes small)
    (λ one rest text is_chunk. (let less = shorter sum one bytes rest text is_chunk in absurd (omega arith)))
parsed (suc turns) sum bytes enough small =
    parsed_by sum bytes (first_part sum bytes small)
    (λ one rest text is_chunk. parsed turns (sum + length one.content) rest
    (let less = shorter sum one bytes rest text is_chunk in omega arith) is_chunk.is_allowed.together)
