-- What the grammar says leads the position where it should.
use Rattle.std.proofs.Common.{◌≡◌, ℕ, suc, ◌+◌, ◌-◌, ◌^◌, ◌<◌, ◌≤◌, List, [], ◌∷◌, ◌++◌, length, refl, sym, ap, ◌∙◌, subst, arith, min, ⊎_elim}
use Rattle.std.proofs.lemmas.List.{append-nil, append_assoc, length-append}
use Rattle.std.proofs.lemmas.Bool.{ne_eqb, lt-leb, le-leb, le-ltb, lt-ltb, cases_lt}
use Rattle.std.specs.Prelude.{◌==◌, nat_le, nat_lt, if◌then◌else◌}
use Rattle.std.specs.List.{concat}
use Rattle.std.specs.Str.Parse.{digits_value}
use Rattle.gw_chunk.specs.declared.error.ChunkError.TheVariants.{LineTooLong, TooLarge, Trailer}
use Rattle.gw_chunk.specs.declared.lines.LineForm.{LineForm}
use Rattle.gw_chunk.specs.declared.lines.LineForm.TheVariants.{Empty, Return}
use Rattle.gw_chunk.specs.declared.lines.FieldForm.{FieldForm}
use Rattle.gw_chunk.specs.declared.lines.FieldForm.TheVariants.{Begin, Close}
use Rattle.gw_chunk.specs.declared.position.Position.{Position}
use Rattle.gw_chunk.specs.declared.position.Position.TheVariants.{Line, Content, Fields, Ended, Refused}
use Rattle.gw_chunk.specs.Bytes.{crlf, is_blank, is_token_byte, is_value_byte}
use Rattle.gw_chunk.specs.Chunked.{IsChunkLine, IsAllowed, Chunk, IsChunk, AreChunks, text_of, texts_of, contents_of, IsFieldLine, AreFieldLines, IsSection, IsLast, NoFeed, data_limit}
use Rattle.gw_chunk.specs.Lines.{line_form, line_size, field_form}
use Rattle.gw_chunk.specs.Position.{next_line, behind_size, behind_line, behind_field, after_byte, Leads}
use Rattle.gw_chunk.proofs.Walks.{leads_none, leads_then, leads_one, leads_cons, leads_data}
use Rattle.gw_chunk.proofs.LineForms.{run, sized, good_inner, inner_line}
use Rattle.gw_chunk.proofs.FieldForms.{run as run_fields, run_field, run_empty, inner_field}
use Rattle.gw_chunk.proofs.Feeds.{no_feed-append, no_feed_from, no_feed_digits, no_feed_extension, token_feed}

-- ---- chunk lines

line_step : (f : LineForm) (read size sum b : ℕ) → (b ≡ 10 → ⊥) → read < 4095
    → after_byte (Line f read size sum) b ≡ Line (line_form f b) (read + 1) (line_size f size b) sum
line_step f read size sum b other less =
    let next = Line (line_form f b) (read + 1) (line_size f size b) sum in
    ap (λ v. if v then behind_line f size sum else (if nat_le 4095 read then Refused LineTooLong else next)) (ne_eqb b 10 other)
    ∙ ap (λ v. if v then Refused LineTooLong else next) (lt-leb 4095 read less)

pub line_run : (l : List ℕ) (f : LineForm) (read size sum : ℕ) → NoFeed l → read + length l ≤ 4095
    → Leads (Line f read size sum) l [] (Line (run f l) (read + length l) (sized f size l) sum)
line_run [] f read size sum none short =
    let same : read ≡ read + 0 = omega arith in
    record { place = ap (λ n. Line f n size sum) same; out = refl; inside = tt }
line_run (b ∷ l) f read size sum none short =
    let same : read + 1 + length l ≡ read + suc (length l) = omega arith in
    let L : ℕ → Type 0 = λ n. Leads (Line f read size sum) (b ∷ l) [] (Line (run f (b ∷ l)) n (sized f size (b ∷ l)) sum) in
    subst L same
    (leads_cons (Line f read size sum) (Line (line_form f b) (read + 1) (line_size f size b) sum)
    (Line (run f (b ∷ l)) (read + 1 + length l) (sized f size (b ∷ l)) sum) b l [] [] refl
    (line_step f read size sum b none.0 (omega arith)) refl
    (line_run l (line_form f b) (read + 1) (line_size f size b) sum none.1 (omega arith)))

pub line_whole : (inner : List ℕ) (sum : ℕ) → NoFeed inner → length inner ≤ 4095
    → Leads (next_line sum) (inner ++ 10 ∷ []) [] (behind_line (run Empty inner) (sized Empty 0 inner) sum)
line_whole inner sum none short =
    let middle = Line (run Empty inner) (0 + length inner) (sized Empty 0 inner) sum in
    leads_then (next_line sum) middle (behind_line (run Empty inner) (sized Empty 0 inner) sum) inner (10 ∷ []) [] []
    (line_run inner Empty 0 0 sum none (omega arith))
    (leads_one middle (behind_line (run Empty inner) (sized Empty 0 inner) sum) 10 [] refl refl refl)

-- a good line but for its LF
pub record LineParts (line : List ℕ) (size : ℕ) : Type 0 where
  pub inner : List ℕ
  pub text : line ≡ inner ++ 10 ∷ []
  pub none : NoFeed inner
  pub short : length inner ≤ 4095
  pub form : run Empty inner ≡ Return
  pub value : sized Empty 0 inner ≡ min size (2 ^ 48)

regroup : (a b c : List ℕ) → a ++ (b ++ (c ++ crlf)) ≡ (a ++ (b ++ (c ++ 13 ∷ []))) ++ 10 ∷ []
regroup a b c = simp append_assoc

pub line_parts : (line : List ℕ) (size : ℕ) → IsChunkLine line size → LineParts line size
line_parts line size h =
    let inner = h.digits ++ (h.blanks ++ (h.extension ++ 13 ∷ [])) in
    let text : line ≡ inner ++ 10 ∷ [] = h.text ∙ regroup h.digits h.blanks h.extension in
    let good = good_inner h.digits h.blanks h.extension h.is_numeral h.are_blanks h.is_extension in
    let less : length inner + 1 ≡ length line = sym (length-append inner (10 ∷ [])) ∙ ap length (sym text) in
    let most = h.short in
    record {
      inner = inner;
      text = text;
      none = no_feed-append h.digits (h.blanks ++ (h.extension ++ 13 ∷ [])) (no_feed_digits h.digits h.is_numeral.1)
          (no_feed-append h.blanks (h.extension ++ 13 ∷ []) (no_feed_from is_blank h.blanks refl h.are_blanks)
          (no_feed-append h.extension (13 ∷ []) (no_feed_extension h.extension h.is_extension) ((λ e. cc), tt)));
      short = omega arith;
      form = good.form;
      value = good.size ∙ ap (λ n. min n (2 ^ 48)) (sym h.is_size);
    }

-- and back
pub chunk_line : (inner : List ℕ) → NoFeed inner → length inner ≤ 4095 → run Empty inner ≡ Return
    → (size : ℕ) × IsChunkLine (inner ++ 10 ∷ []) size
chunk_line inner none short form =
    let found = inner_line inner none form in
    let parts = found.parts in
    let long = length-append inner (10 ∷ []) in (
      digits_value 16 parts.digits,
      record {
        digits = parts.digits;
        blanks = parts.blanks;
        extension = parts.extension;
        text = ap (λ l. l ++ 10 ∷ []) parts.text ∙ sym (regroup parts.digits parts.blanks parts.extension);
        is_numeral = (found.some, parts.are_digits);
        are_blanks = parts.are_blanks;
        is_extension = parts.is_extension;
        is_size = refl;
        short = omega arith;
      },
    )

pub line_goes : (line : List ℕ) (size sum : ℕ) → IsChunkLine line size
    → Leads (next_line sum) line [] (behind_size (min size (2 ^ 48)) sum)
line_goes line size sum h =
    let parts = line_parts line size h in
    let L : List ℕ → Type 0 = λ l. Leads (next_line sum) l [] (behind_size (min size (2 ^ 48)) sum) in
    let M : Position → Type 0 = λ q. Leads (next_line sum) (parts.inner ++ 10 ∷ []) [] q in
    subst L (sym parts.text)
    (subst M
    (ap (λ f. behind_line f (sized Empty 0 parts.inner) sum) parts.form ∙ ap (λ n. behind_size n sum) parts.value)
    (line_whole parts.inner sum parts.none parts.short))

-- ---- sizes

-- the position by the tests that are left
abbrev by_zero : ℕ → ℕ → Position
by_zero size sum = if size == 0 then Fields Begin 0 else Content size (sum + size)

abbrev by_sum : ℕ → ℕ → Position
by_sum size sum = if nat_lt (2 ^ 62) (sum + size) then Refused TooLarge else by_zero size sum

small_size : (size sum : ℕ) → size < 2 ^ 48 → behind_size (min size (2 ^ 48)) sum ≡ by_sum size sum
small_size size sum small =
    let same : min size (2 ^ 48) ≡ size = omega arith in
    ap (λ n. behind_size n sum) same
    ∙ ap (λ v. if v then Refused TooLarge else by_sum size sum) (lt-leb (2 ^ 48) size small)

pub behind_allowed : (size sum : ℕ) → 0 < size → IsAllowed sum size
    → behind_size (min size (2 ^ 48)) sum ≡ Content size (sum + size)
behind_allowed size sum some h =
    small_size size sum h.alone
    ∙ ap (λ v. if v then Refused TooLarge else by_zero size sum) (le-ltb (2 ^ 62) (sum + size) h.together)
    ∙ ap (λ v. if v then Fields Begin 0 else Content size (sum + size)) (ne_eqb size 0 (omega arith))

pub behind_none : (sum : ℕ) → sum ≤ data_limit → behind_size (min 0 (2 ^ 48)) sum ≡ Fields Begin 0
behind_none sum small =
    ap (λ v. if v then Refused TooLarge else Fields Begin 0) (le-ltb (2 ^ 62) (sum + 0) (omega arith))

over_sum : (size sum : ℕ) → size < 2 ^ 48 → 2 ^ 62 < sum + size → behind_size (min size (2 ^ 48)) sum ≡ Refused TooLarge
over_sum size sum small over =
    small_size size sum small
    ∙ ap (λ v. if v then Refused TooLarge else by_zero size sum) (lt-ltb (2 ^ 62) (sum + size) over)

over_size : (size sum : ℕ) → 2 ^ 48 ≤ size → behind_size (min size (2 ^ 48)) sum ≡ Refused TooLarge
over_size size sum large =
    let n = min size (2 ^ 48) in
    let most : 2 ^ 48 ≤ n = omega arith in
    ap (λ v. if v then Refused TooLarge else by_sum n sum) (le-leb (2 ^ 48) n most)

pub behind_refused : (size sum : ℕ) → (IsAllowed sum size → ⊥) → behind_size (min size (2 ^ 48)) sum ≡ Refused TooLarge
behind_refused size sum not_allowed =
    ⊎_elim
    (λ small. ⊎_elim
    (λ over. over_sum size sum small over)
    (λ within. absurd (not_allowed (record { alone = small; together = within })))
    (cases_lt (2 ^ 62) (sum + size)))
    (λ large. over_size size sum large)
    (cases_lt size (2 ^ 48))

-- ---- chunks

closing_goes : (sum : ℕ) → Leads (Content 0 sum) crlf [] (next_line sum)
closing_goes sum = record { place = refl; out = refl; inside = (refl, (refl, tt)) }

pub line_and_content : (sum : ℕ) (chunk : Chunk) → IsChunk sum chunk
    → Leads (next_line sum) (chunk.line ++ chunk.content) chunk.content (Content 0 (sum + length chunk.content))
line_and_content sum chunk h =
    let size = length chunk.content in
    let L : Position → Type 0 = λ q. Leads (next_line sum) chunk.line [] q in
    let D : ℕ → Type 0 = λ n. Leads (Content size (sum + size)) chunk.content chunk.content (Content n (sum + size)) in
    let done : size - size ≡ 0 = omega arith in
    leads_then (next_line sum) (Content size (sum + size)) (Content 0 (sum + size)) chunk.line chunk.content [] chunk.content
    (subst L (behind_allowed size sum h.some h.is_allowed) (line_goes chunk.line size sum h.is_line))
    (subst D done (leads_data chunk.content size (sum + size) (omega arith)))

pub chunk_goes : (sum : ℕ) (chunk : Chunk) → IsChunk sum chunk
    → Leads (next_line sum) (text_of chunk) chunk.content (next_line (sum + length chunk.content))
chunk_goes sum chunk h =
    let after_it = sum + length chunk.content in
    let L : List ℕ → List ℕ → Type 0 = λ t d. Leads (next_line sum) t d (next_line after_it) in
    let M : List ℕ → Type 0 = λ t. L t chunk.content in
    let N : List ℕ → Type 0 = λ d. L ((chunk.line ++ chunk.content) ++ crlf) d in
    subst M (append_assoc chunk.line chunk.content crlf)
    (subst N (append-nil chunk.content)
    (leads_then (next_line sum) (Content 0 after_it) (next_line after_it) (chunk.line ++ chunk.content) crlf chunk.content []
    (line_and_content sum chunk h) (closing_goes after_it)))

pub chunks_go : (sum : ℕ) (chunks : List Chunk) → AreChunks sum chunks
    → Leads (next_line sum) (texts_of chunks) (contents_of chunks) (next_line (sum + length (contents_of chunks)))
chunks_go sum [] h =
    let same : sum ≡ sum + 0 = omega arith in
    let L : ℕ → Type 0 = λ n. Leads (next_line sum) [] [] (next_line n) in
    subst L same (leads_none (next_line sum))
chunks_go sum (chunk ∷ chunks) h =
    let one = sum + length chunk.content in
    let all = length-append chunk.content (contents_of chunks) in
    let same : one + length (contents_of chunks) ≡ sum + length (chunk.content ++ contents_of chunks) = omega arith in
    let L : ℕ → Type 0 = λ n. Leads (next_line sum) (texts_of (chunk ∷ chunks)) (contents_of (chunk ∷ chunks)) (next_line n) in
    subst L same
    (leads_then (next_line sum) (next_line one) (next_line (one + length (contents_of chunks))) (text_of chunk) (texts_of chunks)
    chunk.content (contents_of chunks) (chunk_goes sum chunk h.0) (chunks_go one chunks h.1))

-- the sizes add up to at most the limit
pub sum_within : (sum : ℕ) (chunks : List Chunk) → sum ≤ data_limit → AreChunks sum chunks → sum + length (contents_of chunks) ≤ data_limit
sum_within sum [] small h = omega arith
sum_within sum (chunk ∷ chunks) small h =
    let all = length-append chunk.content (contents_of chunks) in
    let rest = sum_within (sum + length chunk.content) chunks h.0.is_allowed.together h.1 in
    omega arith

-- ---- trailer sections

field_step : (f : FieldForm) (read b : ℕ) → (b ≡ 10 → ⊥) → read < 65535
    → after_byte (Fields f read) b ≡ Fields (field_form f b) (read + 1)
field_step f read b other less =
    let next = Fields (field_form f b) (read + 1) in
    ap (λ v. if v then behind_field f read else (if nat_le 65535 read then Refused Trailer else next)) (ne_eqb b 10 other)
    ∙ ap (λ v. if v then Refused Trailer else next) (lt-leb 65535 read less)

pub field_run : (l : List ℕ) (f : FieldForm) (read : ℕ) → NoFeed l → read + length l ≤ 65535
    → Leads (Fields f read) l [] (Fields (run_fields f l) (read + length l))
field_run [] f read none short =
    let same : read ≡ read + 0 = omega arith in
    record { place = ap (λ n. Fields f n) same; out = refl; inside = tt }
field_run (b ∷ l) f read none short =
    let same : read + 1 + length l ≡ read + suc (length l) = omega arith in
    let L : ℕ → Type 0 = λ n. Leads (Fields f read) (b ∷ l) [] (Fields (run_fields f (b ∷ l)) n) in
    subst L same
    (leads_cons (Fields f read) (Fields (field_form f b) (read + 1)) (Fields (run_fields f (b ∷ l)) (read + 1 + length l)) b l [] [] refl
    (field_step f read b none.0 (omega arith)) refl
    (field_run l (field_form f b) (read + 1) none.1 (omega arith)))

pub field_whole : (inner : List ℕ) (read : ℕ) → NoFeed inner → read + length inner ≤ 65535
    → Leads (Fields Begin read) (inner ++ 10 ∷ []) [] (behind_field (run_fields Begin inner) (read + length inner))
field_whole inner read none short =
    let middle = Fields (run_fields Begin inner) (read + length inner) in
    leads_then (Fields Begin read) middle (behind_field (run_fields Begin inner) (read + length inner)) inner (10 ∷ []) [] []
    (field_run inner Begin read none short)
    (leads_one middle (behind_field (run_fields Begin inner) (read + length inner)) 10 [] refl refl refl)

-- a field line but for its LF
pub record FieldParts (line : List ℕ) : Type 0 where
  pub inner : List ℕ
  pub text : line ≡ inner ++ 10 ∷ []
  pub none : NoFeed inner
  pub form : run_fields Begin inner ≡ Close

regroup_field : (name value : List ℕ) → name ++ 58 ∷ (value ++ crlf) ≡ (name ++ 58 ∷ (value ++ 13 ∷ [])) ++ 10 ∷ []
regroup_field name value = simp append_assoc

pub field_parts : (line : List ℕ) → IsFieldLine line → FieldParts line
field_parts line h = record {
  inner = h.name ++ 58 ∷ (h.value ++ 13 ∷ []);
  text = h.text ∙ regroup_field h.name h.value;
  none = no_feed-append h.name (58 ∷ (h.value ++ 13 ∷ [])) (no_feed_from is_token_byte h.name token_feed h.is_token)
      ((λ e. cc), no_feed-append h.value (13 ∷ []) (no_feed_from is_value_byte h.value refl h.is_value) ((λ e. cc), tt));
  form = run_field h.name h.value h.some h.is_token h.is_value;
}

pub field_line : (inner : List ℕ) → NoFeed inner → run_fields Begin inner ≡ Close → IsFieldLine (inner ++ 10 ∷ [])
field_line inner none form =
    let found = inner_field inner none form in
    let parts = found.parts in
    record {
      name = parts.name;
      value = parts.value;
      text = ap (λ l. l ++ 10 ∷ []) parts.text ∙ sym (regroup_field parts.name parts.value);
      some = found.some;
      is_token = parts.is_token;
      is_value = parts.is_value;
    }

pub behind_close : (inner : List ℕ) (read : ℕ) → run_fields Begin inner ≡ Close → read + length inner < 65535
    → behind_field (run_fields Begin inner) (read + length inner) ≡ Fields Begin (read + length (inner ++ 10 ∷ []))
behind_close inner read form less =
    let long = length-append inner (10 ∷ []) in
    let same : read + length inner + 1 ≡ read + length (inner ++ 10 ∷ []) = omega arith in
    ap (λ f. behind_field f (read + length inner)) form
    ∙ ap (λ v. if v then Refused Trailer else Fields Begin (read + length inner + 1)) (lt-leb 65535 (read + length inner) less)
    ∙ ap (λ n. Fields Begin n) same

pub field_goes : (line : List ℕ) (read : ℕ) → IsFieldLine line → read + length line ≤ 65535
    → Leads (Fields Begin read) line [] (Fields Begin (read + length line))
field_goes line read h short =
    let parts = field_parts line h in
    let long = length-append parts.inner (10 ∷ []) in
    let same = ap length parts.text in
    let L : List ℕ → Type 0 = λ l. Leads (Fields Begin read) l [] (Fields Begin (read + length l)) in
    let M : Position → Type 0 = λ q. Leads (Fields Begin read) (parts.inner ++ 10 ∷ []) [] q in
    subst L (sym parts.text)
    (subst M (behind_close parts.inner read parts.form (omega arith)) (field_whole parts.inner read parts.none (omega arith)))

pub fields_go : (lines : List (List ℕ)) (read : ℕ) → AreFieldLines lines → read + length (concat lines) ≤ 65535
    → Leads (Fields Begin read) (concat lines) [] (Fields Begin (read + length (concat lines)))
fields_go [] read h short =
    let same : read ≡ read + 0 = omega arith in
    let L : ℕ → Type 0 = λ n. Leads (Fields Begin read) [] [] (Fields Begin n) in
    subst L same (leads_none (Fields Begin read))
fields_go (line ∷ lines) read h short =
    let long = length-append line (concat lines) in
    let same : read + length line + length (concat lines) ≡ read + length (line ++ concat lines) = omega arith in
    let L : ℕ → Type 0 = λ n. Leads (Fields Begin read) (line ++ concat lines) [] (Fields Begin n) in
    subst L same
    (leads_then (Fields Begin read) (Fields Begin (read + length line)) (Fields Begin (read + length line + length (concat lines)))
    line (concat lines) [] []
    (field_goes line read h.0 (omega arith)) (fields_go lines (read + length line) h.1 (omega arith)))

pub empty_goes : (read : ℕ) → read + 2 ≤ 65536 → Leads (Fields Begin read) crlf [] Ended
empty_goes read short =
    let L : Position → Type 0 = λ q. Leads (Fields Begin read) crlf [] q in
    subst L (ap (λ f. behind_field f (read + 1)) run_empty) (field_whole (13 ∷ []) read ((λ e. cc), tt) (omega arith))

pub section_goes : (section : List ℕ) → IsSection section → Leads (Fields Begin 0) section [] Ended
section_goes section h =
    let long = length-append (concat h.lines) crlf in
    let same = ap length h.text in
    let most = h.short in
    let L : List ℕ → Type 0 = λ s. Leads (Fields Begin 0) s [] Ended in
    subst L (sym h.text)
    (leads_then (Fields Begin 0) (Fields Begin (0 + length (concat h.lines))) Ended (concat h.lines) crlf [] []
    (fields_go h.lines 0 h.are_fields (omega arith)) (empty_goes (0 + length (concat h.lines)) (omega arith)))

-- the last chunk's line
pub last_line_goes : (line : List ℕ) (sum : ℕ) → sum ≤ data_limit → IsChunkLine line 0 → Leads (next_line sum) line [] (Fields Begin 0)
last_line_goes line sum small h =
    let L : Position → Type 0 = λ q. Leads (next_line sum) line [] q in
    subst L (behind_none sum small) (line_goes line 0 sum h)

pub last_goes : (last : List ℕ) (sum : ℕ) → sum ≤ data_limit → IsLast last → Leads (next_line sum) last [] Ended
last_goes last sum small h =
    let L : List ℕ → Type 0 = λ l. Leads (next_line sum) l [] Ended in
    subst L (sym h.text)
    (leads_then (next_line sum) (Fields Begin 0) Ended h.line h.section [] []
    (last_line_goes h.line sum small h.is_line) (section_goes h.section h.is_section))
