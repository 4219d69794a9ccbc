-- The bytes that break the grammar lead to a refused position, with their last byte.
use Rattle.std.proofs.Common.{◌≡◌, ℕ, zero, suc, ◌+◌, ◌≤◌, List, [], ◌∷◌, ◌++◌, length, refl, sym, ap, ◌∙◌, subst, arith, true, false, ⊎_elim}
use Rattle.std.proofs.lemmas.List.{append-nil, append_assoc, length-append, nil_from_length}
use Rattle.std.proofs.lemmas.Bool.{ne_eqb, le-leb, eqb-true, cases_lt, and_parts, false_from_ne_true}
use Rattle.std.specs.Prelude.{◌==◌, nat_le, ◌&&◌, if◌then◌else◌}
use Rattle.std.specs.List.{concat}
use Rattle.gw_chunk.specs.declared.error.ChunkError.{ChunkError}
use Rattle.gw_chunk.specs.declared.error.ChunkError.TheVariants.{BadLine, LineTooLong, TooLarge, DataEnd, Trailer}
use Rattle.gw_chunk.specs.declared.lines.LineForm.{LineForm}
use Rattle.gw_chunk.specs.declared.lines.LineForm.TheVariants.{Empty, Digits, Blanks, Extension, Return, Broken}
use Rattle.gw_chunk.specs.declared.lines.FieldForm.{FieldForm}
use Rattle.gw_chunk.specs.declared.lines.FieldForm.TheVariants.{Begin, Name, Value, Close, Last, Faulty}
use Rattle.gw_chunk.specs.declared.position.Position.{Position}
use Rattle.gw_chunk.specs.declared.position.Position.TheVariants.{Line, Content, Closing, Fields, Refused}
use Rattle.gw_chunk.specs.Bytes.{crlf}
use Rattle.gw_chunk.specs.Chunked.{IsChunkLine, IsFieldLine, AreFieldLines, NoFeed, IsLine, BreaksSection, BreaksDataEnd, BreaksLast, Breaks, data_limit, section_limit}
use Rattle.gw_chunk.specs.Lines.{line_form, line_size, field_form}
use Rattle.gw_chunk.specs.Position.{next_line, behind_size, behind_line, behind_field, after_byte, after, is_undecided, Leads, Fails}
use Rattle.gw_chunk.proofs.Walks.{after-append, leads_then}
use Rattle.gw_chunk.proofs.LineForms.{run, sized}
use Rattle.gw_chunk.proofs.FieldForms.{run as run_fields, inner_empty}
use Rattle.gw_chunk.proofs.Feeds.{no_feed_front, no_feed_back}
use Rattle.gw_chunk.proofs.Forward.{line_run, line_parts, chunk_line, behind_refused, line_and_content, last_line_goes, field_run, field_parts, field_line, field_goes, fields_go}

-- the last of the bytes leads from an undecided position to the fault
pub record Strikes (p : Position) (bytes : List ℕ) (error : ChunkError) : Type 0 where
  pub front : List ℕ
  pub last : ℕ
  pub data_before : List ℕ
  pub place : Position
  pub text : bytes ≡ front ++ last ∷ []
  pub leads : Leads p front data_before place
  pub going : is_undecided place ≡ true
  pub step : after_byte place last ≡ Refused error

pub strikes_after : (p q : Position) (a b d : List ℕ) (error : ChunkError) → Leads p a d q → Strikes q b error → Strikes p (a ++ b) error
strikes_after p q a b d error led strikes = record {
  front = a ++ strikes.front;
  last = strikes.last;
  data_before = d ++ strikes.data_before;
  place = strikes.place;
  text = ap (λ x. a ++ x) strikes.text ∙ sym (append_assoc a strikes.front (strikes.last ∷ []));
  leads = leads_then p q strikes.place a strikes.front d strikes.data_before led strikes.leads;
  going = strikes.going;
  step = strikes.step;
}

pub strikes_fail : (p : Position) (bytes : List ℕ) (error : ChunkError) → Strikes p bytes error → Fails p bytes error
strikes_fail p bytes error h =
    ap (after p) h.text ∙ after-append p h.front (h.last ∷ []) ∙ ap (λ q. after_byte q h.last) h.leads.place ∙ h.step

-- a list without its last
pub record Ending (l : List ℕ) (n : ℕ) : Type 0 where
  pub front : List ℕ
  pub last : ℕ
  pub text : l ≡ front ++ last ∷ []
  pub long : length front ≡ n

pub ending : (l : List ℕ) (n : ℕ) → length l ≡ suc n → Ending l n
ending [] n h = absurd (omega arith)
ending (b ∷ []) n h = record { front = []; last = b; text = refl; long = omega arith }
ending (b ∷ c ∷ l) zero h = absurd (omega arith)
ending (b ∷ c ∷ l) (suc n) h =
    let rest = ending (c ∷ l) n (omega arith) in
    let long = rest.long in
    record {
      front = b ∷ rest.front;
      last = rest.last;
      text = ap (λ r. b ∷ r) rest.text;
      long = omega arith;
    }

-- ---- chunk lines

not_return : (f : LineForm) (size sum : ℕ) → (f ≡ Return → ⊥) → behind_line f size sum ≡ Refused BadLine
not_return Empty size sum h = refl
not_return Digits size sum h = refl
not_return Blanks size sum h = refl
not_return Extension size sum h = refl
not_return Return size sum h = absurd (h refl)
not_return Broken size sum h = refl

bad_line : (sum : ℕ) (bytes : List ℕ) → Breaks sum bytes BadLine → Strikes (next_line sum) bytes BadLine
bad_line sum bytes h =
    let line = h.0 in
    let inner = line.inner in
    let most = h.1 in
    let long = length-append inner (10 ∷ []) in
    let same = ap length line.text in
    let short : length inner ≤ 4095 = omega arith in
    let C : List ℕ → Type 0 = λ l. (size : ℕ) → IsChunkLine l size → ⊥ in
    let none = subst C line.text h.2 in
    record {
      front = inner;
      last = 10;
      data_before = [];
      place = Line (run Empty inner) (0 + length inner) (sized Empty 0 inner) sum;
      text = line.text;
      leads = line_run inner Empty 0 0 sum line.no_feed (omega arith);
      going = refl;
      step = not_return (run Empty inner) (sized Empty 0 inner) sum
          (λ form. (let found = chunk_line inner line.no_feed short form in none found.0 found.1));
    }

full_line : (f : LineForm) (read size sum b : ℕ) → (b ≡ 10 → ⊥) → read ≡ 4095
    → after_byte (Line f read size sum) b ≡ Refused LineTooLong
full_line f read size sum b other full =
    let next = Line (line_form f b) (read + 1) (line_size f size b) sum in
    ap (λ v. if v then behind_line f size sum else (if nat_le 4095 read then Refused LineTooLong else next)) (ne_eqb b 10 other)
    ∙ ap (λ v. if v then Refused LineTooLong else next) (le-leb 4095 read (omega arith))

too_long : (sum : ℕ) (bytes : List ℕ) → Breaks sum bytes LineTooLong → Strikes (next_line sum) bytes LineTooLong
too_long sum bytes h =
    let many = h.1 in
    let cut = ending bytes 4095 (omega arith) in
    let none = subst NoFeed cut.text h.0 in
    let long = cut.long in
    let read : 0 + length cut.front ≡ 4095 = omega arith in
    record {
      front = cut.front;
      last = cut.last;
      data_before = [];
      place = Line (run Empty cut.front) (0 + length cut.front) (sized Empty 0 cut.front) sum;
      text = cut.text;
      leads = line_run cut.front Empty 0 0 sum (no_feed_front cut.front (cut.last ∷ []) none) (omega arith);
      going = refl;
      step = full_line (run Empty cut.front) (0 + length cut.front) (sized Empty 0 cut.front) sum cut.last
          (no_feed_back cut.front (cut.last ∷ []) none).0 read;
    }

too_large : (sum : ℕ) (bytes : List ℕ) → Breaks sum bytes TooLarge → Strikes (next_line sum) bytes TooLarge
too_large sum bytes h =
    let parts = line_parts bytes h.0 h.1 in
    let inner = parts.inner in
    let short = parts.short in
    record {
      front = inner;
      last = 10;
      data_before = [];
      place = Line (run Empty inner) (0 + length inner) (sized Empty 0 inner) sum;
      text = parts.text;
      leads = line_run inner Empty 0 0 sum parts.none (omega arith);
      going = refl;
      step = ap (λ f. behind_line f (sized Empty 0 inner) sum) parts.form ∙ ap (λ n. behind_size n sum) parts.value
          ∙ behind_refused h.0 sum h.2;
    }

-- ---- the end of data

not_both : (x y : ℕ) → (x ∷ y ∷ [] ≡ crlf → ⊥) → (x == 13 && y == 10) ≡ false
not_both x y h =
    false_from_ne_true (x == 13 && y == 10)
    (λ both. (let parts = and_parts (x == 13) (y == 10) both in
    let first = eqb-true x 13 parts.0 in
    let second = eqb-true y 10 parts.1 in
    h (cc)))

pub closing_strikes : (sum x y : ℕ) → (x ∷ y ∷ [] ≡ crlf → ⊥) → Strikes (Content 0 sum) (x ∷ y ∷ []) DataEnd
closing_strikes sum x y h = record {
  front = x ∷ [];
  last = y;
  data_before = [];
  place = Closing (x == 13) sum;
  text = refl;
  leads = record { place = refl; out = refl; inside = (refl, tt) };
  going = refl;
  step = ap (λ v. if v then next_line sum else Refused DataEnd) (not_both x y h);
}

two_strike : (sum : ℕ) (two : List ℕ) → length two ≡ 2 → (two ≡ crlf → ⊥) → Strikes (Content 0 sum) two DataEnd
two_strike sum [] long h = absurd (omega arith)
two_strike sum (x ∷ []) long h = absurd (omega arith)
two_strike sum (x ∷ y ∷ []) long h = closing_strikes sum x y h
two_strike sum (x ∷ y ∷ z ∷ rest) long h = absurd (omega arith)

data_end : (sum : ℕ) (bytes : List ℕ) → BreaksDataEnd sum bytes → Strikes (next_line sum) bytes DataEnd
data_end sum bytes h =
    let chunk = h.chunk in
    let S : List ℕ → Type 0 = λ l. Strikes (next_line sum) l DataEnd in
    subst S (append_assoc chunk.line chunk.content h.two ∙ sym h.text)
    (strikes_after (next_line sum) (Content 0 (sum + length chunk.content)) (chunk.line ++ chunk.content) h.two chunk.content DataEnd
    (line_and_content sum chunk h.is_chunk) (two_strike (sum + length chunk.content) h.two h.are_two h.not_crlf))

-- ---- trailer sections

not_close : (f : FieldForm) (read : ℕ) → (f ≡ Close → ⊥) → (f ≡ Last → ⊥) → behind_field f read ≡ Refused Trailer
not_close Begin read h k = refl
not_close Name read h k = refl
not_close Value read h k = refl
not_close Close read h k = absurd (h refl)
not_close Last read h k = absurd (k refl)
not_close Faulty read h k = refl

bad_field : (last : List ℕ) (read : ℕ) → IsLine last → (last ≡ crlf → ⊥) → (IsFieldLine last → ⊥)
    → read + length last ≤ section_limit → Strikes (Fields Begin read) last Trailer
bad_field last read line not_empty not_field short =
    let inner = line.inner in
    let long = length-append inner (10 ∷ []) in
    let same = ap length line.text in
    record {
      front = inner;
      last = 10;
      data_before = [];
      place = Fields (run_fields Begin inner) (read + length inner);
      text = line.text;
      leads = field_run inner Begin read line.no_feed (omega arith);
      going = refl;
      step = not_close (run_fields Begin inner) (read + length inner)
          (λ form. not_field (subst IsFieldLine (sym line.text) (field_line inner line.no_feed form)))
          (λ form. not_empty (line.text ∙ ap (λ l. l ++ 10 ∷ []) (inner_empty inner form)));
    }

full_section : (f : FieldForm) (read b : ℕ) → (b ≡ 10 → ⊥) → read ≡ 65535 → after_byte (Fields f read) b ≡ Refused Trailer
full_section f read b other full =
    let next = Fields (field_form f b) (read + 1) in
    ap (λ v. if v then behind_field f read else (if nat_le 65535 read then Refused Trailer else next)) (ne_eqb b 10 other)
    ∙ ap (λ v. if v then Refused Trailer else next) (le-leb 65535 read (omega arith))

unfinished : (last : List ℕ) (read n : ℕ) → NoFeed last → read + length last ≡ section_limit → length last ≡ suc n
    → Strikes (Fields Begin read) last Trailer
unfinished last read n none many some =
    let cut = ending last n some in
    let parts = subst NoFeed cut.text none in
    let long = cut.long in
    let full : read + length cut.front ≡ 65535 = omega arith in
    record {
      front = cut.front;
      last = cut.last;
      data_before = [];
      place = Fields (run_fields Begin cut.front) (read + length cut.front);
      text = cut.text;
      leads = field_run cut.front Begin read (no_feed_front cut.front (cut.last ∷ []) parts) (omega arith);
      going = refl;
      step = full_section (run_fields Begin cut.front) (read + length cut.front) cut.last
          (no_feed_back cut.front (cut.last ∷ []) parts).0 full;
    }

-- a good line that ends at the limit
full_field : (line : List ℕ) (read : ℕ) → IsFieldLine line → read + length line ≡ section_limit
    → Strikes (Fields Begin read) line Trailer
full_field line read h many =
    let parts = field_parts line h in
    let inner = parts.inner in
    let long = length-append inner (10 ∷ []) in
    let same = ap length parts.text in
    let full : 65535 ≤ read + length inner = omega arith in
    record {
      front = inner;
      last = 10;
      data_before = [];
      place = Fields (run_fields Begin inner) (read + length inner);
      text = parts.text;
      leads = field_run inner Begin read parts.none (omega arith);
      going = refl;
      step = ap (λ f. behind_field f (read + length inner)) parts.form
          ∙ ap (λ v. if v then Refused Trailer else Fields Begin (read + length inner + 1)) (le-leb 65535 (read + length inner) full);
    }

endless : (lines : List (List ℕ)) (last : List ℕ) (read : ℕ) → AreFieldLines lines → NoFeed last
    → read + length (concat lines ++ last) ≡ section_limit → read ≤ 65535
    → Strikes (Fields Begin read) (concat lines ++ last) Trailer
endless [] [] read h none many less = absurd (omega arith)
endless [] (b ∷ last) read h none many less = unfinished (b ∷ last) read (length last) none many (omega arith)
endless (line ∷ lines) last read h none many less =
    let rest = concat lines ++ last in
    let group : (line ++ concat lines) ++ last ≡ line ++ rest = append_assoc line (concat lines) last in
    let long = ap length group ∙ length-append line rest in
    let S : List ℕ → Type 0 = λ l. Strikes (Fields Begin read) l Trailer in
    subst S (sym group)
    (⊎_elim
    (λ short. strikes_after (Fields Begin read) (Fields Begin (read + length line)) line rest [] Trailer
    (field_goes line read h.0 (omega arith))
    (endless lines last (read + length line) h.1 none (omega arith) (omega arith)))
    (λ full. (let none_left : length rest ≡ 0 = over line rest read h.0 long many full in
    let nothing = nil_from_length rest none_left in
    subst S (sym (append-nil line) ∙ ap (λ r. line ++ r) (sym nothing)) (full_field line read h.0 (omega arith))))
    (cases_lt (read + length line) section_limit))
  where
    over : (line rest : List ℕ) (read : ℕ) → IsFieldLine line → length ((line ++ concat lines) ++ last) ≡ length line + length rest
        → read + length ((line ++ concat lines) ++ last) ≡ section_limit
        → section_limit ≤ read + length line → length rest ≡ 0
    over line rest read h long many full = omega arith

section_strikes : (bytes : List ℕ) → BreaksSection bytes → Strikes (Fields Begin 0) bytes Trailer
section_strikes bytes h =
    let S : List ℕ → Type 0 = λ l. Strikes (Fields Begin 0) l Trailer in
    let long = length-append (concat h.lines) h.last in
    let same = ap length h.text in
    subst S (sym h.text)
    (⊎_elim
    (λ bad. (let most = bad.3 in
    let line = bad.0 in
    let one = ap length line.text ∙ length-append line.inner (10 ∷ []) in
    strikes_after (Fields Begin 0) (Fields Begin (0 + length (concat h.lines))) (concat h.lines) h.last [] Trailer
    (fields_go h.lines 0 h.are_fields (omega arith))
    (bad_field h.last (0 + length (concat h.lines)) line bad.1 bad.2 (omega arith))))
    (λ full. (let many = full.1 in endless h.lines h.last 0 h.are_fields full.0 (omega arith) (omega arith)))
    h.cause)

last_strikes : (sum : ℕ) (bytes : List ℕ) → sum ≤ data_limit → BreaksLast bytes → Strikes (next_line sum) bytes Trailer
last_strikes sum bytes small h =
    let S : List ℕ → Type 0 = λ l. Strikes (next_line sum) l Trailer in
    subst S (sym h.text)
    (strikes_after (next_line sum) (Fields Begin 0) h.line h.section [] Trailer
    (last_line_goes h.line sum small h.is_line) (section_strikes h.section h.breaks))

pub strikes : (sum : ℕ) (bytes : List ℕ) (error : ChunkError) → sum ≤ data_limit → Breaks sum bytes error → Strikes (next_line sum) bytes error
strikes sum bytes BadLine small h = bad_line sum bytes h
strikes sum bytes LineTooLong small h = too_long sum bytes h
strikes sum bytes TooLarge small h = too_large sum bytes h
strikes sum bytes DataEnd small h = data_end sum bytes h
strikes sum bytes Trailer small h = last_strikes sum bytes small h
