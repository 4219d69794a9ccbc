-- The grammar and the positions say the same, and what follows from that.
use Rattle.std.proofs.Common.{◌≡◌, ℕ, ◌+◌, List, [], ◌∷◌, ◌++◌, length, refl, sym, ap, ◌∙◌, subst, arith, true, false, inl, inr, ⊎_elim}
use Rattle.std.proofs.lemmas.List.{append-nil, append_assoc, length-append}
use Rattle.std.proofs.lemmas.Bool.{cases_Bool}
use Rattle.std.specs.Prelude.{◌⊎◌}
use Rattle.gw_chunk.specs.declared.error.ChunkError.{ChunkError}
use Rattle.gw_chunk.specs.declared.position.Position.{Position}
use Rattle.gw_chunk.specs.declared.position.Position.TheVariants.{Line, Content, Closing, Fields, Ended, Refused}
use Rattle.gw_chunk.specs.Chunked.{Chunk, AreChunks, texts_of, contents_of, IsLast, Breaks, IsChunked, BreaksAtEnd, BadChunk}
use Rattle.gw_chunk.specs.Position.{first, next_line, after_byte, given_byte, after, given, is_ended, is_undecided, IsInside, Has, Fails}
use Rattle.gw_chunk.proofs.Walks.{leads_cons, after-append, inside_back, leads_then, after-ended, fails_on}
use Rattle.gw_chunk.proofs.Advancing.{goes_on}
use Rattle.gw_chunk.proofs.Forward.{chunks_go, sum_within, last_goes}
use Rattle.gw_chunk.proofs.Faults.{Strikes, strikes, strikes_after, strikes_fail}
use Rattle.gw_chunk.proofs.Parsing.{Outcome, whole, broken, undecided, Going, Parsed, parsed}

-- chunks and the end
pub texts_end : (chunks : List Chunk) (last : List ℕ) → AreChunks 0 chunks → IsLast last → Has first (texts_of chunks ++ last) (contents_of chunks)
texts_end chunks last good is_last =
    let sum = 0 + length (contents_of chunks) in
    let L : List ℕ → Type 0 = λ d. Has first (texts_of chunks ++ last) d in
    subst L (append-nil (contents_of chunks))
    (leads_then first (next_line sum) Ended (texts_of chunks) last (contents_of chunks) []
    (chunks_go 0 chunks good) (last_goes last sum (sum_within 0 chunks (omega arith) good) is_last))

pub text_has : (bytes d : List ℕ) → IsChunked bytes d → Has first bytes d
text_has bytes d h =
    let B : List ℕ → Type 0 = λ l. Has first l d in
    let D : List ℕ → Type 0 = λ e. Has first (texts_of h.chunks ++ h.last) e in
    subst B (sym h.text) (subst D (sym h.is_data) (texts_end h.chunks h.last h.are_chunks h.is_last))

-- two texts from one position
pub ended_once : (p : Position) (a b d e : List ℕ) → Has p a d → Has p (a ++ b) e → (b ≡ []) × (d ≡ e)
ended_once p a [] d e h k = (refl, sym h.out ∙ ap (given p) (sym (append-nil a)) ∙ k.out)
ended_once p a (x ∷ b) d e h k =
    let I : Position → Type 0 = λ q. IsInside q (x ∷ b) in
    let inside = subst I h.place (inside_back p a (x ∷ b) k.inside) in
    absurd (cc inside.0)

-- ---- faults

texts_break : (chunks : List Chunk) (fault : List ℕ) (error : ChunkError) → AreChunks 0 chunks
    → Breaks (length (contents_of chunks)) fault error → Strikes first (texts_of chunks ++ fault) error
texts_break chunks fault error good breaks =
    let sum = 0 + length (contents_of chunks) in
    let same : length (contents_of chunks) ≡ sum = omega arith in
    let B : ℕ → Type 0 = λ n. Breaks n fault error in
    strikes_after first (next_line sum) (texts_of chunks) fault (contents_of chunks) error (chunks_go 0 chunks good)
    (strikes sum fault error (sum_within 0 chunks (omega arith) good) (subst B same breaks))

pub fault_strikes : (bytes : List ℕ) (error : ChunkError) → BreaksAtEnd bytes error → Strikes first bytes error
fault_strikes bytes error h =
    let S : List ℕ → Type 0 = λ l. Strikes first l error in
    subst S (sym h.text) (texts_break h.chunks h.fault error h.are_chunks h.breaks)

pub bad_fails : (bytes : List ℕ) (error : ChunkError) → BadChunk bytes error → Fails first bytes error
bad_fails bytes error h =
    ap (after first) h.text
    ∙ fails_on first h.front h.rest error (strikes_fail first h.front error (fault_strikes h.front error h.breaks))

-- ---- and back

pub regroup : (a b c : List ℕ) (bytes rest : List ℕ) → bytes ≡ a ++ rest → rest ≡ b ++ c → bytes ≡ (a ++ b) ++ c
regroup a b c bytes rest h k = h ∙ ap (λ r. a ++ r) k ∙ sym (append_assoc a b c)

pub parsed_bad : (bytes : List ℕ) (found : Parsed 0 bytes) (fault rest : List ℕ) (error : ChunkError) → found.rest ≡ fault ++ rest
    → Breaks found.total fault error → BadChunk bytes error
parsed_bad bytes found fault rest error text breaks =
    let sums = found.is_total in
    let same : found.total ≡ length (contents_of found.chunks) = omega arith in
    let B : ℕ → Type 0 = λ n. Breaks n fault error in
    record {
      front = texts_of found.chunks ++ fault;
      rest = rest;
      text = regroup (texts_of found.chunks) fault rest bytes found.rest found.text text;
      breaks = record {
        chunks = found.chunks;
        fault = fault;
        text = refl;
        are_chunks = found.are_chunks;
        breaks = subst B same breaks;
      };
    }

-- nothing is decided behind the chunks and what follows them
going_behind : (chunks : List Chunk) (bytes rest : List ℕ) (total : ℕ) → AreChunks 0 chunks → bytes ≡ texts_of chunks ++ rest
    → total ≡ 0 + length (contents_of chunks) → Going (next_line total) rest → is_undecided (after first bytes) ≡ true
going_behind chunks bytes rest total good text is going =
    let led = chunks_go 0 chunks good in
    ap (λ l. is_undecided (after first l)) text ∙ ap is_undecided (after-append first (texts_of chunks) rest)
    ∙ ap (λ q. is_undecided (after q rest)) led.place ∙ ap (λ n. is_undecided (after (next_line n) rest)) (sym is) ∙ going

has_by : (bytes d : List ℕ) (found : Parsed 0 bytes) → Outcome found.total found.rest → Has first bytes d → IsChunked bytes d
has_by bytes d found (whole last rest text is_last) h =
    let all = regroup (texts_of found.chunks) last rest bytes found.rest found.text text in
    let H : List ℕ → Type 0 = λ l. Has first l d in
    let once = ended_once first (texts_of found.chunks ++ last) rest (contents_of found.chunks) d
    (texts_end found.chunks last found.are_chunks is_last) (subst H all h) in
    record {
      chunks = found.chunks;
      last = last;
      text = all ∙ ap (λ r. (texts_of found.chunks ++ last) ++ r) once.0 ∙ append-nil (texts_of found.chunks ++ last);
      are_chunks = found.are_chunks;
      is_last = is_last;
      is_data = sym once.1;
    }
has_by bytes d found (broken fault rest error text breaks) h =
    let bad = parsed_bad bytes found fault rest error text breaks in
    let fails = bad_fails bytes error bad in
    let place = h.place in
    absurd (cc)
has_by bytes d found (undecided content begins out going) h =
    let still = going_behind found.chunks bytes found.rest found.total found.are_chunks found.text found.is_total going in
    let ended = ap is_undecided h.place in
    absurd (cc)

pub has_text : (bytes d : List ℕ) → Has first bytes d → IsChunked bytes d
has_text bytes d h =
    let found = parsed (length bytes) 0 bytes (omega arith) (omega arith) in
    has_by bytes d found found.outcome h

fails_by : (bytes : List ℕ) (error : ChunkError) (found : Parsed 0 bytes) → Outcome found.total found.rest
    → Fails first bytes error → BadChunk bytes error
fails_by bytes error found (whole last rest text is_last) h =
    let all = regroup (texts_of found.chunks) last rest bytes found.rest found.text text in
    let front = texts_of found.chunks ++ last in
    let led = texts_end found.chunks last found.are_chunks is_last in
    let ended : after first bytes ≡ Ended =
    ap (after first) all ∙ after-append first front rest ∙ ap (λ q. after q rest) led.place ∙ after-ended rest in
    absurd (cc)
fails_by bytes error found (broken fault rest other text breaks) h =
    let bad = parsed_bad bytes found fault rest other text breaks in
    let fails = bad_fails bytes other bad in
    let same : other ≡ error = cc in
    let B : ChunkError → Type 0 = λ e. BadChunk bytes e in
    subst B same bad
fails_by bytes error found (undecided content begins out going) h =
    let still = going_behind found.chunks bytes found.rest found.total found.are_chunks found.text found.is_total going in
    let refused = ap is_undecided h in
    absurd (cc)

pub fails_bad : (bytes : List ℕ) (error : ChunkError) → Fails first bytes error → BadChunk bytes error
fails_bad bytes error h =
    let found = parsed (length bytes) 0 bytes (omega arith) (omega arith) in
    fails_by bytes error found found.outcome h

-- ---- what follows

pub no_text_begins_another : (text more d e : List ℕ) → IsChunked text d → IsChunked (text ++ more) e → (more ≡ []) × (d ≡ e)
no_text_begins_another text more d e h k = ended_once first text more d e (text_has text d h) (text_has (text ++ more) e k)

pub no_fault_in_text : (text more d : List ℕ) (error : ChunkError) → IsChunked text d → BadChunk (text ++ more) error → ⊥
no_fault_in_text text more d error h k =
    let led = text_has text d h in
    let fails = bad_fails (text ++ more) error k in
    let ended : after first (text ++ more) ≡ Ended =
    after-append first text more ∙ ap (λ q. after q more) led.place ∙ after-ended more in
    cc

-- a fault isn't undecided
refused_by_then : (p : Position) (a b : List ℕ) (error : ChunkError) → Fails p a error → is_undecided (after p (a ++ b)) ≡ true → ⊥
refused_by_then p a b error h k =
    let fails = ap is_undecided (fails_on p a b error h) in cc

-- of two fronts of one list the shorter is a front of the longer
pub fronts : (a b c d : List ℕ) → a ++ b ≡ c ++ d → ((m : List ℕ) × (a ≡ c ++ m) × (d ≡ m ++ b)) ⊎ ((m : List ℕ) × (c ≡ a ++ m) × (b ≡ m ++ d))
fronts [] b c d h = inr (c, refl, h)
fronts (x ∷ a) b [] d h = inl (x ∷ a, refl, sym h)
fronts (x ∷ a) b (y ∷ c) d h =
    let heads : x ≡ y = cc in
    let tails : a ++ b ≡ c ++ d = cc in
    ⊎_elim
    (λ w. inl (w.0, ap (λ v. v ∷ a) heads ∙ ap (λ r. y ∷ r) w.1, w.2))
    (λ w. inr (w.0, ap (λ v. v ∷ c) (sym heads) ∙ ap (λ r. x ∷ r) w.1, w.2))
    (fronts a b c d tails)

-- bytes up to a fault's last byte have no fault
late : (front more before : List ℕ) (b last : ℕ) (other : ChunkError) → Fails first front other → is_undecided (after first before) ≡ true
    → (m : List ℕ) → front ≡ before ++ m → last ∷ [] ≡ m ++ b ∷ more → ⊥
late front more before b last other fails going [] text tail =
    let same : after first front ≡ after first before = ap (after first) (text ∙ append-nil before) in
    let refused = ap is_undecided fails in
    let kept = ap is_undecided same in
    cc
late front more before b last other fails going (x ∷ m) text tail =
    let size = ap length tail in
    let parts = length-append m (b ∷ more) in
    omega arith

early : (front more before : List ℕ) (b last : ℕ) (other : ChunkError) → Fails first front other → is_undecided (after first before) ≡ true
    → (m : List ℕ) → before ≡ front ++ m → ⊥
early front more before b last other fails going m text =
    let G : List ℕ → Type 0 = λ l. is_undecided (after first l) ≡ true in
    refused_by_then first front m other fails (subst G text going)

pub one_fault : (front more : List ℕ) (error other : ChunkError) → BreaksAtEnd (front ++ more) error → BadChunk front other
    → (more ≡ []) × (error ≡ other)
one_fault front [] error other h k =
    let at_end = strikes_fail first (front ++ []) error (fault_strikes (front ++ []) error h) in
    let before = bad_fails front other k in
    let same = ap (after first) (append-nil front) in
    (refl, cc)
one_fault front (b ∷ more) error other h k =
    let struck = fault_strikes (front ++ b ∷ more) error h in
    let fails = bad_fails front other k in
    let going : is_undecided (after first struck.front) ≡ true = ap is_undecided struck.leads.place ∙ struck.going in
    absurd (⊎_elim
    (λ w. late front more struck.front b struck.last other fails going w.0 w.1 w.2)
    (λ w. early front more struck.front b struck.last other fails going w.0 w.1)
    (fronts front (b ∷ more) struck.front (struck.last ∷ []) struck.text))

-- ---- undecided

ended_is : (p : Position) → is_ended p ≡ true → p ≡ Ended
ended_is (Line form read size sum) h = absurd (cc)
ended_is (Content left sum) h = absurd (cc)
ended_is (Closing good sum) h = absurd (cc)
ended_is (Fields form read) h = absurd (cc)
ended_is Ended h = refl
ended_is (Refused error) h = absurd (cc)

-- the end came behind a front of the bytes
record EndedIn (p : Position) (bytes : List ℕ) : Type 0 where
  front : List ℕ
  more : List ℕ
  data_of : List ℕ
  text : bytes ≡ front ++ more
  has : Has p front data_of

at_once : (p : Position) (bytes : List ℕ) → is_ended p ≡ true → EndedIn p bytes
at_once p bytes is = record {
  front = [];
  more = bytes;
  data_of = [];
  text = refl;
  has = record { place = ended_is p is; out = refl; inside = tt };
}

later : (p : Position) (b : ℕ) (bytes : List ℕ) → is_ended p ≡ false → EndedIn (after_byte p b) bytes → EndedIn p (b ∷ bytes)
later p b bytes going found = record {
  front = b ∷ found.front;
  more = found.more;
  data_of = given_byte p b ++ found.data_of;
  text = ap (λ r. b ∷ r) found.text;
  has = leads_cons p (after_byte p b) Ended b found.front (given_byte p b) found.data_of going refl refl found.has;
}

ended_in : (p : Position) (bytes : List ℕ) → after p bytes ≡ Ended → EndedIn p bytes
ended_in p [] h = at_once p [] (ap is_ended h)
ended_in p (b ∷ bytes) h =
    ⊎_elim (λ is. at_once p (b ∷ bytes) is) (λ going. later p b bytes going (ended_in (after_byte p b) bytes h))
    (cases_Bool (is_ended p))

pub undecided_from : (p : Position) (bytes : List ℕ) → ((front more d : List ℕ) → bytes ≡ front ++ more → Has p front d → ⊥)
    → ((error : ChunkError) → Fails p bytes error → ⊥) → is_undecided (after p bytes) ≡ true
undecided_from p bytes no_end no_fault =
    goes_on (after p bytes)
    (λ ended. (let found = ended_in p bytes ended in no_end found.front found.more found.data_of found.text found.has))
    no_fault

pub undecided_end : (p : Position) (bytes front more d : List ℕ) → is_undecided (after p bytes) ≡ true → bytes ≡ front ++ more
    → Has p front d → ⊥
undecided_end p bytes front more d h text has =
    let place = has.place in
    let ended : after p bytes ≡ Ended =
    ap (after p) text ∙ after-append p front more ∙ ap (λ q. after q more) place ∙ after-ended more in
    let decided = ap is_undecided ended in
    cc

pub undecided_fault : (p : Position) (bytes : List ℕ) (error : ChunkError) → is_undecided (after p bytes) ≡ true → Fails p bytes error → ⊥
undecided_fault p bytes error h fails = let decided = ap is_undecided fails in cc
