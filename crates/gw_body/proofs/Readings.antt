-- Bodies over whole byte lists and from the first place, and that they are read in one way.
use Rattle.std.proofs.Common.{◌≡◌, ℕ, zero, suc, ◌<◌, List, [], ◌∷◌, ◌++◌, length, take, refl, sym, ap, ◌∙◌, subst, arith, ⊎_elim, true}
use Rattle.std.proofs.lemmas.List.{append-nil, length-append, length-take, nil_from_length}
use Rattle.std.proofs.lemmas.Bool.{eqb-true, eq-eqb}
use Rattle.std.specs.Prelude.{◌↔◌}
use Rattle.gw_chunk.specs.declared.error.ChunkError.{ChunkError}
use Rattle.gw_chunk.specs.declared.error.ChunkError.TheVariants.{TooLarge}
use Rattle.gw_chunk.specs.Chunked.{IsChunked}
use Rattle.gw_chunk.specs.declared.position.Position.{Position}
use Rattle.gw_chunk.specs.declared.position.Position.TheVariants.{Line, Content, Closing, Fields, Ended, Refused as Faulty}
use Rattle.gw_chunk.specs.Position.{is_ended, after, Has}
use Rattle.gw_chunk.proofs.Facts.{text_has, has_text, bad_fails, fails_bad, fronts, no_text_begins_another, no_fault_in_text, undecided_from, undecided_end, undecided_fault}
use Rattle.gw_head.specs.declared.framing.Framing.{Framing}
use Rattle.gw_head.specs.declared.framing.Framing.TheVariants.{None as NoBody, Length, Chunked, ToEnd}
use Rattle.gw_body.specs.Body.{BodyOf, BadBody}
use Rattle.gw_body.specs.declared.place.Place.{Place}
use Rattle.gw_body.specs.declared.place.Place.TheVariants.{Counted, Chunked as InChunks, ToEnd as AtMost, Refused}
use Rattle.gw_body.specs.Places.{begins, HasBody, FailsBody, data_among, is_done}
use Rattle.gw_body.specs.Taken.{DecidesNothing}
use Rattle.gw_body.specs.Laws.{EndsWithin}

pub bodies_from_first : (framing : Framing) (bytes d rest : List ℕ) → BodyOf framing bytes d rest ↔ HasBody (begins framing) bytes d rest
bodies_from_first NoBody bytes d rest = (
  λ k. (k.0 ∙ ap (λ l. l ++ rest) (sym k.1), ap length k.1),
  λ k. (let none : d ≡ [] = nil_from_length d k.1 in (k.0 ∙ ap (λ l. l ++ rest) none, none)),
)
bodies_from_first (Length n) bytes d rest = (λ k. k, λ k. k)
bodies_from_first Chunked bytes d rest = (λ k. (k.0, k.1, text_has k.0 d k.2), λ k. (k.0, k.1, has_text k.0 d k.2))
bodies_from_first ToEnd bytes d rest = (λ k. k, λ k. k)

pub faults_from_first : (framing : Framing) (bytes : List ℕ) (error : ChunkError) → BadBody framing bytes error ↔ FailsBody (begins framing) bytes error
faults_from_first NoBody bytes error = (λ k. k, λ k. k)
faults_from_first (Length n) bytes error = (λ k. k, λ k. k)
faults_from_first Chunked bytes error = (bad_fails bytes error, fails_bad bytes error)
faults_from_first ToEnd bytes error = (λ k. k, λ k. k)

-- two lists of one length at the front of one
same_front : (d e rest more : List ℕ) → d ++ rest ≡ e ++ more → length d ≡ length e → (d ≡ e) × (rest ≡ more)
same_front [] [] rest more same size = (refl, same)
same_front [] (y ∷ e) rest more same size = absurd (omega arith)
same_front (x ∷ d) [] rest more same size = absurd (omega arith)
same_front (x ∷ d) (y ∷ e) rest more same size =
    let heads : x ≡ y = cc in
    let tails : d ++ rest ≡ e ++ more = cc in
    let others = same_front d e rest more tails (omega arith) in
    (ap (λ v. v ∷ d) heads ∙ ap (λ l. y ∷ l) others.0, others.1)

-- of two texts at the front of one list, the second no shorter
longer : (text other d e rest more m : List ℕ) → IsChunked text d → IsChunked other e → other ≡ text ++ m → rest ≡ m ++ more
    → (d ≡ e) × (rest ≡ more)
longer text other d e rest more m h k is behind =
    let C : List ℕ → Type 0 = λ l. IsChunked l e in
    let alone = no_text_begins_another text m d e h (subst C is k) in
    (alone.1, behind ∙ ap (λ l. l ++ more) alone.0)

pub one_body : (framing : Framing) (bytes d rest e more : List ℕ) → BodyOf framing bytes d rest → BodyOf framing bytes e more
    → (d ≡ e) × (rest ≡ more)
one_body NoBody bytes d rest e more h k = (h.1 ∙ sym k.1, sym h.0 ∙ k.0)
one_body (Length n) bytes d rest e more h k = same_front d e rest more (sym h.0 ∙ k.0) (h.1 ∙ sym k.1)
one_body Chunked bytes d rest e more h k =
    ⊎_elim
    (λ w. (let found = longer k.0 h.0 e d more rest w.0 k.2 h.2 w.1 w.2 in (sym found.0, sym found.1)))
    (λ w. longer h.0 k.0 d e rest more w.0 h.2 k.2 w.1 w.2)
    (fronts h.0 rest k.0 more (sym h.1 ∙ k.1))
one_body ToEnd bytes d rest e more h k = (sym h.0 ∙ k.0, h.1 ∙ sym k.1)

pub no_fault_in_body : (framing : Framing) (bytes d rest : List ℕ) (error : ChunkError) → BodyOf framing bytes d rest → BadBody framing bytes error → ⊥
no_fault_in_body NoBody bytes d rest error h k = k
no_fault_in_body (Length n) bytes d rest error h k = k
no_fault_in_body Chunked bytes d rest error h k =
    let B : List ℕ → Type 0 = λ l. BadBody Chunked l error in
    no_fault_in_text h.0 rest d error h.2 (subst B h.1 k)
no_fault_in_body ToEnd bytes d rest error h k =
    let size = ap length h.0 in
    let short = h.2 in
    let long = k.1 in
    omega arith

-- ---- what is undecided

some_taken : (left : ℕ) (bytes : List ℕ) → 0 < left → take left bytes ≡ [] → bytes ≡ []
some_taken left [] some none = refl
some_taken left (b ∷ bytes) some none =
    let size = ap length none in
    let cut = length-take left (b ∷ bytes) in
    absurd (omega arith)

none_taken : (left : ℕ) (bytes : List ℕ) → bytes ≡ [] → take left bytes ≡ []
none_taken left bytes none = nil_from_length (take left bytes) (let size = ap length none in let cut = length-take left bytes in omega arith)

undecided_then : (place : Place) (bytes : List ℕ) → DecidesNothing place bytes
    → (data_among place bytes ≡ []) × (EndsWithin place bytes → ⊥) × ((error : ChunkError) → FailsBody place bytes error → ⊥)
undecided_then (Counted left) bytes h = (
  none_taken left bytes h.1,
  λ w.
      (let some = h.0 in
      let size = ap length (sym w.3 ∙ h.1) in
      let fronts_size = length-append w.0 w.1 in
      let ended = w.4 [] in
      let text = ap length ended.0 in
      let d_size = ended.1 in
      let left_size = length-append w.0 [] in
      let right_size = length-append w.2 [] in
      omega arith),
  λ error k. k,
)
undecided_then (InChunks p) bytes h = (
  h.no_data,
  λ w.
      (let ended = w.4 [] in
      let H : List ℕ → Type 0 = λ l. Has p l w.2 in
      let same : ended.0 ≡ w.0 = sym (append-nil ended.0) ∙ sym ended.1 ∙ append-nil w.0 in
      undecided_end p bytes w.0 w.1 w.2 h.undecided w.3 (subst H same ended.2)),
  λ error k. undecided_fault p bytes error h.undecided k,
)
undecided_then (AtMost left) bytes h = (
  none_taken left bytes h,
  λ w. (let ended = w.4 (0 ∷ []) in let size = ap length ended.1 in omega arith),
  λ error k. (let long = k.1 in let size = ap length h in omega arith),
)
undecided_then (Refused fault) bytes h = absurd h

undecided_from_none : (place : Place) (bytes : List ℕ) → data_among place bytes ≡ [] → (EndsWithin place bytes → ⊥)
    → ((error : ChunkError) → FailsBody place bytes error → ⊥) → DecidesNothing place bytes
undecided_from_none (Counted zero) bytes none no_end no_fault = absurd (no_end ([], bytes, [], refl, λ rest. (refl, refl)))
undecided_from_none (Counted (suc left)) bytes none no_end no_fault = (omega arith, some_taken (suc left) bytes (omega arith) none)
undecided_from_none (InChunks p) bytes none no_end no_fault = record {
  no_data = none;
  undecided = undecided_from p bytes
      (λ front more d text has. no_end (front, more, d, text, λ rest. (front, refl, has)))
      no_fault;
}
undecided_from_none (AtMost zero) [] none no_end no_fault = refl
undecided_from_none (AtMost zero) (b ∷ bytes) none no_end no_fault = absurd (no_fault TooLarge (refl, omega arith))
undecided_from_none (AtMost (suc left)) bytes none no_end no_fault = some_taken (suc left) bytes (omega arith) none
undecided_from_none (Refused fault) bytes none no_end no_fault = absurd (no_fault fault refl)

pub undecided_is_neither : (place : Place) (bytes : List ℕ)
    → DecidesNothing place bytes
    ↔ ((data_among place bytes ≡ []) × (EndsWithin place bytes → ⊥) × ((error : ChunkError) → FailsBody place bytes error → ⊥))
undecided_is_neither place bytes = (undecided_then place bytes, λ k. undecided_from_none place bytes k.0 k.1 k.2)

-- ---- what is done

ended_has : (p : Position) (rest : List ℕ) → is_ended p ≡ true → HasBody (InChunks p) rest [] rest
ended_has (Line form read size sum) rest h = absurd (cc)
ended_has (Content left sum) rest h = absurd (cc)
ended_has (Closing good sum) rest h = absurd (cc)
ended_has (Fields form read) rest h = absurd (cc)
ended_has Ended rest h = ([], refl, record { place = refl; out = refl; inside = tt })
ended_has (Faulty error) rest h = absurd (cc)

done_then : (place : Place) (rest : List ℕ) → is_done place ≡ true → HasBody place rest [] rest
done_then (Counted left) rest h = (refl, sym (eqb-true left 0 h))
done_then (InChunks p) rest h = ended_has p rest h
done_then (AtMost left) rest h = absurd (cc)
done_then (Refused fault) rest h = absurd (cc)

done_from : (place : Place) → ((rest : List ℕ) → HasBody place rest [] rest) → is_done place ≡ true
done_from (Counted left) h = eq-eqb left 0 (sym (h []).1)
done_from (InChunks p) h =
    let ended = h [] in
    let none : ended.0 ≡ [] = sym (append-nil ended.0) ∙ sym ended.1 in
    ap is_ended (ap (after p) (sym none) ∙ ended.2.place)
done_from (AtMost left) h = (let ended = h (0 ∷ []) in let size = ap length ended.1 in absurd (omega arith))
done_from (Refused fault) h = absurd (h [])

pub done_is_whole : (place : Place) → (is_done place ≡ true) ↔ ((rest : List ℕ) → HasBody place rest [] rest)
done_is_whole place = (λ h rest. done_then place rest h, λ h. done_from place h)
