-- What was taken of a body, without its end and without a fault, is a part of it.
use Rattle.std.proofs.Common.{◌≡◌, ℕ, zero, suc, ◌<◌, ◌≤◌, List, [], ◌∷◌, ◌++◌, length, take, drop, refl, sym, ap, ◌∙◌, subst, arith, true, ⊎_elim}
use Rattle.std.proofs.lemmas.List.{append-nil, append_assoc, length-append, length-take, take_all, take-append-drop}
use Rattle.std.proofs.lemmas.Bool.{cases_lt, ltb-true}
use Rattle.gw_chunk.specs.declared.error.ChunkError.{ChunkError}
use Rattle.gw_chunk.specs.declared.error.ChunkError.TheVariants.{TooLarge}
use Rattle.gw_chunk.specs.Chunked.{data_limit}
use Rattle.gw_chunk.specs.Part as Chunks
use Rattle.gw_chunk.specs.Position.{first, after, given, is_undecided, Has}
use Rattle.gw_chunk.proofs.Facts.{given-append, undecided_from, undecided_part}
use Rattle.gw_head.specs.declared.framing.Framing.{Framing}
use Rattle.gw_head.specs.declared.framing.Framing.TheVariants.{None as NoBody, Length, Chunked as InChunks, ToEnd as ToLinkEnd}
use Rattle.gw_body.specs.declared.place.Place.{Place}
use Rattle.gw_body.specs.declared.place.Place.TheVariants.{Counted, Chunked, ToEnd, Refused}
use Rattle.gw_body.specs.Part.{IsPart}
use Rattle.gw_body.specs.Places.{begins, HasBody, FailsBody, data_among, is_inside}
use Rattle.gw_body.specs.Taken.{Takes}
use Rattle.gw_body.proofs.Taking.{given_ended}

-- from a place that is inside a body, no bytes alone are the rest of one, whatever follows
not_behind : (place : Place) (m : List ℕ) → is_inside place ≡ true → ((more : List ℕ) → HasBody place more [] (m ++ more)) → ⊥
not_behind (Counted left) m inside h =
    let some = ltb-true 0 left inside in
    let size = (h []).1 in
    omega arith
not_behind (Chunked p) m inside h =
    let found = h [] in
    let size = ap length found.1 in
    let both = length-append found.0 (m ++ []) in
    let none : found.0 ≡ [] = nothing found.0 (omega arith) in
    let H : List ℕ → Type 0 = λ l. Has p l [] in
    let ended = (subst H none found.2).place in
    let undecided : is_undecided p ≡ true = inside in
    let not = ap is_undecided ended in
    absurd (cc)
  where
    nothing : (l : List ℕ) → length l ≡ 0 → l ≡ []
    nothing [] size = refl
    nothing (x ∷ l) size = absurd (omega arith)
not_behind (ToEnd left) m inside h =
    let size = ap length (h (0 ∷ [])).1 in
    let both = length-append m (0 ∷ []) in
    omega arith
not_behind (Refused fault) m inside h = h []

-- nor has it a fault before any byte
not_faulty : (place : Place) (error : ChunkError) → is_inside place ≡ true → FailsBody place [] error → ⊥
not_faulty (Counted left) error inside h = h
not_faulty (Chunked p) error inside h =
    let undecided : is_undecided p ≡ true = inside in
    let not = ap is_undecided h in
    absurd (cc)
not_faulty (ToEnd left) error inside h = let less = h.1 in omega arith
not_faulty (Refused fault) error inside h = absurd (cc)

no_data_left : (place : Place) → data_among place [] ≡ []
no_data_left (Counted left) = none_of left
  where
    none_of : (n : ℕ) → take {A = ℕ} n [] ≡ []
    none_of zero = refl
    none_of (suc n) = refl
no_data_left (Chunked p) = refl
no_data_left (ToEnd left) = none_of left
  where
    none_of : (n : ℕ) → take {A = ℕ} n [] ≡ []
    none_of zero = refl
    none_of (suc n) = refl
no_data_left (Refused fault) = refl

-- the data taken is the data among the bytes
among_alone : (old new : Place) (bytes d : List ℕ) → Takes old bytes d new → data_among old bytes ≡ d
among_alone old new bytes d h =
    ap (data_among old) (sym (append-nil bytes)) ∙ h.among [] ∙ ap (λ l. d ++ l) (no_data_left new) ∙ append-nil d

-- the body hasn't ended within the bytes
not_whole : (old new : Place) (bytes d m : List ℕ) → Takes old bytes d new → is_inside new ≡ true
    → ((more : List ℕ) → HasBody old (bytes ++ more) d (m ++ more)) → ⊥
not_whole old new bytes d m h inside whole =
    not_behind new m inside
    (λ more. (h.has more [] (m ++ more)).1
    (let B : List ℕ → Type 0 = λ l. HasBody old (bytes ++ more) l (m ++ more) in subst B (sym (append-nil d)) (whole more)))

not_failed : (old new : Place) (bytes d : List ℕ) (error : ChunkError) → Takes old bytes d new → is_inside new ≡ true
    → FailsBody old bytes error → ⊥
not_failed old new bytes d error h inside fails =
    not_faulty new error inside
    ((h.fails [] error).1 (let B : List ℕ → Type 0 = λ l. FailsBody old l error in subst B (sym (append-nil bytes)) fails))

-- ---- a text in chunks

text_then : (front m d more : List ℕ) (bytes : List ℕ) → bytes ≡ front ++ m → Has first front d → HasBody (Chunked first) (bytes ++ more) d (m ++ more)
text_then front m d more bytes text has = (front, ap (λ l. l ++ more) text ∙ append_assoc front m more, has)

given_front : (front m d bytes : List ℕ) → bytes ≡ front ++ m → Has first front d → given first bytes ≡ d
given_front front m d bytes text has =
    ap (given first) text ∙ given-append first front m ∙ ap (λ l. l ++ given (after first front) m) has.out
    ∙ ap (λ q. d ++ given q m) has.place ∙ ap (λ l. d ++ l) (given_ended m) ∙ append-nil d

chunks_part : (bytes d : List ℕ) (new : Place) → Takes (Chunked first) bytes d new → is_inside new ≡ true → Chunks.IsPart bytes d
chunks_part bytes d new h inside =
    let out = among_alone (Chunked first) new bytes d h in
    let undecided = undecided_from first bytes
    (λ front m e text has.
    (let same : e ≡ d = sym (given_front front m e bytes text has) ∙ out in
    let H : List ℕ → Type 0 = λ l. Has first front l in
    not_whole (Chunked first) new bytes d m h inside (λ more. text_then front m d more bytes text (subst H same has))))
    (λ error fails. not_failed (Chunked first) new bytes d error h inside fails) in
    subst (Chunks.IsPart bytes) out (undecided_part bytes undecided)

-- ---- of a known length, and up to the link's end

counted_part : (n : ℕ) (bytes d : List ℕ) (new : Place) → Takes (Counted n) bytes d new → is_inside new ≡ true → (bytes ≡ d) × (length d < n)
counted_part n bytes d new h inside =
    let out = among_alone (Counted n) new bytes d h in
    ⊎_elim
    (λ less. (let all : bytes ≡ d = sym (take_all n bytes (omega arith)) ∙ out in
    (all, omega (arith, ap length all))))
    (λ enough.
    (let size : length d ≡ n = omega (arith, ap length out, length-take n bytes) in
    let cut : bytes ≡ d ++ drop n bytes = sym (take-append-drop n bytes) ∙ ap (λ l. l ++ drop n bytes) out in
    absurd (not_whole (Counted n) new bytes d (drop n bytes) h inside
    (λ more. (ap (λ l. l ++ more) cut ∙ append_assoc d (drop n bytes) more, size)))))
    (cases_lt (length bytes) n)

to_end_part : (n : ℕ) (bytes d : List ℕ) (new : Place) → Takes (ToEnd n) bytes d new → is_inside new ≡ true → (bytes ≡ d) × (length d ≤ n)
to_end_part n bytes d new h inside =
    let out = among_alone (ToEnd n) new bytes d h in
    ⊎_elim
    (λ more. absurd (not_failed (ToEnd n) new bytes d TooLarge h inside (refl, more)))
    (λ within. (let all : bytes ≡ d = sym (take_all n bytes within) ∙ out in (all, omega (arith, ap length all))))
    (cases_lt n (length bytes))

pub taken_is_part : (framing : Framing) (bytes d : List ℕ) (place : Place) → Takes (begins framing) bytes d place → is_inside place ≡ true
    → IsPart framing bytes d
taken_is_part NoBody bytes d place h inside = let part = counted_part 0 bytes d place h inside in let less = part.1 in omega arith
taken_is_part (Length n) bytes d place h inside = counted_part n bytes d place h inside
taken_is_part InChunks bytes d place h inside = chunks_part bytes d place h inside
taken_is_part ToLinkEnd bytes d place h inside = to_end_part data_limit bytes d place h inside
