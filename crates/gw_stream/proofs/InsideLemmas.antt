-- Bytes that decide nothing leave a body open.
use Rattle.std.proofs.Common.{◌≡◌, ℕ, zero, suc, List, [], ◌∷◌, length, refl, sym, ap, ◌∙◌, arith, true, append-nil, length-append}
use Rattle.std.proofs.lemmas.Bool.{lt-ltb}
use Rattle.gw_chunk.specs.declared.error.ChunkError.{ChunkError}
use Rattle.gw_chunk.specs.declared.position.Position.TheVariants.{Line, Content, Closing, Fields, Ended, Refused}
use Rattle.gw_chunk.proofs.Facts.{undecided_end, undecided_fault}
use Rattle.gw_body.specs.declared.place.Place.{Place}
use Rattle.gw_body.specs.declared.place.Place.TheVariants as place
use Rattle.gw_body.specs.Places.{ended, is_inside, HasBody, FailsBody}
use Rattle.gw_body.specs.Taken.{Takes, DecidesNothing}

no_end : (old new : Place) (piece : List ℕ) → DecidesNothing old piece → Takes old piece [] new → ((rest : List ℕ) → HasBody new rest [] rest) → ⊥
no_end (place.Counted left) new piece h t whole =
    let some = h.0 in
    let size = ((t.has [] [] []).0 (whole [])).1 in
    omega arith
no_end (place.Chunked p) new piece h t whole =
    let now = (t.has [] [] []).0 (whole []) in
    undecided_end p piece now.0 [] [] h.undecided (sym (append-nil piece) ∙ now.1) now.2
no_end (place.ToEnd left) new piece h t whole =
    let size = ap length ((t.has (0 ∷ []) [] (0 ∷ [])).0 (whole (0 ∷ []))).1 in
    omega arith
no_end (place.Refused fault) new piece h t whole = h

no_fault : (old new : Place) (piece : List ℕ) (error : ChunkError) → DecidesNothing old piece → Takes old piece [] new → FailsBody new [] error → ⊥
no_fault (place.Counted left) new piece error h t fails = (t.fails [] error).0 fails
no_fault (place.Chunked p) new piece error h t fails = undecided_fault p piece error h.undecided (rw append-nil at ((t.fails [] error).0 fails))
no_fault (place.ToEnd left) new piece error h t fails =
    let long = ((t.fails [] error).0 fails).1 in
    let size = length-append piece [] in
    let none = ap length h in
    omega arith
no_fault (place.Refused fault) new piece error h t fails = h

pub inside_behind : (old new : Place) (piece : List ℕ) → DecidesNothing old piece → Takes old piece [] new → is_inside new ≡ true
inside_behind old (place.Counted zero) piece h t = absurd (no_end old ended piece h t (λ rest. (refl, refl)))
inside_behind old (place.Counted (suc left)) piece h t = lt-ltb 0 (suc left) (omega arith)
inside_behind old (place.Chunked (Line form read size sum)) piece h t = refl
inside_behind old (place.Chunked (Content left sum)) piece h t = refl
inside_behind old (place.Chunked (Closing good sum)) piece h t = refl
inside_behind old (place.Chunked (Fields form read)) piece h t = refl
inside_behind old (place.Chunked Ended) piece h t =
    absurd (no_end old (place.Chunked Ended) piece h t (λ rest. ([], refl, record { place = refl; out = refl; inside = tt })))
inside_behind old (place.Chunked (Refused error)) piece h t = absurd (no_fault old (place.Chunked (Refused error)) piece error h t refl)
inside_behind old (place.ToEnd left) piece h t = refl
inside_behind old (place.Refused fault) piece h t = absurd (no_fault old (place.Refused fault) piece fault h t refl)
