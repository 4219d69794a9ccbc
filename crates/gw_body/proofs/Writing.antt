-- What is written of pieces, and that it is read as their data.
use Rattle.std.proofs.Common.{◌≡◌, ℕ, ◌-◌, ◌<◌, ◌≤◌, List, [], ◌∷◌, ◌++◌, length, take, drop, refl, sym, ap, ◌∙◌, arith, Bool, false, min, ⊎_elim}
use Rattle.std.proofs.lemmas.List.{append-nil, append_assoc, length-append, take_all, take_at, drop_all, drop_at}
use Rattle.std.proofs.lemmas.Bool.{cases_lt, eqb-false, lt-ltb, ltb-false}
use Rattle.std.specs.Prelude.{◌==◌, nat_lt}
use Rattle.std.specs.List.{concat, flat_map}
use Rattle.gw_chunk.specs.Chunked.{piece_limit, coded_piece, coded_end, coded}
use Rattle.gw_chunk.specs.Laws.{AreCut}
use Rattle.gw_chunk.proofs.Facts.{coded_front, coded_is_chunked, cuts_are_coded}
use Rattle.gw_head.specs.declared.framing.Framing.{Framing}
use Rattle.gw_head.specs.declared.framing.Framing.TheVariants.{None as NoBody, Length, Chunked as InChunks, ToEnd as ToLinkEnd}
use Rattle.gw_body.specs.declared.plan.Plan.{Plan}
use Rattle.gw_body.specs.declared.plan.Plan.TheVariants.{Counted, Chunked, ToEnd}
use Rattle.gw_body.specs.Body.{BodyOf}
use Rattle.gw_body.specs.Laws.{IsReadable, MayFollow, HasLength, HasWritten, HasBegun}
use Rattle.gw_body.specs.Written.{plan_of, piece_text, behind_piece, end_text, rest_text, Accepts, MayEnd, MayGoOn, IsWritable, written, body_text}

-- of a known length: the data, and it has that length
counted_text : (left : ℕ) (pieces : List (List ℕ)) → IsWritable (Counted left) pieces
    → (written (Counted left) pieces ≡ concat pieces) × (length (concat pieces) ≡ left)
counted_text left [] h = (refl, sym h)
counted_text left (piece ∷ pieces) h =
    let behind = counted_text (left - length piece) pieces h.3 in
    let room = h.2 in
    let size = behind.1 in
    let both = length-append piece (concat pieces) in
    (ap (λ l. piece ++ l) behind.0, omega arith)

-- up to the link's end: the data
to_end_text : (pieces : List (List ℕ)) → IsWritable ToEnd pieces → written ToEnd pieces ≡ concat pieces
to_end_text [] h = refl
to_end_text (piece ∷ pieces) h = ap (λ l. piece ++ l) (to_end_text pieces h.3)

-- in chunks: what the encoder writes of the pieces
chunks_text : (short : Bool) (pieces : List (List ℕ)) → written (Chunked short) pieces ≡ flat_map coded_piece pieces ++ coded_end
chunks_text short [] = refl
chunks_text short (piece ∷ pieces) =
    ap (λ l. coded_piece piece ++ l) (chunks_text (nat_lt (length piece) piece_limit) pieces)
    ∙ sym (append_assoc (coded_piece piece) (flat_map coded_piece pieces) coded_end)

whole_piece : (n : ℕ) → n ≤ 8192 → nat_lt n 8192 ≡ false → n ≡ 8192
whole_piece n most is = let least = ltb-false n 8192 is in omega arith

pieces_cut : (short : Bool) (pieces : List (List ℕ)) → IsWritable (Chunked short) pieces → AreCut pieces
pieces_cut short [] h = tt
pieces_cut short (piece ∷ []) h = (h.0, h.1)
pieces_cut short (piece ∷ next ∷ pieces) h =
    let more = h.3 in
    (whole_piece (length piece) h.1 more.2, pieces_cut (nat_lt (length piece) piece_limit) (next ∷ pieces) more)

pub pieces_make_text : (framing : Framing) (pieces : List (List ℕ)) → IsWritable (plan_of framing) pieces
    → written (plan_of framing) pieces ≡ body_text framing (concat pieces)
pieces_make_text NoBody pieces h = (counted_text 0 pieces h).0
pieces_make_text (Length n) pieces h = (counted_text n pieces h).0
pieces_make_text InChunks pieces h = chunks_text false pieces ∙ sym (cuts_are_coded pieces (pieces_cut false pieces h))
pieces_make_text ToLinkEnd pieces h = to_end_text pieces h

no_bytes : (l : List ℕ) → length l ≡ 0 → l ≡ []
no_bytes [] size = refl
no_bytes (x ∷ l) size = absurd (omega arith)

pub written_is_read : (framing : Framing) (pieces : List (List ℕ)) (rest : List ℕ) → IsWritable (plan_of framing) pieces
    → IsReadable framing (concat pieces) → MayFollow framing rest
    → BodyOf framing (written (plan_of framing) pieces ++ rest) (concat pieces) rest
written_is_read NoBody pieces rest h small alone =
    let text = counted_text 0 pieces h in
    let none = no_bytes (concat pieces) text.1 in
    (ap (λ l. l ++ rest) (text.0 ∙ none), none)
written_is_read (Length n) pieces rest h small alone =
    let text = counted_text n pieces h in
    (ap (λ l. l ++ rest) text.0, text.1)
written_is_read InChunks pieces rest h small alone =
    (coded (concat pieces), ap (λ l. l ++ rest) (pieces_make_text InChunks pieces h), coded_is_chunked (concat pieces) small)
written_is_read ToLinkEnd pieces rest h small alone =
    (ap (λ l. l ++ rest) (to_end_text pieces h) ∙ ap (λ l. concat pieces ++ l) alone ∙ append-nil (concat pieces), alone, small)

pub text_is_read : (framing : Framing) (d rest : List ℕ) → HasLength framing d → MayFollow framing rest
    → BodyOf framing (body_text framing d ++ rest) d rest
text_is_read NoBody d rest size alone =
    let none = no_bytes d size in
    (ap (λ l. l ++ rest) none, none)
text_is_read (Length n) d rest size alone = (refl, size)
text_is_read InChunks d rest small alone = (coded d, refl, coded_is_chunked d small)
text_is_read ToLinkEnd d rest small alone = (ap (λ l. d ++ l) alone ∙ append-nil d, alone, small)

-- ---- piece by piece

pub begins_written : (framing : Framing) → HasWritten framing [] [] (plan_of framing)
begins_written framing pieces h = pieces_make_text framing pieces h

pub goes_on_written : (framing : Framing) (d text piece : List ℕ) (plan : Plan) → HasWritten framing d text plan
    → 0 < length piece → length piece ≤ piece_limit → Accepts plan piece
    → HasWritten framing (d ++ piece) (text ++ piece_text plan piece) (behind_piece plan piece)
goes_on_written framing d text piece plan so_far some most accepted pieces h =
    append_assoc text (piece_text plan piece) (written (behind_piece plan piece) pieces)
    ∙ so_far (piece ∷ pieces) (some, most, accepted, h)
    ∙ ap (body_text framing) (sym (append_assoc d piece (concat pieces)))

pub ends_written : (framing : Framing) (d text : List ℕ) (plan : Plan) → HasWritten framing d text plan → MayEnd plan
    → text ++ end_text plan ≡ body_text framing d
ends_written framing d text plan so_far may = so_far [] may ∙ ap (body_text framing) (append-nil d)

-- ---- what was written begins the text of all data that begins so

pub begins_text : (framing : Framing) → HasBegun framing [] [] (plan_of framing)
begins_text NoBody more goes = refl
begins_text (Length n) more goes = refl
begins_text InChunks more goes = refl
begins_text ToLinkEnd more goes = refl

front_of : (piece more : List ℕ)
    → (length piece ≤ piece_limit → MayGoOn (Chunked (nat_lt (length piece) piece_limit)) more → take piece_limit (piece ++ more) ≡ piece)
    × (length piece ≤ piece_limit → MayGoOn (Chunked (nat_lt (length piece) piece_limit)) more → drop piece_limit (piece ++ more) ≡ more)
front_of piece more = (
  λ most goes. ⊎_elim
      (λ less. (let none : more ≡ [] = goes (lt-ltb (length piece) piece_limit less) in
      ap (λ l. take piece_limit (piece ++ l)) none ∙ ap (take piece_limit) (append-nil piece) ∙ take_all piece_limit piece most))
      (λ all. take_at piece more piece_limit (omega arith))
      (cases_lt (length piece) piece_limit),
  λ most goes. ⊎_elim
      (λ less. (let none : more ≡ [] = goes (lt-ltb (length piece) piece_limit less) in
      ap (λ l. drop piece_limit (piece ++ l)) none ∙ ap (drop piece_limit) (append-nil piece) ∙ drop_all piece_limit piece most ∙ sym none))
      (λ all. drop_at piece more piece_limit (omega arith))
      (cases_lt (length piece) piece_limit),
)

-- in chunks: the piece, and the text of what follows it
chunk_then : (piece more : List ℕ) → 0 < length piece → length piece ≤ piece_limit
    → MayGoOn (Chunked (nat_lt (length piece) piece_limit)) more → coded (piece ++ more) ≡ coded_piece piece ++ coded more
chunk_then piece more some most goes =
    let front = front_of piece more in
    coded_front (piece ++ more) (omega (arith, length-append piece more))
    ∙ ap (λ l. coded_piece l ++ coded (drop piece_limit (piece ++ more))) (front.0 most goes)
    ∙ ap (λ l. coded_piece piece ++ coded l) (front.1 most goes)

goes_by : (plan : Plan) (piece more : List ℕ) → 0 < length piece → length piece ≤ piece_limit → MayGoOn (behind_piece plan piece) more
    → rest_text plan (piece ++ more) ≡ piece_text plan piece ++ rest_text (behind_piece plan piece) more
goes_by (Counted left) piece more some most goes = refl
goes_by (Chunked short) piece more some most goes = chunk_then piece more some most goes
goes_by ToEnd piece more some most goes = refl

accepts_goes : (plan : Plan) (piece more : List ℕ) → Accepts plan piece → MayGoOn plan (piece ++ more)
accepts_goes (Counted left) piece more accepted = tt
accepts_goes (Chunked short) piece more accepted = λ is. (let other = accepted in absurd (cc))
accepts_goes ToEnd piece more accepted = tt

pub goes_on_text : (framing : Framing) (d text piece : List ℕ) (plan : Plan) → HasBegun framing d text plan
    → 0 < length piece → length piece ≤ piece_limit → Accepts plan piece
    → HasBegun framing (d ++ piece) (text ++ piece_text plan piece) (behind_piece plan piece)
goes_on_text framing d text piece plan so_far some most accepted more goes =
    append_assoc text (piece_text plan piece) (rest_text (behind_piece plan piece) more)
    ∙ ap (λ l. text ++ l) (sym (goes_by plan piece more some most goes))
    ∙ so_far (piece ++ more) (accepts_goes plan piece more accepted)
    ∙ ap (body_text framing) (sym (append_assoc d piece more))

-- ---- all chunks

cut_same : (rest : List ℕ) (n : ℕ) → n ≡ min (length rest) piece_limit → (take n rest ≡ take piece_limit rest) × (drop n rest ≡ drop piece_limit rest)
cut_same rest n size =
    ⊎_elim
    (λ less. (let all : n ≡ length rest = omega arith in (
      ap (λ m. take m rest) all ∙ take_all (length rest) rest (omega arith) ∙ sym (take_all piece_limit rest (omega arith)),
      ap (λ m. drop m rest) all ∙ drop_all (length rest) rest (omega arith) ∙ sym (drop_all piece_limit rest (omega arith)),
    )))
    (λ enough. (let whole : n ≡ piece_limit = omega arith in (ap (λ m. take m rest) whole, ap (λ m. drop m rest) whole)))
    (cases_lt (length rest) piece_limit)

pub chunk_more : (before out new content rest piece behind : List ℕ) (n : ℕ) → out ++ coded rest ≡ before ++ coded content → false ≡ (length rest == 0)
    → n ≡ min (length rest) piece_limit → piece ≡ take n rest → behind ≡ drop n rest → new ≡ out ++ coded_piece piece
    → new ++ coded behind ≡ before ++ coded content
chunk_more before out new content rest piece behind n so_far some size front back appended =
    let other = eqb-false (length rest) 0 (sym some) in
    let same = cut_same rest n size in
    ap (λ l. l ++ coded behind) (appended ∙ ap (λ l. out ++ coded_piece l) (front ∙ same.0))
    ∙ ap (λ l. (out ++ coded_piece (take piece_limit rest)) ++ coded l) (back ∙ same.1)
    ∙ append_assoc out (coded_piece (take piece_limit rest)) (coded (drop piece_limit rest))
    ∙ ap (λ l. out ++ l) (sym (coded_front rest (omega (arith, other))))
    ∙ so_far
