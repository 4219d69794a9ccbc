-- The text of a body's data, piece by piece.
use Rattle.std.proofs.Common.{ℕ, ◌≡◌, ◌≤◌, Bool, true, false, List, [], ◌∷◌, ◌++◌, length, drop, All, refl, ap, sym, ◌∙◌, arith, append-nil, append_assoc}
use Rattle.std.proofs.lemmas.Grind.{flat_map-append}
use Rattle.std.proofs.lemmas.List.{take_all, drop_all, take_at, drop_at}
use Rattle.std.proofs.lemmas.List.Elements.{All-head, All-tail}
use Rattle.std.proofs.lemmas.List.Folds.{concat-append}
use Rattle.std.specs.List.{concat, flat_map}
use Rattle.gw_chunk.specs.Chunked.{coded, coded_piece, piece_limit}
use Rattle.gw_chunk.proofs.Facts.{coded_front}
use Rattle.gw_stream.specs.Outbox.{end_of, piece_of, rest_of}
use Rattle.gw_stream.specs.Relaying.{IsFront, text_of}

abbrev pub IsWhole : List ℕ → Type 0
IsWhole piece = length piece ≡ piece_limit

-- ---- pieces that are added at the end

pub pieces_push : (pieces : List (List ℕ)) (piece : List ℕ) → concat (pieces ++ piece ∷ []) ≡ concat pieces ++ piece
pieces_push pieces piece = concat-append pieces (piece ∷ []) ∙ ap (λ l. concat pieces ++ l) (append-nil piece)

pub texts_push : (f : List ℕ → List ℕ) (pieces : List (List ℕ)) (piece : List ℕ) → flat_map f (pieces ++ piece ∷ []) ≡ flat_map f pieces ++ f piece
texts_push f pieces piece = flat_map-append f pieces (piece ∷ []) ∙ ap (λ l. flat_map f pieces ++ l) (append-nil (f piece))

pub rest_some : (chunks : Bool) (piece : List ℕ) → length piece ≡ piece_limit → rest_of chunks piece ≡ piece_of chunks piece
rest_some chunks [] long = absurd (omega (arith, long))
rest_some chunks (b ∷ piece) long = refl

-- ---- whole pieces, and what follows them

whole_front : (chunks : Bool) (piece more : List ℕ) → length piece ≡ piece_limit → text_of chunks (piece ++ more) ≡ piece_of chunks piece ++ text_of chunks more
whole_front false piece more long = refl
whole_front true [] more long = absurd (omega (arith, long))
whole_front true (b ∷ piece) more long =
    coded_front ((b ∷ piece) ++ more) (omega arith)
    ∙ ap (λ l. coded_piece l ++ coded (drop piece_limit ((b ∷ piece) ++ more))) (take_at (b ∷ piece) more piece_limit long)
    ∙ ap (λ l. coded_piece (b ∷ piece) ++ coded l) (drop_at (b ∷ piece) more piece_limit long)

pub texts_behind : (chunks : Bool) (pieces : List (List ℕ)) (more : List ℕ) → All IsWhole pieces
    → text_of chunks (concat pieces ++ more) ≡ flat_map (piece_of chunks) pieces ++ text_of chunks more
texts_behind chunks [] more whole = refl
texts_behind chunks (piece ∷ pieces) more whole =
    ap (text_of chunks) (append_assoc piece (concat pieces) more)
    ∙ whole_front chunks piece (concat pieces ++ more) (All-head IsWhole piece pieces whole)
    ∙ ap (λ l. piece_of chunks piece ++ l) (texts_behind chunks pieces more (All-tail IsWhole piece pieces whole))
    ∙ sym (append_assoc (piece_of chunks piece) (flat_map (piece_of chunks) pieces) (text_of chunks more))

-- ---- the last piece

pub last_text : (chunks : Bool) (rest : List ℕ) → length rest ≤ piece_limit → text_of chunks rest ≡ rest_of chunks rest ++ end_of chunks
last_text true [] most = refl
last_text true (b ∷ rest) most =
    coded_front (b ∷ rest) (omega arith)
    ∙ ap (λ l. coded_piece l ++ coded (drop piece_limit (b ∷ rest))) (take_all piece_limit (b ∷ rest) most)
    ∙ ap (λ l. coded_piece (b ∷ rest) ++ coded l) (drop_all piece_limit (b ∷ rest) most)
last_text false [] most = refl
last_text false (b ∷ rest) most = sym (append-nil (b ∷ rest))

pub whole_text : (chunks : Bool) (pieces : List (List ℕ)) (rest : List ℕ) → All IsWhole pieces → length rest ≤ piece_limit
    → text_of chunks (concat pieces ++ rest) ≡ flat_map (piece_of chunks) pieces ++ (rest_of chunks rest ++ end_of chunks)
whole_text chunks pieces rest whole most =
    texts_behind chunks pieces rest whole ∙ ap (λ l. flat_map (piece_of chunks) pieces ++ l) (last_text chunks rest most)

-- what was written so far begins the text of all data that begins so
pub front_of_text : (head : List ℕ) (chunks : Bool) (d text more : List ℕ) → (f : IsFront head chunks d text)
    → text ++ text_of chunks (f.rest ++ more) ≡ head ++ text_of chunks (d ++ more)
front_of_text head chunks d text more f =
    let fm = flat_map (piece_of chunks) f.pieces in
    let tail = text_of chunks (f.rest ++ more) in
    ap (λ l. l ++ tail) f.text_is ∙ append_assoc head fm tail
    ∙ ap (λ l. head ++ l) (sym (texts_behind chunks f.pieces (f.rest ++ more) f.whole)
    ∙ ap (text_of chunks) (sym (append_assoc (concat f.pieces) f.rest more) ∙ ap (λ l. l ++ more) (sym f.data_is)))
