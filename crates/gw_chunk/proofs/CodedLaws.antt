-- What the encoder writes is a chunked text.
use Rattle.std.proofs.Common.{◌≡◌, ℕ, zero, suc, ◌+◌, ◌<◌, ◌≤◌, List, [], ◌∷◌, ◌++◌, length, map, take, drop, refl, sym, ap, ◌∙◌, subst, arith, lit≤, lit<, ⊎_elim}
use Rattle.std.proofs.lemmas.List.{append-nil, append_assoc, length-append, length-map, length-take, length-drop, take-append-drop, take_all, drop_all, take_at, drop_at}
use Rattle.std.proofs.lemmas.Str.{digit_value-digit_char}
use Rattle.std.proofs.lemmas.Int.Digits.{digits_value_is, number_digits_of, all_below_base_digits_of}
use Rattle.std.specs.Prelude.{codes}
use Rattle.std.specs.Char.{digit_char, digit_value}
use Rattle.std.specs.Int.Digits.{digits_of, number_from_digits, AllBelowBase}
use Rattle.std.specs.List.{concat, flat_map}
use Rattle.std.specs.Str.Parse.{AllDigits}
use Rattle.gw_chunk.specs.Bytes.{crlf}
use Rattle.gw_chunk.specs.Chunked.{IsChunkLine, Chunk, AreChunks, texts_of, contents_of, IsLast, IsChunked, data_limit, piece_limit, size_text, coded_piece, coded_end, pieces_within, pieces_of, coded}
use Rattle.gw_chunk.specs.Laws.{ArePieces, AreCut}
use Rattle.gw_chunk.proofs.Sizes.{digits_step, four_digits}
use Rattle.gw_chunk.proofs.TextLaws.{no_text_begins_another, fronts}

-- ---- sizes

values_of_chars : (ds : List ℕ) → AllBelowBase 16 ds → map digit_value (map digit_char ds) ≡ ds
values_of_chars [] h = refl
values_of_chars (d ∷ ds) h =
    ap (λ x. x ∷ map digit_value (map digit_char ds)) (digit_value-digit_char d (omega (arith, h.0))) ∙ ap (λ r. d ∷ r) (values_of_chars ds h.1)

chars_are_digits : (ds : List ℕ) → AllBelowBase 16 ds → AllDigits 16 (map digit_char ds)
chars_are_digits [] h = tt
chars_are_digits (d ∷ ds) h =
    let value = digit_value-digit_char d (omega (arith, h.0)) in
    let below = h.0 in
    (omega arith, chars_are_digits ds h.1)

size_line : (n : ℕ) → 0 < n → n ≤ 8192 → IsChunkLine (size_text n ++ crlf) n
size_line n some most =
    let below = all_below_base_digits_of 16 n (lit≤ tt) in
    let many = digits_step n some in
    let few = four_digits n most in
    let long = length-map (digits_of 16 n) digit_char in
    let line_long = length-append (size_text n) crlf in
    record {
      digits = size_text n;
      blanks = [];
      extension = [];
      text = refl;
      is_numeral = (omega arith, chars_are_digits (digits_of 16 n) below);
      are_blanks = refl;
      is_extension = tt;
      is_size = sym (digits_value_is 16 (size_text n) ∙ ap (number_from_digits 16) (values_of_chars (digits_of 16 n) below)
          ∙ number_digits_of 16 n (lit≤ tt));
      short = omega arith;
    }

zero_line : IsChunkLine (codes "0" ++ crlf) 0
zero_line = record {
  digits = codes "0";
  blanks = [];
  extension = [];
  text = refl;
  is_numeral = (lit< tt, (lit< tt, tt));
  are_blanks = refl;
  is_extension = tt;
  is_size = refl;
  short = lit≤ tt;
}

end_is_last : IsLast coded_end
end_is_last = record {
  line = codes "0" ++ crlf;
  section = crlf;
  text = refl;
  is_line = zero_line;
  is_section = record { lines = []; text = refl; are_fields = tt; short = lit≤ tt };
}

-- ---- pieces

abbrev chunks_of : List (List ℕ) → List Chunk
chunks_of [] = []
chunks_of (piece ∷ pieces) = record { line = size_text (length piece) ++ crlf; content = piece } ∷ chunks_of pieces

chunks_good : (sum : ℕ) (pieces : List (List ℕ)) → ArePieces pieces → sum + length (concat pieces) ≤ data_limit → AreChunks sum (chunks_of pieces)
chunks_good sum [] h small = tt
chunks_good sum (piece ∷ pieces) h small =
    let long = length-append piece (concat pieces) in
    let most = h.1 in (
      record {
        some = h.0;
        is_line = size_line (length piece) h.0 h.1;
        is_allowed = record { alone = omega arith; together = omega arith };
      },
      chunks_good (sum + length piece) pieces h.2 (omega arith),
    )

chunks_text : (pieces : List (List ℕ)) → texts_of (chunks_of pieces) ≡ flat_map coded_piece pieces
chunks_text [] = refl
chunks_text (piece ∷ pieces) =
    let line = size_text (length piece) ++ crlf in
    ap (λ t. t ++ texts_of (chunks_of pieces)) (sym (append_assoc line piece crlf))
    ∙ ap (λ r. coded_piece piece ++ r) (chunks_text pieces)

chunks_data : (pieces : List (List ℕ)) → contents_of (chunks_of pieces) ≡ concat pieces
chunks_data [] = refl
chunks_data (piece ∷ pieces) = ap (λ r. piece ++ r) (chunks_data pieces)

pub pieces_are_chunked : (pieces : List (List ℕ)) → ArePieces pieces → length (concat pieces) ≤ data_limit
    → IsChunked (flat_map coded_piece pieces ++ coded_end) (concat pieces)
pieces_are_chunked pieces h small = record {
  chunks = chunks_of pieces;
  last = coded_end;
  text = ap (λ t. t ++ coded_end) (sym (chunks_text pieces));
  are_chunks = chunks_good 0 pieces h (omega arith);
  is_last = end_is_last;
  is_data = sym (chunks_data pieces);
}

-- ---- whole data

cut_good : (turns : ℕ) (d : List ℕ) → ArePieces (pieces_within turns d)
cut_good zero d = tt
cut_good (suc turns) [] = tt
cut_good (suc turns) (b ∷ d) =
    let size = length-take piece_limit (b ∷ d) in
    (omega arith, omega arith, cut_good turns (drop piece_limit (b ∷ d)))

cut_joined : (turns : ℕ) (d : List ℕ) → length d ≤ turns → concat (pieces_within turns d) ≡ d
cut_joined zero [] h = refl
cut_joined zero (b ∷ d) h = absurd (omega arith)
cut_joined (suc turns) [] h = refl
cut_joined (suc turns) (b ∷ d) h =
    let size = length-drop piece_limit (b ∷ d) in
    ap (λ r. take piece_limit (b ∷ d) ++ r) (cut_joined turns (drop piece_limit (b ∷ d)) (omega arith))
    ∙ take-append-drop piece_limit (b ∷ d)

-- ---- cut as the encoder wants it

none_left : (turns : ℕ) → pieces_within turns [] ≡ []
none_left zero = refl
none_left (suc turns) = refl

one_piece : (turns : ℕ) (piece : List ℕ) → 0 < length piece → length piece ≤ piece_limit → length piece ≤ turns
    → pieces_within turns piece ≡ piece ∷ []
one_piece turns [] some most enough = absurd (omega arith)
one_piece zero (b ∷ piece) some most enough = absurd (omega arith)
one_piece (suc turns) (b ∷ piece) some most enough =
    ap (λ front. front ∷ pieces_within turns (drop piece_limit (b ∷ piece))) (take_all piece_limit (b ∷ piece) most)
    ∙ ap (λ back. (b ∷ piece) ∷ pieces_within turns back) (drop_all piece_limit (b ∷ piece) most)
    ∙ ap (λ r. (b ∷ piece) ∷ r) (none_left turns)

whole_piece : (turns : ℕ) (piece rest : List ℕ) → length piece ≡ piece_limit → pieces_within (suc turns) (piece ++ rest) ≡ piece ∷ pieces_within turns rest
whole_piece turns [] rest long = absurd (omega arith)
whole_piece turns (b ∷ piece) rest long =
    ap (λ front. front ∷ pieces_within turns (drop piece_limit ((b ∷ piece) ++ rest))) (take_at (b ∷ piece) rest piece_limit long)
    ∙ ap (λ back. (b ∷ piece) ∷ pieces_within turns back) (drop_at (b ∷ piece) rest piece_limit long)

cut_again : (pieces : List (List ℕ)) (turns : ℕ) → AreCut pieces → length (concat pieces) ≤ turns → pieces_within turns (concat pieces) ≡ pieces
cut_again [] turns h enough = none_left turns
cut_again (piece ∷ []) turns h enough =
    let size = length-append piece [] in
    ap (pieces_within turns) (append-nil piece) ∙ one_piece turns piece h.0 h.1 (omega arith)
cut_again (piece ∷ next ∷ pieces) zero h enough =
    let size = length-append piece (concat (next ∷ pieces)) in
    let long = h.0 in
    absurd (omega arith)
cut_again (piece ∷ next ∷ pieces) (suc turns) h enough =
    let size = length-append piece (concat (next ∷ pieces)) in
    let long = h.0 in
    whole_piece turns piece (concat (next ∷ pieces)) long
    ∙ ap (λ r. piece ∷ r) (cut_again (next ∷ pieces) turns h.1 (omega arith))

pub cuts_are_coded : (pieces : List (List ℕ)) → AreCut pieces → coded (concat pieces) ≡ flat_map coded_piece pieces ++ coded_end
cuts_are_coded pieces h =
    ap (λ cut. flat_map coded_piece cut ++ coded_end) (cut_again pieces (length (concat pieces)) h (omega arith))

pieces_more : (turns more : ℕ) (d : List ℕ) → length d ≤ turns → turns ≤ more → pieces_within more d ≡ pieces_within turns d
pieces_more zero zero [] few some = refl
pieces_more zero (suc more) [] few some = refl
pieces_more zero more (b ∷ d) few some = absurd (omega arith)
pieces_more (suc turns) zero d few some = absurd (omega arith)
pieces_more (suc turns) (suc more) [] few some = refl
pieces_more (suc turns) (suc more) (b ∷ d) few some =
    let size = length-drop piece_limit (b ∷ d) in
    ap (λ l. take piece_limit (b ∷ d) ∷ l) (pieces_more turns more (drop piece_limit (b ∷ d)) (omega arith) (omega arith))

pub coded_front : (d : List ℕ) → 0 < length d → coded d ≡ coded_piece (take piece_limit d) ++ coded (drop piece_limit d)
coded_front [] some = absurd (omega arith)
coded_front (b ∷ d) some =
    let size = length-drop piece_limit (b ∷ d) in
    ap (λ l. flat_map coded_piece (take piece_limit (b ∷ d) ∷ l) ++ coded_end)
    (pieces_more (length (drop piece_limit (b ∷ d))) (length d) (drop piece_limit (b ∷ d)) (omega arith) (omega arith))
    ∙ append_assoc (coded_piece (take piece_limit (b ∷ d))) (flat_map coded_piece (pieces_of (drop piece_limit (b ∷ d)))) coded_end

-- ---- read again

pub coded_is_chunked : (d : List ℕ) → length d ≤ data_limit → IsChunked (coded d) d
coded_is_chunked d small =
    let same = cut_joined (length d) d (omega arith) in
    let C : List ℕ → Type 0 = λ e. IsChunked (coded d) e in
    let size = ap length same in
    subst C same (pieces_are_chunked (pieces_of d) (cut_good (length d) d) (omega arith))

pub coded_alone : (d rest text more e : List ℕ) → length d ≤ data_limit → coded d ++ rest ≡ text ++ more → IsChunked text e
    → (text ≡ coded d) × (more ≡ rest) × (e ≡ d)
coded_alone d rest text more e small same is_text =
    let own = coded_is_chunked d small in
    ⊎_elim
    (λ w. (let C : List ℕ → Type 0 = λ l. IsChunked l d in
    let once = no_text_begins_another text w.0 e d is_text (subst C w.1 own) in
    (sym (w.1 ∙ ap (λ m. text ++ m) once.0 ∙ append-nil text), w.2 ∙ ap (λ m. m ++ rest) once.0, once.1)))
    (λ w. (let C : List ℕ → Type 0 = λ l. IsChunked l e in
    let once = no_text_begins_another (coded d) w.0 d e own (subst C w.1 is_text) in
    (w.1 ∙ ap (λ m. coded d ++ m) once.0 ∙ append-nil (coded d), sym (w.2 ∙ ap (λ m. m ++ more) once.0), sym once.1)))
    (fronts (coded d) rest text more same)
