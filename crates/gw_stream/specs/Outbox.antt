-- What is on its way to a link: text that is ready, and behind it the data of a piece that has begun.
use Rattle.std.specs.Prelude.{ℕ, ◌≤◌, ◌+◌, Bool, true, false, List, [], ◌∷◌, length, take, drop}
use Rattle.gw_chunk.specs.Chunked.{coded_piece, coded_end, piece_limit}

-- the text that is ready, the data of the piece that has begun, whether pieces are chunks, and how much room there is in
-- all
pub record OutView : Type 0 where
  pub text : List ℕ
  pub begun : List ℕ
  pub in_chunks : Bool
  pub size : ℕ

-- what a piece, and what ends a body, is written as (RFC 9112, section 7.1)
abbrev pub piece_of : Bool → List ℕ → List ℕ
piece_of true d = coded_piece d
piece_of false d = d

abbrev pub end_of : Bool → List ℕ
end_of true = coded_end
end_of false = []

-- a last piece, which may have no data and then isn't written
abbrev pub rest_of : Bool → List ℕ → List ℕ
rest_of chunks [] = []
rest_of chunks (b ∷ d) = piece_of chunks (b ∷ d)

-- room for a whole piece with its frame, for the last chunk, and for the gap before one more piece
abbrev pub piece_room : ℕ
piece_room = 8211

abbrev pub out_size : ℕ
out_size = 196608

abbrev pub HasRoom : OutView → Type 0
HasRoom out = length out.text + piece_room ≤ out.size

-- ---- in the buffer: the text at its front, then in chunks a gap for a size, then the data that has begun

abbrev pub gap_of : Bool → ℕ
gap_of true = 6
gap_of false = 0

abbrev pub begun_of : List ℕ → ℕ → ℕ → List ℕ
begun_of buffer at count = take count (drop at buffer)

abbrev pub out_view : List ℕ → ℕ → ℕ → Bool → OutView
out_view buffer done begun chunks = record {
  text = take done buffer;
  begun = begun_of buffer (done + gap_of chunks) begun;
  in_chunks = chunks;
  size = length buffer;
}

pub record HasParts (buffer : List ℕ) (done begun : ℕ) (chunks : Bool) : Type 0 where
  pub most : begun ≤ piece_limit
  pub within : done + (gap_of chunks + begun) ≤ length buffer
