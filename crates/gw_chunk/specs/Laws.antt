-- Laws of chunked texts.
use Rattle.std.specs.Prelude.{◌≡◌, ℕ, ◌<◌, ◌≤◌, ◌↔◌, List, [], ◌∷◌, ◌++◌, length, take, drop, true}
use Rattle.std.specs.List.{concat, flat_map}
use Rattle.gw_chunk.specs.declared.error.ChunkError.{ChunkError}
use Rattle.gw_chunk.specs.declared.position.Position.{Position}
use Rattle.gw_chunk.specs.Chunked.{IsChunked, BreaksAtEnd, BadChunk, data_limit, piece_limit, coded_piece, coded_end, coded}
use Rattle.gw_chunk.specs.Part.{IsPart}
use Rattle.gw_chunk.specs.Position.{first, is_undecided, after, given, Has, Fails}

-- the grammar's texts and their data are those from the first position
abbrev pub TextsFromFirst : Type 0
TextsFromFirst = (bytes d : List ℕ) → IsChunked bytes d ↔ Has first bytes d

-- the grammar's faults are those from the first position
abbrev pub FaultsFromFirst : Type 0
FaultsFromFirst = (bytes : List ℕ) (error : ChunkError) → BadChunk bytes error ↔ Fails first bytes error

-- bytes are undecided from a position exactly where no front of them is the rest of a text, and they have no fault
abbrev pub UndecidedIsNeither : Type 0
UndecidedIsNeither =
    (p : Position) (bytes : List ℕ)
    → (is_undecided (after p bytes) ≡ true)
    ↔ (((front more d : List ℕ) → bytes ≡ front ++ more → Has p front d → ⊥) × ((error : ChunkError) → Fails p bytes error → ⊥))

-- the parts of a text and their data are those that leave the first position undecided
abbrev pub PartsFromFirst : Type 0
PartsFromFirst = (bytes d : List ℕ) → IsPart bytes d ↔ ((is_undecided (after first bytes) ≡ true) × (given first bytes ≡ d))

-- no text is the front of another, and a text has one data
abbrev pub NoTextBeginsAnother : Type 0
NoTextBeginsAnother = (text more d e : List ℕ) → IsChunked text d → IsChunked (text ++ more) e → (more ≡ []) × (d ≡ e)

-- bytes that begin with a text have no fault
abbrev pub NoFaultInText : Type 0
NoFaultInText = (text more d : List ℕ) (error : ChunkError) → IsChunked text d → BadChunk (text ++ more) error → ⊥

-- before its last byte a fault isn't decided, nor is there another
abbrev pub OneFault : Type 0
OneFault =
    (front more : List ℕ) (error other : ChunkError)
    → BreaksAtEnd (front ++ more) error → BadChunk front other → (more ≡ []) × (error ≡ other)

-- each has 1 byte at least, and as many as a written chunk may have at most
abbrev pub ArePieces : List (List ℕ) → Type 0
ArePieces [] = Unit {0}
ArePieces (piece ∷ pieces) = (0 < length piece) × (length piece ≤ piece_limit) × ArePieces pieces

-- what the encoder writes of any pieces, up to the limit, is a text with them as its data
abbrev pub PiecesAreChunked : Type 0
PiecesAreChunked =
    (pieces : List (List ℕ)) → ArePieces pieces → length (concat pieces) ≤ data_limit
    → IsChunked (flat_map coded_piece pieces ++ coded_end) (concat pieces)

-- each but the last has as many bytes as a written chunk may have, and the last has 1 at least and no more
abbrev pub AreCut : List (List ℕ) → Type 0
AreCut [] = Unit {0}
AreCut (piece ∷ []) = (0 < length piece) × (length piece ≤ piece_limit)
AreCut (piece ∷ next ∷ pieces) = (length piece ≡ piece_limit) × AreCut (next ∷ pieces)

-- the text of data is what is written of such pieces of it
abbrev pub CutsAreCoded : Type 0
CutsAreCoded = (pieces : List (List ℕ)) → AreCut pieces → coded (concat pieces) ≡ flat_map coded_piece pieces ++ coded_end

-- it begins with a chunk of its first piece, and goes on with the text of the rest
abbrev pub CodedGoesOn : Type 0
CodedGoesOn = (d : List ℕ) → 0 < length d → coded d ≡ coded_piece (take piece_limit d) ++ coded (drop piece_limit d)

-- the encoder's text of data, up to the limit, is a text with that data; and whatever follows it, no other text
-- stands at the front
abbrev pub CodedIsChunked : Type 0
CodedIsChunked = (d : List ℕ) → length d ≤ data_limit → IsChunked (coded d) d

abbrev pub CodedIsReadAlone : Type 0
CodedIsReadAlone =
    (d rest text more e : List ℕ) → length d ≤ data_limit → coded d ++ rest ≡ text ++ more → IsChunked text e
    → (text ≡ coded d) × (more ≡ rest) × (e ≡ d)
