-- Chunked coding as a grammar over whole texts, with this decoder's limits, and the places where a text breaks it
-- (RFC 9112, sections 7.1, 7.1.1 and 7.1.2).
use Rattle.std.specs.Prelude.{◌≡◌, ◌≢◌, ℕ, zero, suc, ◌+◌, ◌^◌, ◌<◌, ◌≤◌, ◌⊎◌, List, [], ◌∷◌, ◌++◌, length, map, take, drop, codes, true}
use Rattle.std.specs.Char.{digit_char}
use Rattle.std.specs.Int.Digits.{digits_of}
use Rattle.std.specs.List.{list_all, flat_map, concat}
use Rattle.std.specs.Str.Parse.{IsNumeral, digits_value}
use Rattle.gw_chunk.specs.declared.error.ChunkError.{ChunkError}
use Rattle.gw_chunk.specs.declared.error.ChunkError.TheVariants.{BadLine, LineTooLong, TooLarge, DataEnd, Trailer}
use Rattle.gw_chunk.specs.Bytes.{line_feed, colon, semicolon, crlf, is_blank, is_extension_byte, is_token_byte, is_value_byte}

-- the most bytes that a chunk line and a trailer section have, with their CRLF
abbrev pub line_limit : ℕ
line_limit = 4096

abbrev pub section_limit : ℕ
section_limit = 65536

-- a chunk's size is below this
abbrev pub size_limit : ℕ
size_limit = 2 ^ 48

-- the most bytes of data that a text has
abbrev pub data_limit : ℕ
data_limit = 2 ^ 62

-- ---- the texts

-- nothing, or `;` and any bytes but CR and LF
abbrev pub IsExtension : List ℕ → Type 0
IsExtension [] = Unit {0}
IsExtension (b ∷ bytes) = (b ≡ semicolon) × (list_all is_extension_byte bytes ≡ true)

-- the line that says a size: hexadecimal digits, spaces or tabs, an extension, CRLF
pub record IsChunkLine (line : List ℕ) (size : ℕ) : Type 0 where
  pub digits : List ℕ
  pub blanks : List ℕ
  pub extension : List ℕ
  pub text : line ≡ digits ++ (blanks ++ (extension ++ crlf))
  pub is_numeral : IsNumeral 16 digits
  pub are_blanks : list_all is_blank blanks ≡ true
  pub is_extension : IsExtension extension
  pub is_size : size ≡ digits_value 16 digits
  pub short : length line ≤ line_limit

-- a chunk of this size is allowed behind so many bytes of data
pub record IsAllowed (sum size : ℕ) : Type 0 where
  pub alone : size < size_limit
  pub together : sum + size ≤ data_limit

-- a chunk that isn't the last: its line and its data
pub record Chunk : Type 0 where
  pub line : List ℕ
  pub content : List ℕ

abbrev pub text_of : Chunk → List ℕ
text_of chunk = chunk.line ++ (chunk.content ++ crlf)

abbrev pub content_of : Chunk → List ℕ
content_of chunk = chunk.content

-- it is well formed, behind so many bytes of data
pub record IsChunk (sum : ℕ) (chunk : Chunk) : Type 0 where
  pub some : 0 < length chunk.content
  pub is_line : IsChunkLine chunk.line (length chunk.content)
  pub is_allowed : IsAllowed sum (length chunk.content)

-- the same of chunks that follow one another
abbrev pub AreChunks : ℕ → List Chunk → Type 0
AreChunks sum [] = Unit {0}
AreChunks sum (chunk ∷ chunks) = IsChunk sum chunk × AreChunks (sum + length chunk.content) chunks

abbrev pub texts_of : List Chunk → List ℕ
texts_of chunks = flat_map text_of chunks

abbrev pub contents_of : List Chunk → List ℕ
contents_of chunks = flat_map content_of chunks

-- a field of the trailer section: a token, `:`, a value, CRLF
pub record IsFieldLine (line : List ℕ) : Type 0 where
  pub name : List ℕ
  pub value : List ℕ
  pub text : line ≡ name ++ colon ∷ (value ++ crlf)
  pub some : 0 < length name
  pub is_token : list_all is_token_byte name ≡ true
  pub is_value : list_all is_value_byte value ≡ true

abbrev pub AreFieldLines : List (List ℕ) → Type 0
AreFieldLines [] = Unit {0}
AreFieldLines (line ∷ lines) = IsFieldLine line × AreFieldLines lines

-- the trailer section: field lines and an empty line
pub record IsSection (section : List ℕ) : Type 0 where
  pub lines : List (List ℕ)
  pub text : section ≡ concat lines ++ crlf
  pub are_fields : AreFieldLines lines
  pub short : length section ≤ section_limit

-- the last chunk, of size 0, and the trailer section
pub record IsLast (bytes : List ℕ) : Type 0 where
  pub line : List ℕ
  pub section : List ℕ
  pub text : bytes ≡ line ++ section
  pub is_line : IsChunkLine line 0
  pub is_section : IsSection section

-- the bytes are one chunked text, with this data
pub record IsChunked (bytes d : List ℕ) : Type 0 where
  pub chunks : List Chunk
  pub last : List ℕ
  pub text : bytes ≡ texts_of chunks ++ last
  pub are_chunks : AreChunks 0 chunks
  pub is_last : IsLast last
  pub is_data : d ≡ contents_of chunks

-- ---- the faults

-- there is no LF
abbrev pub NoFeed : List ℕ → Type 0
NoFeed [] = Unit {0}
NoFeed (b ∷ bytes) = (b ≢ line_feed) × NoFeed bytes

-- one LF, at the end
pub record IsLine (line : List ℕ) : Type 0 where
  pub inner : List ℕ
  pub text : line ≡ inner ++ line_feed ∷ []
  pub no_feed : NoFeed inner

-- a trailer section breaks with the last of these bytes: a line isn't of the form, or there is no end within the limit
pub record BreaksSection (bytes : List ℕ) : Type 0 where
  pub lines : List (List ℕ)
  pub last : List ℕ
  pub text : bytes ≡ concat lines ++ last
  pub are_fields : AreFieldLines lines
  pub cause : (IsLine last × (last ≢ crlf) × (IsFieldLine last → ⊥) × (length bytes ≤ section_limit))
      ⊎ (NoFeed last × (length bytes ≡ section_limit))

-- the data of a chunk is followed by two bytes other than CRLF
pub record BreaksDataEnd (sum : ℕ) (bytes : List ℕ) : Type 0 where
  pub chunk : Chunk
  pub two : List ℕ
  pub text : bytes ≡ chunk.line ++ (chunk.content ++ two)
  pub is_chunk : IsChunk sum chunk
  pub are_two : length two ≡ 2
  pub not_crlf : two ≢ crlf

-- the last chunk's trailer section breaks
pub record BreaksLast (bytes : List ℕ) : Type 0 where
  pub line : List ℕ
  pub section : List ℕ
  pub text : bytes ≡ line ++ section
  pub is_line : IsChunkLine line 0
  pub breaks : BreaksSection section

-- the bytes, which stand where a chunk must begin behind so many bytes of data, break with the last of them
abbrev pub Breaks : ℕ → List ℕ → ChunkError → Type 0
Breaks sum bytes BadLine =
    IsLine bytes × (length bytes ≤ line_limit) × ((size : ℕ) → IsChunkLine bytes size → ⊥)
Breaks sum bytes LineTooLong = NoFeed bytes × (length bytes ≡ line_limit)
Breaks sum bytes TooLarge = (size : ℕ) × IsChunkLine bytes size × (IsAllowed sum size → ⊥)
Breaks sum bytes DataEnd = BreaksDataEnd sum bytes
Breaks sum bytes Trailer = BreaksLast bytes

-- the fault is decided with the last of the bytes
pub record BreaksAtEnd (bytes : List ℕ) (error : ChunkError) : Type 0 where
  pub chunks : List Chunk
  pub fault : List ℕ
  pub text : bytes ≡ texts_of chunks ++ fault
  pub are_chunks : AreChunks 0 chunks
  pub breaks : Breaks (length (contents_of chunks)) fault error

-- the bytes have the fault, whatever follows the place where it is decided
pub record BadChunk (bytes : List ℕ) (error : ChunkError) : Type 0 where
  pub front : List ℕ
  pub rest : List ℕ
  pub text : bytes ≡ front ++ rest
  pub breaks : BreaksAtEnd front error

-- ---- the encoder's text, one of the spellings of its data

-- the most bytes of data that a written chunk has
abbrev pub piece_limit : ℕ
piece_limit = 8192

-- lower-case hexadecimal digits, without leading zeros
abbrev pub size_text : ℕ → List ℕ
size_text size = map digit_char (digits_of 16 size)

-- a chunk with these bytes of data
abbrev pub coded_piece : List ℕ → List ℕ
coded_piece bytes = ((size_text (length bytes) ++ crlf) ++ bytes) ++ crlf

-- the last chunk and an empty trailer section
abbrev pub coded_end : List ℕ
coded_end = (codes "0" ++ crlf) ++ crlf

-- the data in pieces of the limit, and a last one of the rest if there is a rest; so many turns at most
abbrev pub pieces_within : ℕ → List ℕ → List (List ℕ)
pieces_within zero d = []
pieces_within (suc turns) [] = []
pieces_within (suc turns) (b ∷ d) = take piece_limit (b ∷ d) ∷ pieces_within turns (drop piece_limit (b ∷ d))

abbrev pub pieces_of : List ℕ → List (List ℕ)
pieces_of d = pieces_within (length d) d

-- the text of the data
abbrev pub coded : List ℕ → List ℕ
coded d = flat_map coded_piece (pieces_of d) ++ coded_end
