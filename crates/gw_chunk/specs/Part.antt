-- What was read of a chunked text before it is whole.
use Rattle.std.specs.Prelude.{◌≡◌, ℕ, ◌<◌, ◌≤◌, ◌⊎◌, List, [], ◌++◌, length}
use Rattle.gw_chunk.specs.declared.error.ChunkError.{ChunkError}
use Rattle.gw_chunk.specs.Chunked.{IsChunkLine, IsAllowed, Chunk, AreChunks, texts_of, contents_of, NoFeed, IsChunked, BadChunk}

-- the line of a chunk, some of its data, and behind all of it one byte at most
pub record BeginsContent (sum : ℕ) (bytes content : List ℕ) : Type 0 where
  pub line : List ℕ
  pub size : ℕ
  pub behind : List ℕ
  pub text : bytes ≡ line ++ (content ++ behind)
  pub is_line : IsChunkLine line size
  pub some : 0 < size
  pub is_allowed : IsAllowed sum size
  pub cut : ((behind ≡ []) × (length content ≤ size)) ⊎ ((length behind ≡ 1) × (length content ≡ size))

-- the line of the last chunk and what follows it
pub record BeginsLast (bytes : List ℕ) : Type 0 where
  pub line : List ℕ
  pub section : List ℕ
  pub text : bytes ≡ line ++ section
  pub is_line : IsChunkLine line 0

-- the bytes stand where a chunk must begin behind so many bytes of data, they aren't a whole one, and this is the data
-- among them: they are in its line, in its data, or in the last chunk
abbrev pub Begins : ℕ → List ℕ → List ℕ → Type 0
Begins sum bytes content =
    (NoFeed bytes × (content ≡ [])) ⊎ (BeginsContent sum bytes content ⊎ (BeginsLast bytes × (content ≡ [])))

-- the bytes are a part of a chunked text, with this data among them: neither its end nor a fault has come
pub record IsPart (bytes d : List ℕ) : Type 0 where
  pub chunks : List Chunk
  pub begun : List ℕ
  pub content : List ℕ
  pub text : bytes ≡ texts_of chunks ++ begun
  pub are_chunks : AreChunks 0 chunks
  pub begins : Begins (length (contents_of chunks)) begun content
  pub is_data : d ≡ contents_of chunks ++ content
  pub no_end : (front more e : List ℕ) → bytes ≡ front ++ more → IsChunked front e → ⊥
  pub no_fault : (error : ChunkError) → BadChunk bytes error → ⊥
