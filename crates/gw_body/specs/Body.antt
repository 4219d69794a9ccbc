-- Bodies over whole byte lists (RFC 9112, section 6.3): what stands behind a head is a body of its framing and what
-- follows it.
use Rattle.std.specs.Prelude.{◌≡◌, ℕ, ◌<◌, ◌≤◌, List, [], ◌++◌, length}
use Rattle.gw_chunk.specs.declared.error.ChunkError.{ChunkError}
use Rattle.gw_chunk.specs.declared.error.ChunkError.TheVariants.{TooLarge}
use Rattle.gw_chunk.specs.Chunked.{IsChunked, BadChunk, data_limit}
use Rattle.gw_head.specs.declared.framing.Framing.{Framing}
use Rattle.gw_head.specs.declared.framing.Framing.TheVariants.{None as NoBody, Length, Chunked, ToEnd}

-- the bytes are a body of the framing, with this data, and then the rest; nothing follows a body up to the link's end
abbrev pub BodyOf : Framing → List ℕ → List ℕ → List ℕ → Type 0
BodyOf NoBody bytes d rest = (bytes ≡ rest) × (d ≡ [])
BodyOf (Length n) bytes d rest = (bytes ≡ d ++ rest) × (length d ≡ n)
BodyOf Chunked bytes d rest = (text : List ℕ) × (bytes ≡ text ++ rest) × IsChunked text d
BodyOf ToEnd bytes d rest = (bytes ≡ d) × (rest ≡ []) × (length d ≤ data_limit)

-- the bytes have the fault: one of a chunked text, or a byte beyond the most data that a body has
abbrev pub BadBody : Framing → List ℕ → ChunkError → Type 0
BadBody NoBody bytes error = ⊥
BadBody (Length n) bytes error = ⊥
BadBody Chunked bytes error = BadChunk bytes error
BadBody ToEnd bytes error = (error ≡ TooLarge) × (data_limit < length bytes)
