-- What was read of a body before it is whole, over whole byte lists (RFC 9112, section 6.3).
use Rattle.std.specs.Prelude.{◌≡◌, ℕ, ◌<◌, ◌≤◌, List, length}
use Rattle.gw_chunk.specs.Chunked.{data_limit}
use Rattle.gw_chunk.specs.Part as Chunks
use Rattle.gw_head.specs.declared.framing.Framing.{Framing}
use Rattle.gw_head.specs.declared.framing.Framing.TheVariants.{None as NoBody, Length, Chunked, ToEnd}

-- the bytes are a part of a body of the framing, with this data among them: neither its end nor a fault has come
abbrev pub IsPart : Framing → List ℕ → List ℕ → Type 0
IsPart NoBody bytes d = ⊥
IsPart (Length n) bytes d = (bytes ≡ d) × (length d < n)
IsPart Chunked bytes d = Chunks.IsPart bytes d
IsPart ToEnd bytes d = (bytes ≡ d) × (length d ≤ data_limit)
