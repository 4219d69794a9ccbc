-- The codes that the errors are printed as.
use Rattle.std.specs.Prelude.{ℕ, List, codes}
use Rattle.gw_chunk.specs.declared.error.ChunkError.{ChunkError}
use Rattle.gw_chunk.specs.declared.error.ChunkError.TheVariants.{BadLine, LineTooLong, TooLarge, DataEnd, Trailer}

abbrev pub code_text : ChunkError → List ℕ
code_text BadLine = codes "C1"
code_text LineTooLong = codes "C2"
code_text TooLarge = codes "C3"
code_text DataEnd = codes "C4"
code_text Trailer = codes "C5"
