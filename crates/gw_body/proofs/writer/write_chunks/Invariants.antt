use Rattle.std.proofs.Common.{◌≡◌, ◌++◌, length}
use Rattle.gw_chunk.specs.Chunked.{coded}
use Rattle.gw_fields.specs.Lines.{StartsWith}
use Rattle.gw_body.proofs.writer.write_chunks.Given as goal

-- what was written, and what is still to be written
abbrev pub invariant-loop-rest : goal.invariant-loop-rest
invariant-loop-rest l =
    (l.out.items ++ coded l.rest ≡ l.initial.out.items ++ coded l.content) × StartsWith l.initial.out.items l.out.items

abbrev pub decreases-loop-rest : goal.decreases-loop-rest
decreases-loop-rest l = length l.rest
