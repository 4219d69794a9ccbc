use Rattle.gw_chunk.proofs.Advancing.{Reached}
use Rattle.gw_chunk.proofs.decoder.walk.Given as goal

abbrev pub invariant-loop-i : goal.invariant-loop-i
invariant-loop-i l = Reached l.fn.position l.piece l.i l.at
