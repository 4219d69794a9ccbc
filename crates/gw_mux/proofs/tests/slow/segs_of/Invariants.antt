use Rattle.std.proofs.Common.{All, ◌<◌, length}
use Rattle.gw_mux.proofs.tests.slow.segs_of.Given as goal

abbrev pub invariant-loop-part : goal.invariant-loop-part
invariant-loop-part l = All (λ part. 0 < length part) l.segs.items
