use Rattle.std.proofs.Common.{◌≡◌, drop}
use Rattle.gw_sets.specs.Comparison.{matches_segs}
use Rattle.gw_sets.proofs.matching.matches_segs.Given as goal

abbrev pub invariant-loop-seg : goal.invariant-loop-seg
invariant-loop-seg l = matches_segs (drop l.seg-index l.segs) l.left l.slash ≡ matches_segs l.segs l.parts l.slash
