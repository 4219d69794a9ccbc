use Rattle.std.proofs.Common.{◌≡◌, drop}
use Rattle.gw_sets.specs.Comparison.{product, relation_of_segs}
use Rattle.gw_sets.proofs.comparison.relate_segs.Given as goal

-- what the relation so far, and that of the segments that are left, make of the whole
abbrev pub invariant-loop-s : goal.invariant-loop-s
invariant-loop-s l = product l.relation (relation_of_segs (drop l.s-index l.p) l.left) ≡ relation_of_segs l.p l.q
