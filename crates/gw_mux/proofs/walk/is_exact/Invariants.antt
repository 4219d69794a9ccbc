use Rattle.std.proofs.Common.{◌≡◌, drop}
use Rattle.gw_mux.specs.Request.{is_exact}
use Rattle.gw_mux.specs.Walk.{segments_in}
use Rattle.gw_mux.proofs.walk.is_exact.Given as goal

abbrev pub invariant-loop-seg : goal.invariant-loop-seg
invariant-loop-seg l = is_exact (drop l.seg-index l.segs) (segments_in l.left) ≡ is_exact l.segs (segments_in l.body)
