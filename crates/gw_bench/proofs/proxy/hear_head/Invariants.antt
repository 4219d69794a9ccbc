use Rattle.std.proofs.Common.{◌≡◌, ◌≤◌, false}
use Rattle.gw_bench.proofs.proxy.hear_head.Given as goal

abbrev pub invariant-loop-piece : goal.invariant-loop-piece
invariant-loop-piece g l =
    ((g.W.Wire.wire l.wire).aged ≡ false)
    × ((g.G.Guard.guard l.guard).last ≤ (g.W.Wire.wire l.wire).moment)
