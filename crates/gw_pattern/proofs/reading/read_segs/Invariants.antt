use Rattle.std.proofs.Common.{◌≡◌, ◌+◌, [], length}
use Rattle.gw_pattern.specs.Path.{parts_of}
use Rattle.gw_pattern.specs.Text.{segs_said}
use Rattle.gw_pattern.proofs.reading.read_segs.Given as goal

abbrev pub invariant-loop-segs : goal.invariant-loop-segs
invariant-loop-segs l =
    (segs_said l.at l.segs.items (parts_of l.left) ≡ segs_said l.start [] (parts_of l.tail)) × (l.at + length l.left ≡ l.start + length l.tail)

abbrev pub decreases-loop-segs : goal.decreases-loop-segs
decreases-loop-segs l = length l.left
