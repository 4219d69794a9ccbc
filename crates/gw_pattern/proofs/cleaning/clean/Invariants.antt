use Rattle.std.proofs.Common.{◌≡◌, [], fold}
use Rattle.gw_pattern.specs.Path.{parts_of}
use Rattle.gw_pattern.specs.Walk.{with_part_bytes, parts_left, bytes_left}
use Rattle.gw_pattern.proofs.cleaning.clean.Given as goal

abbrev pub invariant-loop-left : goal.invariant-loop-left
invariant-loop-left l =
    fold with_part_bytes l.clean.items (parts_left l.left) ≡ fold with_part_bytes [] (parts_of l.path)

abbrev pub decreases-loop-left : goal.decreases-loop-left
decreases-loop-left l = bytes_left l.left
