use Rattle.std.proofs.Common.{◌≡◌, ◌+◌, ◌<◌, ◌^◌, ◌-◌, drop, length, map, min}
use Rattle.gw_fields.specs.Lines.{pair_of}
use Rattle.gw_fields.specs.Order.{lines_of}
use Rattle.gw_fields.proofs.lines.Lines.text_len.Given as goal

-- the length so far and that of the lines still to come
abbrev pub invariant-loop-line : goal.invariant-loop-line
invariant-loop-line l =
    (min (l.len + length (lines_of (map pair_of (drop l.line-index l.line-items)))) (2 ^ 64 - 1)
    ≡ min (length (lines_of (map pair_of l.line-items))) (2 ^ 64 - 1))
    × (l.len < 2 ^ 64)
