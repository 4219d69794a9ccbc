use Rattle.std.proofs.Common.{◌≡◌, ◌++◌, drop, map}
use Rattle.gw_fields.specs.Lines.{pair_of, StartsWith}
use Rattle.gw_fields.specs.Order.{lines_of}
use Rattle.gw_fields.proofs.lines.Lines.write.Given as goal

-- what was written, and what is still to be written
abbrev pub invariant-loop-line : goal.invariant-loop-line
invariant-loop-line l =
    (l.out.items ++ lines_of (map pair_of (drop l.line-index l.line-items))
    ≡ l.initial.out.items ++ lines_of (map pair_of l.line-items))
    × StartsWith l.initial.out.items l.out.items
