use Rattle.std.proofs.Common.{◌≡◌, ◌++◌, drop}
use Rattle.gw_fields.specs.Lines.{StartsWith}
use Rattle.gw_fields.specs.Order.{spelled, spelled_from}
use Rattle.gw_fields.proofs.lines.write_name.Given as goal

-- what was written, and what is still to be written
abbrev pub invariant-loop-byte : goal.invariant-loop-byte
invariant-loop-byte l =
    (l.out.items ++ spelled_from l.starts (drop l.byte-index l.name) ≡ l.initial.out.items ++ spelled l.name)
    × StartsWith l.initial.out.items l.out.items
