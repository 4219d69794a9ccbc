use Rattle.std.proofs.Common.{◌≡◌, ◌++◌, drop, map}
use Rattle.gw_fields.specs.Fields.{pair_of}
use Rattle.gw_fields.proofs.fields.Fields.lines.Given as goal

-- what there is, and what is still to come
abbrev pub invariant-loop-name : goal.invariant-loop-name
invariant-loop-name l = l.lines ++ map pair_of (drop l.name-index l.name-items) ≡ map pair_of l.name-items
