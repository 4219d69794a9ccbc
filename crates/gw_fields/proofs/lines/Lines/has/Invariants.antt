use Rattle.std.proofs.Common.{◌≡◌, drop, map}
use Rattle.gw_fields.specs.Lines.{has_field, pair_of}
use Rattle.gw_fields.proofs.lines.Lines.has.Given as goal

-- no line so far has the name
abbrev pub invariant-loop-line : goal.invariant-loop-line
invariant-loop-line l =
    has_field l.name (map pair_of (drop l.line-index l.line-items)) ≡ has_field l.name (map pair_of l.line-items)
