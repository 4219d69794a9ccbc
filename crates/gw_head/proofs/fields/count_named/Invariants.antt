use Rattle.std.proofs.Common.{◌≡◌, map, length, drop, ◌+◌, ◌≤◌}
use Rattle.httparse.specs.Spans.{header_bytes}
use Rattle.gw_head.specs.Fields.{values_named}
use Rattle.gw_head.proofs.fields.count_named.Given as goal

-- those counted and those that are left are all
abbrev pub invariant-loop-field : goal.invariant-loop-field
invariant-loop-field l =
    (l.count ≤ l.field-index)
    × (l.count + length (values_named l.name (map (header_bytes l.bytes) (drop l.field-index l.fields)))
    ≡ length (values_named l.name (map (header_bytes l.bytes) l.fields)))
