use Rattle.std.proofs.Common.{◌≡◌, map, drop}
use Rattle.httparse.specs.Spans.{header_bytes}
use Rattle.gw_head.specs.Fields.{values_named}
use Rattle.gw_head.proofs.fields.first_value.Given as goal

-- no field before this one has the name
abbrev pub invariant-loop-field : goal.invariant-loop-field
invariant-loop-field l =
    values_named l.name (map (header_bytes l.bytes) (drop l.field-index l.fields))
    ≡ values_named l.name (map (header_bytes l.bytes) l.fields)
