use Rattle.std.proofs.Common.{◌≡◌, map, drop}
use Rattle.std.specs.List.{list_all}
use Rattle.httparse.specs.Spans.{header_bytes}
use Rattle.gw_head.specs.Fields.{agrees}
use Rattle.gw_head.proofs.fields.values_agree.Given as goal

-- each field before this one agrees
abbrev pub invariant-loop-field : goal.invariant-loop-field
invariant-loop-field l =
    list_all (agrees l.name l.value) (map (header_bytes l.bytes) (drop l.field-index l.fields))
    ≡ list_all (agrees l.name l.value) (map (header_bytes l.bytes) l.fields)
