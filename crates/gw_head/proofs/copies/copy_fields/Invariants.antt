use Rattle.std.proofs.Common.{◌≡◌, map, take}
use Rattle.httparse.specs.Spans.{header_bytes}
use Rattle.gw_head.specs.Head.{lowered_fields}
use Rattle.gw_head.proofs.copies.copy_fields.Given as goal

-- the fields so far
abbrev pub invariant-loop-span : goal.invariant-loop-span
invariant-loop-span l = l.fields ≡ lowered_fields (map (header_bytes l.bytes) (take l.span-index l.spans))
