use Rattle.std.proofs.Common.{◌≡◌, ◌++◌, drop}
use Rattle.gw_top.specs.Printed.{names_in, span_lines}
use Rattle.gw_top.proofs.inspect.write_spans.Given as goal

-- what is written and what is still to be written are the whole
abbrev pub invariant-loop-seg : goal.invariant-loop-seg
invariant-loop-seg l =
    l.text.items ++ span_lines (names_in (drop l.seg-index l.segs)) l.left l.path
    ≡ l.initial.text.items ++ span_lines (names_in l.segs) l.spans l.path
