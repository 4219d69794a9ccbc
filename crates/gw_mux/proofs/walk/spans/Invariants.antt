use Rattle.std.proofs.Common.{◌≡◌, ◌+◌, ◌-◌, ◌≤◌, ◌++◌, length, drop}
use Rattle.gw_pattern.specs.Pattern.{wildcard_count}
use Rattle.gw_mux.specs.Request.{parts_in, spans_from, spans_of}
use Rattle.gw_mux.proofs.walk.spans.Given as goal

abbrev pub invariant-loop-seg : goal.invariant-loop-seg
invariant-loop-seg l = record {
  within : length l.left ≤ length l.path;
  named : length l.spans + wildcard_count (drop l.seg-index l.segs) ≤ 16;
  same : l.spans ++ spans_from (length l.path - length l.left + 1) (length l.path) (drop l.seg-index l.segs) (parts_in l.left) ≡ spans_of l.segs l.path;
}
