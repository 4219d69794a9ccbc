use Rattle.std.proofs.Common.{◌≡◌, ◌-◌, ◌≤◌, ◌++◌, length, map}
use Rattle.gw_mux.specs.Request.{parts_in}
use Rattle.gw_mux.proofs.sent.lengths_of.Given as goal

abbrev pub invariant-loop-left : goal.invariant-loop-left
invariant-loop-left l = record {
  same : l.lengths.items ++ map length (parts_in l.left) ≡ map length (parts_in l.body);
  few : length l.lengths.items ≤ 65;
}

abbrev pub decreases-loop-left : goal.decreases-loop-left
decreases-loop-left l = 65 - length l.lengths.items
