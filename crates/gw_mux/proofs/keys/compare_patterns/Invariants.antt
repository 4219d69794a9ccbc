use Rattle.std.proofs.Common.{◌≡◌, drop}
use Rattle.gw_mux.specs.Keys.{keys_cmp, keys_of}
use Rattle.gw_mux.proofs.keys.compare_patterns.Given as goal

abbrev pub invariant-loop-depth : goal.invariant-loop-depth
invariant-loop-depth l = keys_cmp (drop l.depth (keys_of l.first)) (drop l.depth (keys_of l.second)) ≡ keys_cmp (keys_of l.first) (keys_of l.second)
