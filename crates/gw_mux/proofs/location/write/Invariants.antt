use Rattle.std.proofs.Common.{◌≡◌, ◌++◌, take}
use Rattle.gw_mux.specs.Location.{written}
use Rattle.gw_mux.proofs.location.write.Given as goal

abbrev pub invariant-loop-b : goal.invariant-loop-b
invariant-loop-b l = l.location.items ≡ l.fn.location.items ++ written (take l.b-index l.bytes)
