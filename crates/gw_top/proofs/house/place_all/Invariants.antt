use Rattle.std.proofs.Common.{◌≤◌}
use Rattle.std.specs.Prelude.{vec_capacity}
use Rattle.gw_top.proofs.SetupLemmas.{Placed}
use Rattle.gw_top.proofs.house.place_all.Given as goal

abbrev pub invariant-loop-number : goal.invariant-loop-number
invariant-loop-number g l = Placed l.house l.fn.limits l.number l.passes.items l.gate_seat l.ctx_seat l.places.items × (l.fn.limits.passes ≤ vec_capacity l.places)
