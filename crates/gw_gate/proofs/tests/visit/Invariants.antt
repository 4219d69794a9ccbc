use Rattle.std.proofs.Common.{◌≡◌, false}
use Rattle.gw_gate.proofs.tests.visit.Given as goal

abbrev pub invariant-loop : goal.invariant-loop
invariant-loop l = (l.seat.name ≡ l.fn.seat.name) × (l.seat.view.held ≡ false) × (l.seat.view.room ≡ l.fn.seat.view.room)
