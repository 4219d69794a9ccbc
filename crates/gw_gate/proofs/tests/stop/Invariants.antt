use Rattle.std.proofs.Common.{◌≡◌, false}
use Rattle.gw_gate.proofs.tests.stop.Given as goal

abbrev pub invariant-loop : goal.invariant-loop
invariant-loop g l =
    (goal.iterator-loop g).can_next l.iterator' × (goal.iterator-loop g).is_finite l.iterator'
    × (l.seat.name ≡ l.fn.seat.name) × (l.seat.view.held ≡ false) × (l.seat.view.room ≡ l.fn.seat.view.room)
