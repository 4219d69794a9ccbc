use Rattle.std.proofs.Common.{◌≡◌}
use Rattle.gw_turn.specs.Steps.{IsSame}
use Rattle.gw_turn.proofs.turn.wait_turn.Given as goal

abbrev pub invariant-loop : goal.invariant-loop
invariant-loop g l = (goal.iterator-loop g).can_next l.iterator' × (goal.iterator-loop g).is_finite l.iterator' × IsSame l.fn.place l.place × (l.place.me ≡ l.fn.place.me)
