use Rattle.std.proofs.Common.{◌≡◌, []}
use Rattle.gw_turn.proofs.tests.units.wanted.Given as goal

abbrev pub invariant-loop : goal.invariant-loop
invariant-loop g l =
    (goal.iterator-loop g).can_next l.iterator' × (goal.iterator-loop g).is_finite l.iterator' × (l.pass.lent.out ≡ []) × (l.pass.pool ≡ l.fn.pass.pool) × (l.pass.joined ≡ l.fn.pass.joined) × (l.pass.lent.limits ≡ l.fn.pass.lent.limits) × (l.pass.lent.number ≡ l.fn.pass.lent.number) × (l.pass.lent.ended ≡ l.fn.pass.lent.ended)
