use Rattle.std.proofs.Common.{◌≡◌, []}
use Rattle.gw_turn.proofs.tests.units.work.Given as goal

abbrev pub invariant-loop-number : goal.invariant-loop-number
invariant-loop-number g l = (l.pass.lent.out ≡ []) × (l.pass.pool ≡ l.fn.pass.pool) × (l.pass.joined ≡ l.fn.pass.joined) × (l.pass.lent.limits ≡ l.fn.pass.lent.limits) × (l.pass.lent.ended ≡ l.fn.pass.lent.ended)
