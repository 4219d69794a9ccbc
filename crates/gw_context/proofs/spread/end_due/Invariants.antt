use Rattle.gw_context.specs.declared.parts.Cause.TheVariants.{DeadlineExceeded}
use Rattle.gw_context.specs.Node.{IsUnderDue}
use Rattle.gw_context.proofs.Passing.{Passing}
use Rattle.gw_context.proofs.spread.end_due.Given as goal

abbrev pub invariant-loop-i : goal.invariant-loop-i
invariant-loop-i l = Passing DeadlineExceeded (IsUnderDue l.fn.nodes l.now) l.fn.nodes l.nodes l.i
