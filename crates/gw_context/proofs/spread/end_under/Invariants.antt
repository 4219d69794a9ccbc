use Rattle.gw_context.specs.declared.parts.Cause.TheVariants.{Canceled}
use Rattle.gw_context.specs.Node.{Under}
use Rattle.gw_context.proofs.Passing.{Passing}
use Rattle.gw_context.proofs.spread.end_under.Given as goal

abbrev pub invariant-loop-i : goal.invariant-loop-i
invariant-loop-i l = Passing Canceled (Under l.fn.nodes l.node) l.fn.nodes l.nodes l.i
