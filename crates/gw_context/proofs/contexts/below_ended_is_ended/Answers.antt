use Rattle.gw_context.proofs.Soundness.{ended_below}
use Rattle.gw_context.proofs.contexts.below_ended_is_ended.Goals as goal

pub returns : goal.returns
returns c = rw (← c.tree.view_is) (ended_below _ c.tree.invariant.linked)
