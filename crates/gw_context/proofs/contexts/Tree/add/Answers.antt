use Rattle.gw_context.proofs.Soundness.{sound_added}
use Rattle.gw_context.proofs.contexts.Tree.add.Goals as goal

pub invariant_of-self-2 : goal.invariant_of-self-2
invariant_of-self-2 c =
    rw c.in_ok-push.ensures.items (sound_added _ _ c.args.node c.self.invariant (rw (← c.self.view_is) at c.requires.joins))
