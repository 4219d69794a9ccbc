use Rattle.gw_context.proofs.Soundness.{sound_truncated}
use Rattle.gw_context.proofs.contexts.Tree.truncate.Goals as goal

pub invariant_of-self : goal.invariant_of-self
invariant_of-self c =
    rw c.truncate.ensures.items (sound_truncated c.self.inside.last c.args.n c.self.inside.nodes.items c.requires c.self.invariant)
