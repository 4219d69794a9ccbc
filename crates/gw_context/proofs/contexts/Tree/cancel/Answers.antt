use Rattle.std.proofs.Common.{◌≡◌, ◌∙◌, length}
use Rattle.gw_context.specs.declared.parts.Cause.TheVariants.{Canceled}
use Rattle.gw_context.specs.Node.{Ends, Under}
use Rattle.gw_context.proofs.Soundness.{sound_cancelled, written}
use Rattle.gw_context.proofs.contexts.Tree.cancel.Goals as goal

pub invariant_of-self : goal.invariant_of-self
invariant_of-self c =
    let inside = c.self.inside in
    let now = c.end_under.new.nodes in
    let ends : Ends Canceled (Under inside.nodes.items c.args.node) inside.nodes.items now =
    rw c.deref_mut.ensures.value at c.end_under.ensures in
    let count : length now ≡ inside.nodes.len = c.end_under.ensures.count ∙ c.deref_mut.ensures.len in
    rw (written now inside.nodes.items inside.nodes.len count) (sound_cancelled inside.last c.args.node inside.nodes.items now ends c.self.invariant)
