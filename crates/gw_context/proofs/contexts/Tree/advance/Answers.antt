use Rattle.std.proofs.Common.{◌≡◌, ◌∙◌, length}
use Rattle.gw_context.specs.declared.parts.Cause.TheVariants.{DeadlineExceeded}
use Rattle.gw_context.specs.Node.{Ends, IsUnderDue}
use Rattle.gw_context.proofs.Soundness.{sound_advanced, written}
use Rattle.gw_context.proofs.contexts.Tree.advance.Goals as goal

pub invariant_of-self : goal.invariant_of-self
invariant_of-self c =
    let inside = c.self.inside in
    let now = c.end_due.new.nodes in
    let ends : Ends DeadlineExceeded (IsUnderDue inside.nodes.items c.args.now) inside.nodes.items now =
    rw c.deref_mut.ensures.value at c.end_due.ensures in
    let count : length now ≡ inside.nodes.len = c.end_due.ensures.count ∙ c.deref_mut.ensures.len in
    rw (c.max-self-inside.ensures, written now inside.nodes.items inside.nodes.len count) (sound_advanced inside.last c.args.now inside.nodes.items now ends c.self.invariant)
