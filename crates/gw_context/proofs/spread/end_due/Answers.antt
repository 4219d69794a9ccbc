use Rattle.std.proofs.Common.{◌≡◌, ◌∙◌, ap, arith}
use Rattle.gw_context.specs.declared.parts.Cause.TheVariants.{DeadlineExceeded}
use Rattle.gw_context.specs.declared.parts.Node.{Node}
use Rattle.gw_context.specs.Node.{IsUnderDue, is_due, node_at}
use Rattle.gw_context.proofs.Members.{spreads_due, due_from}
use Rattle.gw_context.proofs.Passing.{pass_step, passed}
use Rattle.gw_context.proofs.spread.end_due.Goals as goal

pub loop-i-preserved : goal.loop-i-preserved
loop-i-preserved c =
    let nodes = c.args.nodes.now in
    let i = c.loop-i.i in
    let begins : c.is_due-begins.result ≡ is_due c.args.now (node_at nodes i).deadline =
    c.is_due-begins.ensures ∙ ap (λ (n : Node). is_due c.args.now n.deadline) (c.loop-i.invariant.rest i (omega arith)) in
    rw (c.settle.ensures, begins) (pass_step DeadlineExceeded (IsUnderDue nodes c.args.now) nodes c.loop-i.nodes i (is_due c.args.now (node_at nodes i).deadline) c.loop-i-test.true c.requires (spreads_due nodes c.args.now i) c.loop-i.invariant)

pub loop-i-init : goal.loop-i-init
loop-i-init c = due_from DeadlineExceeded c.args.nodes.now (IsUnderDue c.args.nodes.now c.args.now)

pub returns : goal.returns
returns c =
    let nodes = c.args.nodes.now in
    passed DeadlineExceeded (IsUnderDue nodes c.args.now) nodes c.loop-i.nodes c.loop-i.i c.loop-i-test.false c.loop-i.invariant
