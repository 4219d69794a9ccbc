use Rattle.std.proofs.Common.{◌==◌}
use Rattle.gw_context.specs.declared.parts.Cause.TheVariants.{Canceled}
use Rattle.gw_context.specs.Node.{Under}
use Rattle.gw_context.proofs.Members.{spreads_under, under_from}
use Rattle.gw_context.proofs.Passing.{pass_step, passed}
use Rattle.gw_context.proofs.spread.end_under.Goals as goal

pub loop-i-preserved : goal.loop-i-preserved
loop-i-preserved c =
    let nodes = c.args.nodes.now in
    rw c.settle.ensures (pass_step Canceled (Under nodes c.args.node) nodes c.loop-i.nodes c.loop-i.i (c.loop-i.i == c.args.node) c.loop-i-test.true c.requires.linked (spreads_under nodes c.args.node c.loop-i.i) c.loop-i.invariant)

pub loop-i-init : goal.loop-i-init
loop-i-init c = under_from Canceled c.args.nodes.now c.args.node c.requires.linked

pub returns : goal.returns
returns c =
    let nodes = c.args.nodes.now in
    passed Canceled (Under nodes c.args.node) nodes c.loop-i.nodes c.loop-i.i c.loop-i-test.false c.loop-i.invariant
