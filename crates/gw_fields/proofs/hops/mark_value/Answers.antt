use Rattle.std.proofs.Common.{subst}
use Rattle.gw_fields.specs.Lists.{SplitsElement}
use Rattle.gw_fields.proofs.Tables.{mark_last, mark_more}
use Rattle.gw_fields.proofs.hops.mark_value.Goals as goal

pub loop-rest-preserved : goal.loop-rest-preserved
loop-rest-preserved c =
    let cut = subst (SplitsElement c.loop-rest.left.now c.split_element.result.0.now) c.in-Some.is c.split_element.ensures in
    mark_more c.args.names.now c.args.marks.now c.loop-rest.marks c.mark_element.new.marks c.args.value.now c.loop-rest.left.now
    c.split_element.result.0.now c.in-Some.rest.now c.loop-rest.invariant c.mark_element.ensures cut.0

pub returns-in_default : goal.returns-in_default
returns-in_default c =
    let cut = subst (SplitsElement c.loop-rest.left.now c.split_element.result.0.now) c.in_default.is c.split_element.ensures in
    mark_last c.args.names.now c.args.marks.now c.loop-rest.marks c.mark_element.new.marks c.args.value.now c.loop-rest.left.now
    c.split_element.result.0.now c.loop-rest.invariant c.mark_element.ensures cut
