use Rattle.gw_fields.proofs.Tables.{list_all, list_more, list_none}
use Rattle.gw_fields.proofs.hops.listed_names.Goals as goal

pub loop-item-init : goal.loop-item-init
loop-item-init c = λ name at first. list_none _ _ (c.no_marks-marks.ensures at)

pub loop-item-preserved : goal.loop-item-preserved
loop-item-preserved c =
    list_more c.args.names.now c.loop-item.marks c.mark_field.new.marks c.args.items.now c.loop-item.item-index c.item-item.result c.loop-item-test.true
    c.item-item.is c.loop-item.invariant c.mark_field.ensures

pub returns : goal.returns
returns c = λ name at first. list_all c.args.items.now c.loop-item.item-index _ name c.loop-item-test.false (c.loop-item.invariant name at first)
