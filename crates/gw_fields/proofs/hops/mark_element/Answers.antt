use Rattle.std.proofs.Common.{subst}
use Rattle.gw_fields.specs.Names.{IsFirst, IsUnlike}
use Rattle.gw_fields.proofs.Tables.{mark_none, mark_one}
use Rattle.gw_fields.proofs.hops.mark_element.Goals as goal

pub returns-in-Some : goal.returns-in-Some
returns-in-Some c =
    mark_one c.args.names.now c.args.marks.now c.args.element.now c.in-Some.at c.requires.room
    (subst (λ name. IsFirst c.args.names.now name c.in-Some.at) c.trim.ensures c.in-Some.ensures)

pub returns-in_default : goal.returns-in_default
returns-in_default c =
    mark_none c.args.names.now c.args.marks.now c.args.element.now
    (subst (IsUnlike c.args.names.now) c.trim.ensures c.in_default.ensures)
