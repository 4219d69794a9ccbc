use Rattle.std.proofs.Common.{arith}
use Rattle.gw_ctxwords.proofs.Handing.{joins}
use Rattle.gw_ctxwords.proofs.steps.join.Goals as goal

pub join_seat-requires : goal.join_seat-requires
join_seat-requires c =
    let at = c.requires.seats.0 in
    let beside = c.requires.seats.1 in
    let sized = at.sized in
    let some = c.requires.some in
    (at.table_is, beside.table_is, beside.no_slots, omega arith, joins _ _ _ _ _ at.some_room)
