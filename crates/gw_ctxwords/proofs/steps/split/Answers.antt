use Rattle.std.proofs.Common.{arith}
use Rattle.gw_ctxwords.proofs.Handing.{splits}
use Rattle.gw_ctxwords.proofs.steps.split.Goals as goal

pub split_seat-requires : goal.split_seat-requires
split_seat-requires c =
    let at = c.requires.seat in
    let sized = at.sized in
    let some = c.requires.some in
    (at.table_is, omega arith, splits _ _ _ c.requires.room)
