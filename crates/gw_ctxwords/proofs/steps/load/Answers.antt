use Rattle.std.proofs.Common.{arith}
use Rattle.gw_ctxwords.proofs.Keeping.{loads}
use Rattle.gw_ctxwords.proofs.steps.load.Goals as goal

pub load-requires : goal.load-requires
load-requires c =
    let at = c.requires.seat in
    let sized = at.sized in
    let inside = c.requires.node in
    (at.table_is, omega arith, loads _ _ _ _ _ inside at.some_room)
