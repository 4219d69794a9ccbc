use Rattle.std.proofs.Common.{arith}
use Rattle.gw_ctxwords.proofs.Keeping.{settles_by}
use Rattle.gw_ctxwords.proofs.steps.settle.Goals as goal

pub compare_exchange-requires : goal.compare_exchange-requires
compare_exchange-requires c =
    let at = c.requires.seat in
    let sized = at.sized in
    let inside = c.requires.node in
    (at.table_is, omega arith, settles_by _ _ _ _ _ c.args.above c.args.cause _ c.word_of.ensures inside at.some_room c.requires.cause.0 c.requires.cause.1)
