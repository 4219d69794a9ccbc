use Rattle.std.proofs.Common.{arith}
use Rattle.gw_ctxwords.proofs.Keeping.{cancels_by}
use Rattle.gw_ctxwords.proofs.steps.cancel.Goals as goal

pub compare_exchange-requires : goal.compare_exchange-requires
compare_exchange-requires c =
    let at = c.requires.seat in
    let sized = at.sized in
    let inside = c.requires.node in
    (at.table_is, omega arith, cancels_by _ _ _ _ _ c.args.cause _ c.word_of.ensures inside at.some_room)
