use Rattle.std.proofs.Common.{arith}
use Rattle.gw_turn.proofs.Keeping.{tries}
use Rattle.gw_turn.proofs.steps.try_turn.Goals as goal

pub compare_exchange-requires : goal.compare_exchange-requires
compare_exchange-requires g c =
    let at = c.requires.seat in
    let two = at.two_words in
    (at.pool_is, omega arith, tries _ _ _ _ at.live c.requires.idle.0)
