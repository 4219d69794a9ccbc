use Rattle.std.proofs.Common.{arith}
use Rattle.gw_turn.proofs.Ending.{ends, all_spent}
use Rattle.gw_turn.proofs.steps.end_turns.Goals as goal

pub compare_exchange-requires : goal.compare_exchange-requires
compare_exchange-requires g c =
    let at = c.requires.seat in
    let two = at.two_words in
    (at.pool_is, omega arith, ends _ _ _ _ at.live c.requires.idle.0 c.requires.alone (all_spent c.args.place.now.me.0 at.live c.requires.spent.0 c.requires.spent.1))
