use Rattle.std.proofs.Common.{arith}
use Rattle.gw_turn.proofs.Keeping.{counts_up}
use Rattle.gw_turn.proofs.steps.count_up.Goals as goal

pub swap-requires : goal.swap-requires
swap-requires g c =
    let at = c.requires.seat in
    let two = at.two_words in
    (at.pool_is, omega arith, counts_up _ _ _ _ g.E.Becomes.core g.E.Becomes.out _ at.live c.requires.turn (rw c.requires.becomes.1 c.requires.entry) c.requires.becomes.0)

pub returns-clause-view : goal.returns-clause-view
returns-clause-view g c = rw (← c.requires.becomes.1) c.swap.ensures.2
