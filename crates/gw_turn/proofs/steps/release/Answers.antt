use Rattle.std.proofs.Common.{arith}
use Rattle.gw_turn.proofs.Keeping.{releases}
use Rattle.gw_turn.proofs.steps.release.Goals as goal

pub swap-requires : goal.swap-requires
swap-requires g c =
    let at = c.requires.seat in
    let two = at.two_words in
    (at.pool_is, omega arith, releases _ _ _ c.args.place.now.me g.E.Becomes.core g.E.Becomes.out g.E.Becomes.waits at.live c.requires.turn c.requires.slot (rw c.requires.becomes.0 c.requires.leave))

pub returns-clause-view : goal.returns-clause-view
returns-clause-view g c = rw (← c.requires.becomes.0, ← c.requires.becomes.1) c.swap.ensures.2
