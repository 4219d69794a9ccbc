use Rattle.std.proofs.Common.{arith}
use Rattle.gw_turn.proofs.Handing.{joins}
use Rattle.gw_turn.proofs.steps.join.Goals as goal

pub join_seat-requires : goal.join_seat-requires
join_seat-requires g c =
    let at = c.requires.seats.0 in
    let beside = c.requires.seats.1 in
    let two = at.two_words in
    (at.pool_is, beside.pool_is, c.requires.idle.2, omega arith, joins _ _ _ _ _ at.live beside.live c.requires.idle.0 c.requires.idle.1)
