use Rattle.std.proofs.Common.{arith}
use Rattle.gw_turn.proofs.Handing.{splits}
use Rattle.gw_turn.proofs.steps.split.Goals as goal

pub split_seat-requires : goal.split_seat-requires
split_seat-requires g c =
    let at = c.requires.seat in
    let two = at.two_words in
    (at.pool_is, omega arith, splits _ _ _ at.live c.requires.idle c.requires.others)
