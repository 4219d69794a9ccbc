use Rattle.std.proofs.Common.{arith}
use Rattle.gw_gate.proofs.Handing.{splits}
use Rattle.gw_gate.proofs.steps.split.Goals as goal

pub split_seat-requires : goal.split_seat-requires
split_seat-requires c =
    let at = c.requires.seat in
    let one = at.one_word in
    (at.gate_is, omega arith, splits _ _ c.requires.room)
