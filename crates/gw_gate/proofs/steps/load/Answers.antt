use Rattle.std.proofs.Common.{arith}
use Rattle.gw_gate.proofs.Keeping.{loads}
use Rattle.gw_gate.proofs.steps.load.Goals as goal

pub load-requires : goal.load-requires
load-requires c =
    let at = c.requires in
    let one = at.one_word in
    (at.gate_is, omega arith, loads _ _ _ at.some_room)
