use Rattle.std.proofs.Common.{arith}
use Rattle.gw_gate.proofs.Keeping.{enters}
use Rattle.gw_gate.proofs.steps.enter.Goals as goal

pub fetch_add-requires : goal.fetch_add-requires
fetch_add-requires c =
    let at = c.requires.seat in
    let one = at.one_word in
    (at.gate_is, omega arith, enters _ _ _ at.some_room c.requires.out.0 c.requires.out.1)
