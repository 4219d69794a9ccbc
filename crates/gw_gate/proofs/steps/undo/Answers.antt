use Rattle.std.proofs.Common.{arith}
use Rattle.gw_gate.proofs.Keeping.{undoes}
use Rattle.gw_gate.proofs.steps.undo.Goals as goal

pub fetch_sub-requires : goal.fetch_sub-requires
fetch_sub-requires c =
    let at = c.requires.seat in
    let one = at.one_word in
    (at.gate_is, omega arith, undoes _ _ _ at.some_room c.requires.refused.0 c.requires.refused.1)
