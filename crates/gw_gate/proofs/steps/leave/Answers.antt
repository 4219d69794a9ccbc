use Rattle.std.proofs.Common.{arith}
use Rattle.gw_gate.proofs.Keeping.{leaves}
use Rattle.gw_gate.proofs.steps.leave.Goals as goal

pub fetch_sub-requires : goal.fetch_sub-requires
fetch_sub-requires c =
    let at = c.requires.seat in
    let one = at.one_word in
    (at.gate_is, omega arith, leaves _ _ _ at.some_room c.requires.inside.0 c.requires.inside.1)
