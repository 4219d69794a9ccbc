use Rattle.std.proofs.Common.{arith}
use Rattle.gw_gate.proofs.Keeping.{shuts}
use Rattle.gw_gate.proofs.steps.shut.Goals as goal

pub fetch_or-requires : goal.fetch_or-requires
fetch_or-requires c =
    let at = c.requires in
    let one = at.one_word in
    (at.gate_is, omega arith, shuts _ _ _ at.some_room)
