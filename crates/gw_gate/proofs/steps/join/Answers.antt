use Rattle.std.proofs.Common.{arith}
use Rattle.gw_gate.proofs.Handing.{joins}
use Rattle.gw_gate.proofs.steps.join.Goals as goal

pub join_seat-requires : goal.join_seat-requires
join_seat-requires c =
    let at = c.requires.seats.0 in
    let beside = c.requires.seats.1 in
    let one = at.one_word in
    (at.gate_is, beside.gate_is, beside.no_slots, omega arith, joins _ _ _ _ at.some_room c.requires.out.0 c.requires.out.1)
