use Rattle.std.proofs.Common.{◌≡◌, get_or, ap, arith}
use Rattle.gw_wire.proofs.ClockLemmas.{clock_before, clock_begins}
use Rattle.gw_wire.proofs.memory.mem_wire.MemWire.new.Goals as goal

pub invariant_of-result : goal.invariant_of-result
invariant_of-result c =
    let before = clock_before c.args.script.moments.items c.requires.clock in
    let here = before 0 c.index.result.now (clock_begins c.args.script.moments.items c.requires.clock) in
    let is : c.index.result.now.at ≡ (get_or c.args.script.moments.items 0 c.index.result.now).at = ap (λ m. m.at) c.index.ensures in
    (omega arith, omega (arith, here, is), before, rw c.from.ensures.0 c.requires.peers)
