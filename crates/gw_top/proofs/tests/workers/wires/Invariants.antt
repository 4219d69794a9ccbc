use Rattle.std.proofs.Common.{All}
use Rattle.gw_wire.specs.Memory.{wire_view}
use Rattle.gw_wire.specs.World.{IsAlone}
use Rattle.gw_top.proofs.tests.workers.wires.Given as goal

abbrev pub invariant-loop-made : goal.invariant-loop-made
invariant-loop-made l = All (λ w. IsAlone (wire_view w)) l.wires.items
