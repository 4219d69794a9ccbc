use Rattle.std.proofs.Common.{◌≡◌, ◌≤◌, drop}
use Rattle.gw_wire.specs.MemoryLink.{cut, first_len, met}
use Rattle.gw_wire.proofs.memory.mem_conn.next_event.Given as goal

abbrev pub invariant-loop-at : goal.invariant-loop-at
invariant-loop-at l =
    (met (cut l.offset (drop l.at l.events)) ≡ met (cut l.fn.offset (drop l.fn.place l.events)))
    × (l.offset ≤ first_len (drop l.at l.events))
