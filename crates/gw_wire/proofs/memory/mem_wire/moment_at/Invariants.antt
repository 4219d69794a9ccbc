use Rattle.std.proofs.Common.{◌≡◌, ◌<◌, ◌≤◌, drop}
use Rattle.gw_wire.specs.Play.{moment_after}
use Rattle.gw_wire.proofs.memory.mem_wire.moment_at.Given as goal

abbrev pub invariant-loop-moment : goal.invariant-loop-moment
invariant-loop-moment l =
    (l.last ≤ l.at) × (l.at < 253402300800000) × (moment_after (drop l.moment-index l.moments) l.acts l.at ≡ moment_after l.moments l.acts l.last)
