use Rattle.std.proofs.Common.{◌≡◌, ◌-◌, length, take}
use Rattle.gw_stream.specs.Waits.{side}
use Rattle.gw_stream.proofs.SendLemmas.{Sending}
use Rattle.gw_stream.proofs.waits.write_counted.Given as goal

abbrev pub invariant-loop-sent : goal.invariant-loop-sent
invariant-loop-sent g l =
    Sending (side (g.W.Wire.wire l.initial.wire) (g.G.Guard.guard l.initial.guard)) (side (g.W.Wire.wire l.wire) (g.G.Guard.guard l.guard))
    (g.W.Conn.Link.link l.initial.conn) (g.W.Conn.Link.link l.conn) (take l.sent l.bytes) (length l.bytes) l.sent
    × (g.G.Guard.keeper l.guard ≡ g.G.Guard.keeper l.initial.guard)

abbrev pub decreases-loop-sent : goal.decreases-loop-sent
decreases-loop-sent g l = length l.bytes - l.sent
