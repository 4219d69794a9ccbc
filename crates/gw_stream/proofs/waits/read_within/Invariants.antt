use Rattle.std.proofs.Common.{◌≡◌, length}
use Rattle.gw_stream.specs.Waits.{side}
use Rattle.gw_stream.proofs.LinkLemmas.{Waiting}
use Rattle.gw_stream.proofs.waits.read_within.Given as goal

abbrev pub invariant-loop-tick : goal.invariant-loop-tick
invariant-loop-tick g l =
    Waiting (side (g.W.Wire.wire l.initial.wire) (g.G.Guard.guard l.initial.guard)) (side (g.W.Wire.wire l.wire) (g.G.Guard.guard l.guard))
    (g.W.Conn.Link.link l.initial.conn) (g.W.Conn.Link.link l.conn) l.limit.since l.now l._tick
    × (l.to ≡ 0) × (length l.buf ≡ length l.initial.buf) × (g.G.Guard.keeper l.guard ≡ g.G.Guard.keeper l.initial.guard)
