use Rattle.std.proofs.Common.{◌≡◌}
use Rattle.gw_stream.specs.Waits.{side}
use Rattle.gw_transport.proofs.ReplyLemmas.{Dropping}
use Rattle.gw_transport.proofs.replying.hear_reply.Given as goal

abbrev pub invariant-loop-dropped : goal.invariant-loop-dropped
invariant-loop-dropped g l =
    (g.G.Guard.keeper l.guard ≡ g.G.Guard.keeper l.initial.guard)
    × Dropping (side (g.W.Wire.wire l.initial.wire) (g.G.Guard.guard l.initial.guard)) (side (g.W.Wire.wire l.wire) (g.G.Guard.guard l.guard))
    (g.W.Conn.Link.link l.initial.conn) (g.W.Conn.Link.link l.conn) l.dropped l.from.inbox
