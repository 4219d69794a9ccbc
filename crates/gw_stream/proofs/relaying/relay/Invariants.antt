use Rattle.std.proofs.Common.{◌≡◌}
use Rattle.gw_wire.specs.Link.{LinkLater}
use Rattle.gw_stream.specs.Filling.{passing}
use Rattle.gw_stream.specs.Outbox.{HasRoom}
use Rattle.gw_stream.specs.Waits.{side}
use Rattle.gw_stream.proofs.RelayLemmas.{Relaying}
use Rattle.gw_stream.proofs.relaying.relay.Given as goal

abbrev pub invariant-loop-turn : goal.invariant-loop-turn
invariant-loop-turn g l =
    Relaying (side (g.W.Wire.wire l.initial.wire) (g.G.Guard.guard l.initial.guard)) (side (g.W.Wire.wire l.wire) (g.G.Guard.guard l.guard))
    (g.W.Conn.Link.link l.initial.source).number (g.W.Conn.Link.link l.initial.target).number
    (passing l.initial.from.body l.initial.from.inbox l.initial.out) (passing l.from.body l.from.inbox l.out) l.some
    × HasRoom l.out
    × LinkLater (g.W.Conn.Link.link l.initial.source) (g.W.Conn.Link.link l.source)
    × LinkLater (g.W.Conn.Link.link l.initial.target) (g.W.Conn.Link.link l.target)
    × (g.G.Guard.keeper l.guard ≡ g.G.Guard.keeper l.initial.guard)
