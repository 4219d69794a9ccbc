use Rattle.std.proofs.Common.{◌≡◌}
use Rattle.gw_wire.specs.Link.{LinkLater}
use Rattle.gw_stream.specs.Filling.{passing}
use Rattle.gw_stream.specs.Outbox.{HasRoom}
use Rattle.gw_stream.specs.Waits.{side}
use Rattle.gw_stream.proofs.FirstLemmas.{Filling}
use Rattle.gw_stream.proofs.beginning.first_piece.Given as goal

abbrev pub invariant-loop-pull : goal.invariant-loop-pull
invariant-loop-pull g l =
    Filling (side (g.W.Wire.wire l.initial.wire) (g.G.Guard.guard l.initial.guard)) (side (g.W.Wire.wire l.wire) (g.G.Guard.guard l.guard))
    (g.W.Conn.Link.link l.initial.source).number (passing l.initial.from.body l.initial.from.inbox l.initial.out) (passing l.from.body l.from.inbox l.out)
    × HasRoom l.out
    × LinkLater (g.W.Conn.Link.link l.initial.source) (g.W.Conn.Link.link l.source)
    × (g.G.Guard.keeper l.guard ≡ g.G.Guard.keeper l.initial.guard)
