use Rattle.std.proofs.Common.{◌≡◌, List, ℕ}
use Rattle.gw_head.specs.Stage.{reads}
use Rattle.gw_stream.specs.Waits.{side}
use Rattle.gw_transport.proofs.HeadLemmas.{Hearing}
use Rattle.gw_transport.proofs.replying.hear_head.Given as goal

abbrev pub invariant-loop-piece : goal.invariant-loop-piece
invariant-loop-piece g l =
    (g.G.Guard.keeper l.guard ≡ g.G.Guard.keeper l.initial.guard)
    × ((stream : List ℕ) × (l.reader ≡ reads stream)
    × Hearing (side (g.W.Wire.wire l.initial.wire) (g.G.Guard.guard l.initial.guard)) (side (g.W.Wire.wire l.wire) (g.G.Guard.guard l.guard))
    (g.W.Conn.Link.link l.initial.conn) (g.W.Conn.Link.link l.conn) l.initial.inbox stream l.inbox l._piece)
