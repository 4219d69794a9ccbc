use Rattle.std.proofs.Common.{◌≡◌, List, ℕ}
use Rattle.gw_head.specs.Stage.{reads}
use Rattle.gw_stream.specs.Waits.{side}
use Rattle.gw_session.proofs.HearLemmas.{Hearing, patient}
use Rattle.gw_session.proofs.hearing.hear_request.Given as goal

abbrev pub invariant-loop-piece : goal.invariant-loop-piece
invariant-loop-piece g l =
    (l.buffers.out.size ≡ l.initial.buffers.out.size)
    × ((stream : List ℕ) × (l.buffers.reader ≡ reads stream)
    × Hearing (side (g.W.Wire.wire l.initial.wire) (patient 0)) (side (g.W.Wire.wire l.wire) (patient l.patience.last))
    (g.W.Conn.Link.link l.initial.conn) (g.W.Conn.Link.link l.conn) l.initial.buffers.client.inbox stream l.buffers.client.inbox l._piece)
