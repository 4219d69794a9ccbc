use Rattle.std.proofs.Common.{◌≡◌, length}
use Rattle.gw_stream.specs.Waits.{side}
use Rattle.gw_session.proofs.GatherLemmas.{Gathering}
use Rattle.gw_session.proofs.HearLemmas.{patient}
use Rattle.gw_session.proofs.gathering.gather.Given as goal

abbrev pub invariant-loop-pull : goal.invariant-loop-pull
invariant-loop-pull g l =
    (length l.piece ≡ 8192)
    × Gathering (side (g.W.Wire.wire l.initial.wire) (patient 0)) (side (g.W.Wire.wire l.wire) (patient l.patience.last))
    (g.W.Conn.Link.link l.initial.conn) (g.W.Conn.Link.link l.conn) l.initial.from.body l.from.body l.initial.from.inbox l.from.inbox l.body.items
