use Rattle.std.proofs.Common.{◌≡◌}
use Rattle.gw_account.specs.Did.{span}
use Rattle.gw_session.specs.Seats.{IsSameShared, seats_of}
use Rattle.gw_session.specs.TurnSteps.{GoingOn}
use Rattle.gw_session.proofs.session.serve_turns.Given as goal

abbrev pub invariant-loop-request : goal.invariant-loop-request
invariant-loop-request g l =
    GoingOn g.W.Conn.Link.link (span (g.W.Wire.wire l.initial.wire) (g.W.Wire.wire l.wire) (g.L.Leases.lent l.initial.leases) (g.L.Leases.lent l.leases))
    (seats_of l.initial.shared) (seats_of l.shared) l.initial.shared.ctx_node l.initial.client l.client l.shared.buffers.now.client.inbox
    × (l.client.requests ≡ l._request) × IsSameShared l.initial.shared l.shared
    × (l.shared.buffers.now.out.size ≡ l.initial.shared.buffers.now.out.size) × (g.L.Leases.keeper l.leases ≡ g.L.Leases.keeper l.initial.leases)
