use Rattle.std.proofs.Common.{◌≡◌, false}
use Rattle.gw_session.specs.Seats.{IsSameShared, seats_of}
use Rattle.gw_top.proofs.WorkLemmas.{Serving}
use Rattle.gw_top.proofs.worker.work.Given as goal

abbrev pub invariant-loop-client : goal.invariant-loop-client
invariant-loop-client g l =
    Serving (g.W.Wire.wire l.initial.worker.wire) (g.W.Wire.wire l.worker.wire) (g.L.Leases.lent l.initial.leases) (g.L.Leases.lent l.leases)
    (seats_of l.initial.shared) (seats_of l.shared) l.table l.initial.shared.ctx_node l.worker.entered l.worker.unkept
    × (l.worker.accept_failed ≡ false) × (l.worker.number ≡ l.initial.worker.number) × IsSameShared l.initial.shared l.shared
    × (l.shared.buffers.now.out.size ≡ l.initial.shared.buffers.now.out.size) × (g.L.Leases.keeper l.leases ≡ g.L.Leases.keeper l.initial.leases)
