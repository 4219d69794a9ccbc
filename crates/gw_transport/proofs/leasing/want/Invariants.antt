use Rattle.std.proofs.Common.{◌≡◌}
use Rattle.gw_transport.proofs.WantLemmas.{Wanting}
use Rattle.gw_transport.proofs.leasing.want.Given as goal

abbrev pub invariant-loop-want : goal.invariant-loop-want
invariant-loop-want g l =
    Wanting (g.W.Wire.wire l.initial.wire) (g.W.Wire.wire l.wire) (g.L.Leases.lent l.initial.leases) (g.L.Leases.lent l.leases) l.host l._want
    × (g.L.Leases.keeper l.leases ≡ g.L.Leases.keeper l.initial.leases)
