use Rattle.std.proofs.Common.{◌≡◌}
use Rattle.gw_pool.specs.declared.entry.Reply.{Reply}
use Rattle.gw_transport.specs.Leasing.{IsAsked}
use Rattle.gw_transport.proofs.RestLemmas.{Waiting}
use Rattle.gw_transport.proofs.leasing.wait.Given as goal

abbrev pub invariant-loop-rest : goal.invariant-loop-rest
invariant-loop-rest g l =
    ((answer : Reply) → IsAsked (g.L.Leases.lent l.initial.leases) l.host l.initial.held.want answer
    → Waiting (g.W.Wire.wire l.initial.wire) (g.W.Wire.wire l.wire) (g.G.Guard.guard l.initial.guard) (g.G.Guard.guard l.guard)
    (g.L.Leases.lent l.initial.leases) (g.L.Leases.lent l.leases) l.host l.initial.held.want answer l.held l.now l._rest)
    × (g.L.Leases.keeper l.leases ≡ g.L.Leases.keeper l.initial.leases) × (g.G.Guard.keeper l.guard ≡ g.G.Guard.keeper l.initial.guard)
