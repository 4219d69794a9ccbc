use Rattle.std.proofs.Common.{◌≡◌}
use Rattle.gw_account.specs.Did.{span}
use Rattle.gw_transport.specs.Attempts.{errand_of}
use Rattle.gw_transport.specs.Sending.{ExchangesKept, kept_view}
use Rattle.gw_transport.proofs.AttemptLemmas.{Trying}
use Rattle.gw_transport.proofs.attempts.round_trip.Given as goal

abbrev pub invariant-loop-made : goal.invariant-loop-made
invariant-loop-made g l =
    Trying ExchangesKept (errand_of l.order l.body) (span (g.W.Wire.wire l.initial.wire) (g.W.Wire.wire l.wire) (g.L.Leases.lent l.initial.leases) (g.L.Leases.lent l.leases))
    (g.G.Guard.guard l.fn.guard) (g.G.Guard.guard l.guard) (kept_view l.order.out.now l.body l.fn.buffers.backend l.fn.buffers.out.size)
    (kept_view l.order.out.now l.body l.buffers.backend l.buffers.out.size) l.made
    × (l.buffers.out.size ≡ l.fn.buffers.out.size)
    × (l.buffers.client ≡ l.fn.buffers.client)
    × (g.L.Leases.keeper l.leases ≡ g.L.Leases.keeper l.fn.leases)
    × (g.G.Guard.keeper l.guard ≡ g.G.Guard.keeper l.fn.guard)
