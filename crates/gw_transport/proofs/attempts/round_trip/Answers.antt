use Rattle.std.proofs.Common.{◌≡◌, ◌∙◌, ◌+◌, refl, sym, subst, true, false}
use Rattle.gw_retry.specs.declared.BodyKind.{BodyKind}
use Rattle.gw_retry.specs.Retry.{may_retry_of}
use Rattle.gw_transport.specs.Attempts.{errand_of, kind_of}
use Rattle.gw_transport.specs.Sending.{ExchangesKept}
use Rattle.gw_transport.proofs.AttemptLemmas.{tried_cancelled, tried_full, tried_last, tried_late, tried_over, tried_reply, tried_unreached, trip_made, trying_looks, trying_more}
use Rattle.gw_transport.proofs.attempts.round_trip.Goals as goal

pub loop-made-init : goal.loop-made-init
loop-made-init g c =
    (trying_looks ExchangesKept (errand_of c.args.order.now c.args.body.now) _ _ _ _ _ _ _ _ c.requires.looked c.now-now.ensures c.close_expired.ensures.step, refl, refl, c.close_expired.ensures.leases, refl)

pub returns-in-Unreachable-clause-step : goal.returns-in-Unreachable-clause-step
returns-in-Unreachable-clause-step g c =
    trip_made g.W.Conn.Link.link _ _ _ _ _ _ _ _ _ _ _ _ c.requires.looked c.now-now.ensures c.close_expired.ensures.step
    (tried_unreached g.W.Conn.Link.link ExchangesKept (errand_of c.args.order.now c.args.body.now) _ _ _ _ _ _ _ _ _ _ _ c.loop-made.made c.loop-made.invariant.0 c.in-Unreachable.ensures.step)

pub returns-in-Full-clause-step : goal.returns-in-Full-clause-step
returns-in-Full-clause-step g c =
    trip_made g.W.Conn.Link.link _ _ _ _ _ _ _ _ _ _ _ _ c.requires.looked c.now-now.ensures c.close_expired.ensures.step
    (tried_full g.W.Conn.Link.link ExchangesKept (errand_of c.args.order.now c.args.body.now) _ _ _ _ _ _ _ _ _ _ _ c.loop-made.made c.loop-made.invariant.0 c.in-Full.ensures.step)

pub returns-in-Cancelled-clause-step : goal.returns-in-Cancelled-clause-step
returns-in-Cancelled-clause-step g c =
    trip_made g.W.Conn.Link.link _ _ _ _ _ _ _ _ _ _ _ _ c.requires.looked c.now-now.ensures c.close_expired.ensures.step
    (tried_cancelled g.W.Conn.Link.link ExchangesKept (errand_of c.args.order.now c.args.body.now) _ _ _ _ _ _ _ _ _ _ _ c.loop-made.made c.loop-made.invariant.0 c.in-Cancelled.ensures.step)

pub returns-in-Late-clause-step : goal.returns-in-Late-clause-step
returns-in-Late-clause-step g c =
    trip_made g.W.Conn.Link.link _ _ _ _ _ _ _ _ _ _ _ _ c.requires.looked c.now-now.ensures c.close_expired.ensures.step
    (tried_late g.W.Conn.Link.link ExchangesKept (errand_of c.args.order.now c.args.body.now) _ _ _ _ _ _ _ _ _ _ _ c.loop-made.made c.loop-made.invariant.0 c.in-Late.ensures.step)

pub returns-in-Reply-clause-step : goal.returns-in-Reply-clause-step
returns-in-Reply-clause-step g c =
    trip_made g.W.Conn.Link.link _ _ _ _ _ _ _ _ _ _ _ _ c.requires.looked c.now-now.ensures c.close_expired.ensures.step
    (tried_reply g.W.Conn.Link.link ExchangesKept (errand_of c.args.order.now c.args.body.now) _ _ _ _ _ _ _ _ _ _ _ _ _ _ c.loop-made.made c.in-Lease.got c.exchange.new.conn c.in-Reply.reply
    c.loop-made.invariant.0 c.in-Lease.ensures.step c.in-Reply.ensures.step c.in-Reply.ensures.link)

pub returns-in-Over-clause-step : goal.returns-in-Over-clause-step
returns-in-Over-clause-step g c =
    trip_made g.W.Conn.Link.link _ _ _ _ _ _ _ _ _ _ _ _ c.requires.looked c.now-now.ensures c.close_expired.ensures.step
    (tried_over g.W.Conn.Link.link ExchangesKept (errand_of c.args.order.now c.args.body.now) _ _ _ _ _ _ _ _ _ _ _ _ _ _ _ _ c.loop-made.made c.in-Lease.got c.in-Over.end
    c.loop-made.invariant.0 c.in-Lease.ensures.step c.in-Over.ensures.step c.end_lease.ensures.step)

pub returns-then-not-may_retry-clause-step : goal.returns-then-not-may_retry-clause-step
returns-then-not-may_retry-clause-step g c =
    trip_made g.W.Conn.Link.link _ _ _ _ _ _ _ _ _ _ _ _ c.requires.looked c.now-now.ensures c.close_expired.ensures.step
    (tried_last g.W.Conn.Link.link ExchangesKept (errand_of c.args.order.now c.args.body.now) _ _ _ _ _ _ _ _ _ _ _ _ _ _ _ _ c.loop-made.made c.in-Lease.got c.in-Failed.why
    c.loop-made.invariant.0 c.in-Lease.ensures.step c.in-Failed.ensures.step c.end_lease-in-Failed.ensures.step (subst (λ (k : BodyKind). may_retry_of c.in-Failed.why c.in-Lease.got.reused c.args.order.now.out.now.method c.args.order.now.out.now.has_key k (c.loop-made.made + 1) ≡ false)
    c.kind_of_body-kind.ensures (sym c.may_retry.ensures ∙ c.if-not-may_retry.true)))

pub loop-made-preserved : goal.loop-made-preserved
loop-made-preserved g c =
    let follows : may_retry_of c.in-Failed.why c.in-Lease.got.reused c.args.order.now.out.now.method c.args.order.now.out.now.has_key (kind_of c.args.body.now) (c.loop-made.made + 1) ≡ true =
    subst (λ (k : BodyKind). may_retry_of c.in-Failed.why c.in-Lease.got.reused c.args.order.now.out.now.method c.args.order.now.out.now.has_key k (c.loop-made.made + 1) ≡ true)
    c.kind_of_body-kind.ensures (sym c.may_retry.ensures ∙ c.if-not-may_retry.false) in (
      trying_more g.W.Conn.Link.link ExchangesKept (errand_of c.args.order.now c.args.body.now) _ _ _ _ _ _ _ _ _ _ _ _ _ _ _ _ c.loop-made.made c.in-Lease.got c.in-Failed.why
          c.loop-made.invariant.0 c.in-Lease.ensures.step c.in-Failed.ensures.step c.end_lease-in-Failed.ensures.step follows,
      c.in-Failed.ensures.room ∙ c.loop-made.invariant.1,
      c.in-Failed.ensures.client ∙ c.loop-made.invariant.2,
      c.end_lease-in-Failed.ensures.leases ∙ c.in-Lease.ensures.leases ∙ c.loop-made.invariant.3,
      c.in-Failed.ensures.guard ∙ c.in-Lease.ensures.guard ∙ c.loop-made.invariant.4,
    )
