use Rattle.std.proofs.Common.{◌≡◌, length, slice_index, sym, subst, ap, arith}
use Rattle.gw_mux.specs.Allow.{AreNamed, HasGained, named_methods}
use Rattle.gw_mux.proofs.Conflicting.{at_read}
use Rattle.gw_mux.proofs.Serving.{named_next, named_none}
use Rattle.gw_mux.proofs.allowed.methods_of.Goals as goal

pub loop-i-init : goal.loop-i-init
loop-i-init c =
    subst (λ ms. AreNamed c.args.patterns.now c.args.served.now 0 ms) (sym c.new-methods.ensures.items) (named_none c.args.patterns.now c.args.served.now)

pub loop-i-preserved : goal.loop-i-preserved
loop-i-preserved c =
    let ps = c.args.patterns.now in
    let ns = c.args.served.now in
    let n = c.loop-i.i-index in
    let p = c.index-patterns-i.result in
    let at = at_read ps (slice_index ns n) p (c.requires n 0 c.loop-i-test.true) c.index-patterns-i.is in
    named_next ps ns n p c.loop-i.methods.items c.add_method.new.methods.items at
    (subst (λ m. HasGained c.loop-i.methods.items (named_methods m) c.add_method.new.methods.items) (ap (λ x. x.method) (sym c.index-patterns-i.is)) c.in_ok-add_method.ensures) c.loop-i.invariant

pub returns : goal.returns
returns c =
    let e : c.loop-i.i-index ≡ length c.args.served.now = omega (arith, c.loop-i-test.false, c.loop-i.auto.i-index-end) in
    subst (λ n. AreNamed c.args.patterns.now c.args.served.now n c.loop-i.methods.items) e c.loop-i.invariant
