use Rattle.std.proofs.Common.{◌≡◌, sym, ap, ◌∙◌}
use Rattle.gw_mux.specs.Request.{spans_of}
use Rattle.gw_mux.proofs.Conflicting.{at_read}
use Rattle.gw_mux.proofs.routing.hit.Goals as goal

pub returns-clause-spans : goal.returns-clause-spans
returns-clause-spans c =
    let p = c.index-patterns-route.result in
    let e : c.spans.result ≡ spans_of p.segs.items c.args.path.now = c.spans.ensures ∙ ap (λ s. spans_of s c.args.path.now) (c.deref.ensures.value ∙ ap (λ x. x.segs.items) (sym c.index-patterns-route.is)) in
    (p, at_read c.args.patterns.now c.args.route p c.requires.within c.index-patterns-route.is, e)
