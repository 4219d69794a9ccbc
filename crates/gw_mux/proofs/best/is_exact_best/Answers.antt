use Rattle.std.proofs.Common.{◌≡◌, ◌↔◌, ◌<◌, IsTrue, MatchOption, length, sym, subst, ap, ◌∙◌}
use Rattle.gw_mux.specs.Best.{IsExactOf}
use Rattle.gw_mux.specs.Request.{is_exact}
use Rattle.gw_mux.specs.Walk.{segments_in}
use Rattle.gw_mux.proofs.Conflicting.{at_read}
use Rattle.gw_mux.proofs.Finding.{exact_decided}
use Rattle.gw_mux.proofs.best.is_exact_best.Goals as goal

pub returns-in-Some : goal.returns-in-Some
returns-in-Some c =
    let ps = c.args.patterns.now in
    let p = c.index-patterns-best.result in
    let parts = segments_in c.args.body.now in
    let within : c.in-Some.best < length ps = subst (λ x. MatchOption x (Unit {0}) (λ i. i < length ps)) c.in-Some.is c.requires in
    let at = at_read ps c.in-Some.best p within c.index-patterns-best.is in
    let e : c.is_exact.result ≡ is_exact p.segs.items parts = c.is_exact.ensures ∙ ap (λ s. is_exact s parts) (c.deref.ensures.value ∙ ap (λ x. x.segs.items) (sym c.index-patterns-best.is)) in
    subst (λ x. IsTrue c.is_exact.result ↔ IsExactOf ps parts x) (sym c.in-Some.is) (exact_decided ps c.in-Some.best p parts c.is_exact.result at e)
