use Rattle.std.proofs.Common.{◌+◌, ◌≤◌, [], ◌∷◌, drop, length, sym, ap, ◌∙◌, arith}
use Rattle.std.proofs.lemmas.List.Elements.{All-push, All-same}
use Rattle.std.proofs.lemmas.List.{length-append}
use Rattle.std.proofs.lemmas.Result.{err_from_is_err_and}
use Rattle.serde_json.specs.View.{items_view}
use Rattle.gw_pattern.specs.Pattern.{IsWellFormed, wildcard_count}
use Rattle.gw_routes.specs.Routes.{route_list, route_text, routes_from}
use Rattle.gw_routes.proofs.PlacingLemmas.{route_err, route_more, routes_end}
use Rattle.gw_routes.proofs.placing.place_all.Goals as goal

pub returns-in_err-written-clause-routes : goal.returns-in_err-written-clause-routes
returns-in_err-written-clause-routes c =
    let p = err_from_is_err_and c.from_residual.result c.from_residual.ensures.1 in
    rw (p.1, p.2)
    (route_err c.args.values.now c.loop-i.i c.index-values-i.result (route_list c.loop-i.placed) c.in_err-written.field-0.0 c.loop-i-test.true c.index-values-i.is c.loop-i.invariant.0 c.in_err-written.ensures.route)

pub loop-i-preserved : goal.loop-i-preserved
loop-i-preserved c =
    let l = c.loop-i in
    let vs = c.args.values.now in
    let w = c.in_ok-written.written in
    let more = c.in_ok-placed.ensures.patterns in
    let before = l.placed.patterns.items in (
      ap (λ b. routes_from (l.i + 1) b (items_view (drop (l.i + 1) vs))) c.in_ok-placed.ensures.routes
          ∙ sym (route_more vs l.i c.index-values-i.result (route_list l.placed) (route_text w) c.loop-i-test.true c.index-values-i.is c.in_ok-written.ensures.route)
          ∙ l.invariant.0,
      omega (arith, c.in_ok-placed.ensures.hosts, l.invariant.1),
      ap length more ∙ length-append before (w.pattern ∷ []) ∙ ap (λ n. n + 1) l.invariant.2,
      All-same IsWellFormed _ _ more (All-push IsWellFormed before w.pattern l.invariant.3 c.in_ok-written.ensures.well_formed),
      All-same (λ p. wildcard_count p.segs.items ≤ 16) _ _ more (All-push (λ p. wildcard_count p.segs.items ≤ 16) before w.pattern l.invariant.4 c.in_ok-written.ensures.wildcards),
    )

pub returns-clause-routes : goal.returns-clause-routes
returns-clause-routes c =
    sym c.loop-i.invariant.0 ∙ routes_end c.args.values.now c.loop-i.i (route_list c.loop-i.placed) c.loop-i-test.false
