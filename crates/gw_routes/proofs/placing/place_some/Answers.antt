use Rattle.std.proofs.Common.{sym, ◌∙◌}
use Rattle.gw_routes.proofs.PlacingLemmas.{not_too_many, within_range}
use Rattle.gw_routes.proofs.placing.place_some.Goals as goal

pub returns-then-values-gt-MAX_ROUTES-clause-routes : goal.returns-then-values-gt-MAX_ROUTES-clause-routes
returns-then-values-gt-MAX_ROUTES-clause-routes c = not_too_many c.args.values.now _ c.if-values-gt-MAX_ROUTES.true c.bad-then-values-gt-MAX_ROUTES.ensures

pub returns-clause-routes : goal.returns-clause-routes
returns-clause-routes c =
    rw (within_range c.args.values.now (sym c.is_empty.ensures ∙ c.if-is_empty.false) c.if-values-gt-MAX_ROUTES.false) c.place_all.ensures.routes
