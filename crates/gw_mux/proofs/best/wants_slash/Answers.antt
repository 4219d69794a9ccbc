use Rattle.std.proofs.Common.{true}
use Rattle.gw_mux.specs.Walk.{asked_by}
use Rattle.gw_mux.proofs.Chosen.{answered_within, exact_best}
use Rattle.gw_mux.proofs.best.wants_slash.Goals as goal

pub is_exact_best-requires : goal.is_exact_best-requires
is_exact_best-requires c =
    answered_within c.args.patterns.now (asked_by c.args.method.now c.args.host.now c.args.path.body.now c.args.path.slash) c.args.found c.requires.answered

pub is_exact_best-requires-2 : goal.is_exact_best-requires-2
is_exact_best-requires-2 c =
    answered_within c.args.patterns.now (asked_by c.args.method.now c.args.host.now c.args.path.body.now true) c.best-other.result c.best-other.ensures

pub returns : goal.returns
returns c =
    let ps = c.args.patterns.now in
    let d = exact_best ps (asked_by c.args.method.now c.args.host.now c.args.path.body.now c.args.path.slash) c.args.found c.requires.answered in
    let e = exact_best ps (asked_by c.args.method.now c.args.host.now c.args.path.body.now true) c.best-other.result c.best-other.ensures in (
      λ t. (λ x. let y = c.is_exact_best.ensures.1 (d.1 x) in cc (y, c.if-is_exact_best.false), c.if-path.false, e.0 (c.is_exact_best-2.ensures.0 t)),
      λ w. c.is_exact_best-2.ensures.1 (e.1 w.2),
    )
