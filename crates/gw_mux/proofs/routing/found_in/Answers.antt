use Rattle.std.proofs.Common.{◌<◌, Some, sym, subst, arith}
use Rattle.std.proofs.lemmas.List.Elements.{All-from_get_or}
use Rattle.gw_mux.specs.Answer.{TookSpans}
use Rattle.gw_mux.specs.Best.{IsAnswered}
use Rattle.gw_mux.specs.Decision.{IsBest}
use Rattle.gw_mux.specs.Request.{asked_for}
use Rattle.gw_mux.specs.Walk.{asked_by}
use Rattle.gw_mux.proofs.Chosen.{answered_within}
use Rattle.gw_mux.proofs.Finding.{wants_seen, wants_by, best_seen, no_best_seen}
use Rattle.gw_mux.proofs.Paths.{seen, sent_body}
use Rattle.gw_mux.proofs.Shapes.{shape_seen}
use Rattle.gw_mux.proofs.routing.found_in.Goals as goal

pub best-best-requires-clause-shape : goal.best-best-requires-clause-shape
best-best-requires-clause-shape c =
    let body = c.cut_slash-slash.result.0.now in
    let slash = c.cut_slash-slash.result.1 in
    shape_seen c.args.method.now c.args.host.now c.args.path.now body slash
    (All-from_get_or (λ b. b < 256) c.args.method.now 0 (λ i within. omega (arith, c.type_inv.method i)))
    (All-from_get_or (λ b. b < 256) c.args.host.now 0 (λ i within. omega (arith, c.type_inv.host i)))
    (All-from_get_or (λ b. b < 256) c.args.path.now 0 (λ i within. omega (arith, c.type_inv.path i)))
    (sent_body c.args.path.now body slash c.requires.clean c.cut_slash-slash.ensures)

pub wants_slash-requires-clause-shape : goal.wants_slash-requires-clause-shape
wants_slash-requires-clause-shape c =
    let body = c.cut_slash-slash.result.0.now in
    let slash = c.cut_slash-slash.result.1 in
    shape_seen c.args.method.now c.args.host.now c.args.path.now body slash
    (All-from_get_or (λ b. b < 256) c.args.method.now 0 (λ i within. omega (arith, c.type_inv.method i)))
    (All-from_get_or (λ b. b < 256) c.args.host.now 0 (λ i within. omega (arith, c.type_inv.host i)))
    (All-from_get_or (λ b. b < 256) c.args.path.now 0 (λ i within. omega (arith, c.type_inv.path i)))
    (sent_body c.args.path.now body slash c.requires.clean c.cut_slash-slash.ensures)

pub returns-then-wants_slash : goal.returns-then-wants_slash
returns-then-wants_slash c =
    let body = c.cut_slash-slash.result.0.now in
    let slash = c.cut_slash-slash.result.1 in
    let s = seen c.args.method.now c.args.host.now c.args.path.now body slash c.requires.clean c.cut_slash-slash.ensures in
    wants_seen c.args.patterns.now c.args.method.now c.args.host.now c.args.path.now body slash s (c.wants_slash.ensures.0 c.if-wants_slash.true)

pub hit-requires-clause-within : goal.hit-requires-clause-within
hit-requires-clause-within c =
    let body = c.cut_slash-slash.result.0.now in
    let slash = c.cut_slash-slash.result.1 in
    let a = asked_by c.args.method.now c.args.host.now body slash in
    answered_within c.args.patterns.now a (Some c.in-Some.route) (subst (λ x. IsAnswered c.args.patterns.now a x) c.in-Some.is c.best-best.ensures)

pub returns-in-Some : goal.returns-in-Some
returns-in-Some c =
    let ps = c.args.patterns.now in
    let method = c.args.method.now in
    let host = c.args.host.now in
    let path = c.args.path.now in
    let body = c.cut_slash-slash.result.0.now in
    let slash = c.cut_slash-slash.result.1 in
    let a = asked_by method host body slash in
    let s = seen method host path body slash c.requires.clean c.cut_slash-slash.ensures in
    let best = best_seen ps method host path body slash c.in-Some.route s (subst (λ x. IsAnswered ps a x) c.in-Some.is c.best-best.ensures) in (
      λ w. let e = c.wants_slash.ensures.1 (wants_by ps method host path body slash s w) in cc (e, c.if-wants_slash.false),
      (subst (λ i. IsBest ps (asked_for method host path) i) (sym c.hit.ensures.route) best, subst (λ i. TookSpans ps i path c.hit.result.spans) (sym c.hit.ensures.route) c.hit.ensures.spans),
    )

pub returns-in-None : goal.returns-in-None
returns-in-None c =
    let ps = c.args.patterns.now in
    let method = c.args.method.now in
    let host = c.args.host.now in
    let path = c.args.path.now in
    let body = c.cut_slash-slash.result.0.now in
    let slash = c.cut_slash-slash.result.1 in
    let a = asked_by method host body slash in
    let s = seen method host path body slash c.requires.clean c.cut_slash-slash.ensures in (
      λ w. let e = c.wants_slash.ensures.1 (wants_by ps method host path body slash s w) in cc (e, c.if-wants_slash.false),
      no_best_seen ps method host path body slash s (subst (λ x. IsAnswered ps a x) c.in-None.is c.best-best.ensures),
    )
