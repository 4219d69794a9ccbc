use Rattle.std.proofs.Common.{subst, length}
use Rattle.gw_mux.specs.Best.{IsChosen}
use Rattle.gw_mux.specs.Walk.{asked_by}
use Rattle.gw_mux.proofs.Chosen.{best_of_own, best_of_free, no_bytes, none_of_own}
use Rattle.gw_mux.proofs.best.best.Goals as goal

pub returns-in-Some : goal.returns-in-Some
returns-in-Some c =
    let ps = c.args.patterns.now in
    let a = asked_by c.args.method.now c.args.host.now c.args.path.body.now c.args.path.slash in
    best_of_own ps a c.in-Some.best (subst (λ x. IsChosen ps a (length ps) x) c.in-Some.is c.best_with_host.ensures)

pub returns-in-None-2 : goal.returns-in-None-2
returns-in-None-2 c =
    let ps = c.args.patterns.now in
    let a = asked_by c.args.method.now c.args.host.now c.args.path.body.now c.args.path.slash in
    best_of_free ps a c.best_with_host-in-None-2.result (subst (λ x. IsChosen ps a (length ps) x) c.in-None.is c.best_with_host.ensures) c.best_with_host-in-None-2.ensures

pub returns-in-None : goal.returns-in-None
returns-in-None c =
    let ps = c.args.patterns.now in
    let a = asked_by c.args.method.now c.args.host.now c.args.path.body.now c.args.path.slash in
    none_of_own ps a (no_bytes c.args.host.now _ c.is_empty.ensures c.if-is_empty.true) (subst (λ x. IsChosen ps a (length ps) x) c.in-None.is c.best_with_host.ensures)
