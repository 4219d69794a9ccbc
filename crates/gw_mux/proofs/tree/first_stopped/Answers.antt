use Rattle.std.proofs.Common.{◌≡◌, ◌+◌, [], ◌∷◌, true, None, Some, codes, sym, subst, ◌∙◌, arith}
use Rattle.std.proofs.lemmas.Slice.Eq.{bytes_eq-Decides}
use Rattle.gw_mux.specs.Found.{IsWith}
use Rattle.gw_mux.proofs.MethodBranches.{by_get, by_none, by_own}
use Rattle.gw_mux.proofs.tree.first_stopped.Goals as goal
use Rattle.gw_mux.proofs.tree.first_stopped.Goals.{then-eq+in_default-first_with, else-eq}

pub returns-in-Some : goal.returns-in-Some
returns-in-Some c =
    let ps = c.args.patterns.now in
    let at = c.args.at in
    let m = c.args.method.now in
    let run = c.run_of-stopped.result.now in
    let two : at + 2 ≡ at + 1 + 1 = omega arith in
    by_own ps at c.args.numbers.now run m c.requires.node c.run_of-stopped.ensures c.in-Some.first
    (subst (λ d. IsWith ps d (5 ∷ m) run (Some c.in-Some.first)) two (subst (λ r. IsWith ps (at + 2) (5 ∷ m) run r) c.in-Some.is c.first_with.ensures))

pub returns-in-Some-first_with : goal.returns-in-Some-first_with
returns-in-Some-first_with c =
    let ps = c.args.patterns.now in
    let at = c.args.at in
    let m = c.args.method.now in
    let run = c.run_of-stopped.result.now in
    let two : at + 2 ≡ at + 1 + 1 = omega arith in
    let head : m ≡ codes "HEAD" = (bytes_eq-Decides m c.as_slice.result.now).0 (sym c.eq.ensures ∙ c.if-eq.true) ∙ c.as_slice.ensures in
    by_get ps at c.args.numbers.now run m c.requires.node c.run_of-stopped.ensures c.in-Some-first_with.first head
    (subst (λ d. IsWith ps d (5 ∷ m) run None) two (subst (λ r. IsWith ps (at + 2) (5 ∷ m) run r) c.in_default.is c.first_with.ensures))
    (subst (λ d. IsWith ps d (5 ∷ codes "GET") run (Some c.in-Some-first_with.first)) two (subst (λ r. IsWith ps (at + 2) (5 ∷ codes "GET") run r) c.in-Some-first_with.is c.first_with-then-eq.ensures))

pub returns : goal.returns
returns c =
    let ps = c.args.patterns.now in
    let at = c.args.at in
    let m = c.args.method.now in
    let run = c.run_of-stopped.result.now in
    let two : at + 2 ≡ at + 1 + 1 = omega arith in
    by_none ps at c.args.numbers.now run m c.requires.node c.run_of-stopped.ensures c.first_with-2.result
    (subst (λ d. IsWith ps d (5 ∷ m) run None) two (subst (λ r. IsWith ps (at + 2) (5 ∷ m) run r) c.in_default.is c.first_with.ensures))
    (λ head. elim c.if-eq.branch [
      | then-eq+in_default-first_with w ↦
          subst (λ d. IsWith ps d (5 ∷ codes "GET") run None) two (subst (λ r. IsWith ps (at + 2) (5 ∷ codes "GET") run r) w.in_default-first_with.is w.first_with-then-eq.ensures)
      | else-eq w ↦
          let e : c.eq.result ≡ true = c.eq.ensures ∙ (bytes_eq-Decides m c.as_slice.result.now).1 (head ∙ sym c.as_slice.ensures) in
          absurd (cc (e, w.if-eq.false))
    ])
    (subst (λ d. IsWith ps d (6 ∷ []) run c.first_with-2.result) two c.first_with-2.ensures)
