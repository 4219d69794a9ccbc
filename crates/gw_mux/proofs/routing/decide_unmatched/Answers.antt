use Rattle.std.proofs.Common.{◌<◌, All, length, vec_len, get_or, sym, subst, ◌∙◌, arith}
use Rattle.std.proofs.lemmas.Bool.{eqb-true, eqb-false}
use Rattle.std.proofs.lemmas.List.Elements.{Contains-get_or}
use Rattle.gw_mux.specs.Allow.{AreAllowed}
use Rattle.gw_mux.proofs.Methods.{allow_from, served_within}
use Rattle.gw_mux.proofs.routing.decide_unmatched.Goals as goal

pub returns-then-is_empty : goal.returns-then-is_empty
returns-then-is_empty c =
    let e = eqb-true (vec_len c.in_ok-served.served) 0 (sym c.is_empty.ensures ∙ c.if-is_empty.true) in
    λ i s. let k = (c.in_ok-served.ensures i).1 s in omega (arith, e, k.1)

pub allowed-requires : goal.allowed-requires
allowed-requires c =
    subst (λ ns. All (λ i. i < length c.args.patterns.now) ns) (sym c.deref.ensures.value)
    (served_within c.args.patterns.now c.args.host.now c.args.path.now c.in_ok-served.served.items c.in_ok-served.ensures)

pub returns : goal.returns
returns c =
    let ns = c.in_ok-served.served.items in
    let ne = eqb-false (vec_len c.in_ok-served.served) 0 (sym c.is_empty.ensures ∙ c.if-is_empty.false) in
    let i = get_or ns 0 0 in (
      (i, (c.in_ok-served.ensures i).0 (Contains-get_or ns 0 0 (omega (arith, ne)))),
      allow_from c.args.patterns.now c.args.host.now c.args.path.now ns c.in_ok-allowed.field-0.items c.in_ok-served.ensures
          (subst (λ xs. AreAllowed c.args.patterns.now xs c.in_ok-allowed.field-0.items) c.deref.ensures.value c.in_ok-allowed.ensures),
    )
