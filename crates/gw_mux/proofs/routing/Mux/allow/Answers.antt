use Rattle.std.proofs.Common.{◌<◌, All, length, sym, subst, ◌∙◌}
use Rattle.gw_mux.specs.Allow.{AreAllowed, IsAllow}
use Rattle.gw_mux.proofs.Methods.{allow_from, served_within}
use Rattle.gw_mux.proofs.routing.Mux.allow.Goals as goal

pub allowed-requires : goal.allowed-requires
allowed-requires c =
    subst (λ ps. All (λ i. i < length ps) c.deref-4.result.now) (c.deref.ensures.value ∙ sym c.deref-3.ensures.value)
    (subst (λ ns. All (λ i. i < length c.deref.result.now) ns) (sym c.deref-4.ensures.value)
    (served_within c.deref.result.now c.args.host.now c.args.path.now c.in_ok-served.served.items c.in_ok-served.ensures))

pub returns : goal.returns
returns c =
    let ns = c.in_ok-served.served.items in
    let methods = c.in_ok-allowed.field-0.items in
    subst (λ ps. IsAllow ps c.args.host.now c.args.path.now methods) (c.deref.ensures.value ∙ c.self.view_is)
    (allow_from c.deref.result.now c.args.host.now c.args.path.now ns methods c.in_ok-served.ensures
    (subst (λ ps. AreAllowed ps ns methods) (c.deref-3.ensures.value ∙ sym c.deref.ensures.value)
    (subst (λ xs. AreAllowed c.deref-3.result.now xs methods) c.deref-4.ensures.value c.in_ok-allowed.ensures)))
