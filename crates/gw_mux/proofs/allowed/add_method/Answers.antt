use Rattle.std.proofs.Common.{◌≡◌, true, false, sym, subst, ◌∙◌}
use Rattle.gw_sets.specs.Comparison.{is_get}
use Rattle.gw_mux.specs.Allow.{HasGained, named_methods}
use Rattle.gw_mux.proofs.Serving.{gained_get, gained_other}
use Rattle.gw_mux.proofs.allowed.add_method.Goals as goal

pub returns-in_ok-add_once-2 : goal.returns-in_ok-add_once-2
returns-in_ok-add_once-2 c =
    let old = c.args.methods.now.items in
    let new = c.add_once-then-eq.new.methods.items in
    let own = c.in-Some.method in
    let e : is_get own ≡ true = rw (← c.as_str.ensures.value, ← c.as_bytes.ensures.value, ← c.as_slice.ensures) (sym c.eq.ensures ∙ c.if-eq.true) in
    subst (λ m. HasGained old (named_methods m) new) (sym c.in-Some.is) (gained_get old c.add_once.new.methods.items new own e c.in_ok-add_once.ensures c.in_ok-add_once-2.ensures)

pub returns-else-eq : goal.returns-else-eq
returns-else-eq c =
    let old = c.args.methods.now.items in
    let new = c.add_once.new.methods.items in
    let own = c.in-Some.method in
    let e : is_get own ≡ false = rw (← c.as_str.ensures.value, ← c.as_bytes.ensures.value, ← c.as_slice.ensures) (sym c.eq.ensures ∙ c.if-eq.false) in
    subst (λ m. HasGained old (named_methods m) new) (sym c.in-Some.is) (gained_other old new own e c.in_ok-add_once.ensures)
