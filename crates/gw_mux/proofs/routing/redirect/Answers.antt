use Rattle.std.proofs.Common.{◌≡◌, [], ◌∷◌, ◌++◌, sym, ◌∙◌, subst, if◌then◌else◌}
use Rattle.std.specs.Bool.{MatchBool}
use Rattle.gw_sets.specs.Comparison.{bytes_of}
use Rattle.gw_pattern.specs.Path.{IsClean, cleaned, slash}
use Rattle.gw_pattern.proofs.Tidy.{clean_cleaned}
use Rattle.gw_mux.specs.Answer.{adds_slash}
use Rattle.gw_mux.specs.Decision.{WantsSlash}
use Rattle.gw_mux.specs.Location.{location_of}
use Rattle.gw_mux.proofs.Redirecting.{slash_told, redirected}
use Rattle.gw_mux.proofs.routing.redirect.Goals as goal

pub found_in-requires-clause-clean : goal.found_in-requires-clause-clean
found_in-requires-clause-clean c =
    subst IsClean (sym (c.deref.ensures.value ∙ c.in_ok-clean.ensures)) (clean_cleaned c.args.path.now)

pub returns : goal.returns
returns c =
    let ps = c.args.patterns.now in
    let method = c.args.method.now in
    let host = c.args.host.now in
    let path = c.args.path.now in
    let query = bytes_of c.args.query in
    let b = c.adds_slash-adds_slash.result in
    let clean : c.deref.result.now ≡ cleaned path = c.deref.ensures.value ∙ c.in_ok-clean.ensures in
    let clean' : c.deref-2.result.now ≡ cleaned path = c.deref-2.ensures.value ∙ c.in_ok-clean.ensures in
    let told = subst (λ p. MatchBool (adds_slash c.found_in.result) (WantsSlash ps method host p) (WantsSlash ps method host p → ⊥)) clean (slash_told ps method host c.deref.result.now c.found_in.result c.found_in.ensures) in
    redirected ps method host path query b c.in_ok-location.field-0.items c.requires.unclean
    (subst (λ x. MatchBool x (WantsSlash ps method host (cleaned path)) (WantsSlash ps method host (cleaned path) → ⊥)) (sym c.adds_slash-adds_slash.ensures) told)
    (subst (λ p. c.in_ok-location.field-0.items ≡ location_of (if b then p ++ slash ∷ [] else p) query) clean' c.in_ok-location.ensures)
