use Rattle.std.proofs.Common.{sym, ap, ◌∙◌, subst, inl}
use Rattle.gw_sets.specs.Comparison.{bytes_of}
use Rattle.gw_mux.specs.Decision.{WantsSlash, with_slash}
use Rattle.gw_mux.specs.Location.{location_of}
use Rattle.gw_mux.proofs.routing.decide_clean.Goals as goal

pub returns-in_ok-location-in-AddSlash : goal.returns-in_ok-location-in-AddSlash
returns-in_ok-location-in-AddSlash c =
    inl (
      subst (λ p. WantsSlash c.args.patterns.now c.args.method.now c.args.host.now p) (sym c.requires.clean) c.in-AddSlash.ensures,
      c.in_ok-location-in-AddSlash.ensures ∙ ap (λ p. location_of (with_slash p) (bytes_of c.args.query)) (sym c.requires.clean),
    )
