-- The redirect of a path that is not clean.
use Rattle.std.proofs.Common.{◌≡◌, ◌≢◌, ℕ, Bool, true, false, List, [], ◌∷◌, ◌++◌, Option, ◌⊎◌, inl, inr, if◌then◌else◌}
use Rattle.std.specs.Bool.{MatchBool}
use Rattle.gw_pattern.specs.declared.form.Pattern.{Pattern}
use Rattle.gw_pattern.specs.Path.{cleaned, slash}
use Rattle.gw_mux.specs.declared.answer.Found.{Found}
use Rattle.gw_mux.specs.declared.answer.Found.TheVariants.{Route, AddSlash, Nothing}
use Rattle.gw_mux.specs.Answer.{Finds, adds_slash}
use Rattle.gw_mux.specs.Decision.{WantsSlash, with_slash}
use Rattle.gw_mux.specs.Location.{location_of}

pub slash_told : (patterns : List Pattern) (method host path : List ℕ) (found : Found) → Finds patterns method host path found → MatchBool (adds_slash found) (WantsSlash patterns method host path) (WantsSlash patterns method host path → ⊥)
slash_told patterns method host path (Route hit) h = h.0
slash_told patterns method host path AddSlash h = h
slash_told patterns method host path Nothing h = h.0

pub redirected : (patterns : List Pattern) (method host path : List ℕ) (query : Option (List ℕ)) (b : Bool) (bytes : List ℕ) → (cleaned path ≡ path → ⊥) → MatchBool b (WantsSlash patterns method host (cleaned path)) (WantsSlash patterns method host (cleaned path) → ⊥) → bytes ≡ location_of (if b then cleaned path ++ slash ∷ [] else cleaned path) query → (WantsSlash patterns method host (cleaned path) × (bytes ≡ location_of (with_slash (cleaned path)) query)) ⊎ ((WantsSlash patterns method host (cleaned path) → ⊥) × (cleaned path ≢ path) × (bytes ≡ location_of (cleaned path) query))
redirected patterns method host path query true bytes unclean h e = inl (h, e)
redirected patterns method host path query false bytes unclean h e = inr (h, unclean, e)
