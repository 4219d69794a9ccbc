-- What the router answers.
use Rattle.std.specs.Prelude.{◌≡◌, ◌≢◌, ℕ, Bool, true, false, List, Option, ◌⊎◌}
use Rattle.gw_pattern.specs.declared.form.Pattern.{Pattern}
use Rattle.gw_pattern.specs.Path.{cleaned}
use Rattle.gw_mux.specs.declared.answer.Hit.{Hit}
use Rattle.gw_mux.specs.declared.answer.Found.{Found}
use Rattle.gw_mux.specs.declared.answer.Found.TheVariants.{Route, AddSlash, Nothing}
use Rattle.gw_mux.specs.declared.answer.Decision.{Decision}
use Rattle.gw_mux.specs.declared.answer.Decision.TheVariants.{Route as Routed, Redirect, NotAllowed, NotFound}
use Rattle.gw_mux.specs.declared.answer.MuxError.{MuxError}
use Rattle.gw_mux.specs.declared.answer.MuxError.TheVariants.{Conflict, NoMemory}
use Rattle.gw_mux.specs.Allow.{IsAllow, IsServed}
use Rattle.gw_mux.specs.Decision.{IsBest, HasNoBest, WantsSlash, with_slash}
use Rattle.gw_mux.specs.Location.{location_of}
use Rattle.gw_mux.specs.Request.{asked_for, spans_of}
use Rattle.gw_mux.specs.Table.{IsAt, IsFirstConflict}

-- the list is refused for its first conflict, or for want of memory
abbrev pub Refuses : List Pattern → MuxError → Type 0
Refuses patterns (Conflict first second) = IsFirstConflict patterns first second
Refuses patterns NoMemory = Unit {0}

-- what the named wildcards of the pattern of that number take of the path
abbrev pub TookSpans : List Pattern → ℕ → List ℕ → List (ℕ × ℕ) → Type 0
TookSpans patterns i path spans = (p : Pattern) × IsAt patterns i p × (spans ≡ spans_of p.segs.items path)

-- the best pattern, and what its named wildcards take
abbrev pub IsHit : List Pattern → List ℕ → List ℕ → List ℕ → Hit → Type 0
IsHit patterns method host path hit =
    IsBest patterns (asked_for method host path) hit.route × TookSpans patterns hit.route path hit.spans

-- what a clean path finds
abbrev pub Finds : List Pattern → List ℕ → List ℕ → List ℕ → Found → Type 0
Finds patterns method host path (Route hit) =
    (WantsSlash patterns method host path → ⊥) × IsHit patterns method host path hit
Finds patterns method host path AddSlash = WantsSlash patterns method host path
Finds patterns method host path Nothing =
    (WantsSlash patterns method host path → ⊥) × HasNoBest patterns (asked_for method host path)

abbrev pub adds_slash : Found → Bool
adds_slash (Route hit) = false
adds_slash AddSlash = true
adds_slash Nothing = false

-- the clean path is served for other methods, which are these; or it is not served
abbrev pub RefusesMethod : List Pattern → List ℕ → List ℕ → Decision → Type 0
RefusesMethod patterns host path (Routed hit) = ⊥
RefusesMethod patterns host path (Redirect location) = ⊥
RefusesMethod patterns host path (NotAllowed methods) =
    ((i : ℕ) × IsServed patterns host path i) × IsAllow patterns host path methods.items
RefusesMethod patterns host path NotFound = (i : ℕ) → IsServed patterns host path i → ⊥

-- no redirect is due: neither one with a slash more, nor one to the cleaned path
abbrev pub IsDirect : List Pattern → List ℕ → List ℕ → List ℕ → Type 0
IsDirect patterns method host path = (WantsSlash patterns method host path → ⊥) × (cleaned path ≡ path)

-- the decision: the redirect to the cleaned path with a slash more, the redirect to the cleaned path, the best
-- pattern, the methods that are allowed, or nothing; the first of these that holds
abbrev pub Decides : List Pattern → List ℕ → List ℕ → List ℕ → Option (List ℕ) → Decision → Type 0
Decides patterns method host path query (Redirect location) =
    (WantsSlash patterns method host (cleaned path) × (location.items ≡ location_of (with_slash (cleaned path)) query))
    ⊎ ((WantsSlash patterns method host (cleaned path) → ⊥) × (cleaned path ≢ path) × (location.items ≡ location_of (cleaned path) query))
Decides patterns method host path query (Routed hit) =
    IsDirect patterns method host path × IsHit patterns method host path hit
Decides patterns method host path query (NotAllowed methods) =
    IsDirect patterns method host path × HasNoBest patterns (asked_for method host path)
    × ((i : ℕ) × IsServed patterns host path i) × IsAllow patterns host path methods.items
Decides patterns method host path query NotFound =
    IsDirect patterns method host path × HasNoBest patterns (asked_for method host path)
    × ((i : ℕ) → IsServed patterns host path i → ⊥)
