-- What the laws say of decisions.
use Rattle.std.specs.Prelude.{ℕ, ◌<◌, ◌≤◌, List, length, Option, Some, None}
use Rattle.gw_wire.specs.Visible.{AreVisible}
use Rattle.gw_mux.specs.declared.answer.Decision.{Decision}
use Rattle.gw_mux.specs.declared.answer.Decision.TheVariants.{Route as Routed, Redirect, NotAllowed, NotFound}

-- what a decision says, without where it lies in memory: a route with its spans, a target, or methods, if there are any
pub record Told : Type 0 where
  pub route : Option (ℕ × List (ℕ × ℕ))
  pub target : Option (List ℕ)
  pub methods : Option (List (List ℕ))

abbrev pub told_by : Decision → Told
told_by (Routed hit) = record { route = Some (hit.route, hit.spans); target = None; methods = None }
told_by (Redirect location) = record { route = None; target = Some location.items; methods = None }
told_by (NotAllowed methods) = record { route = None; target = None; methods = Some methods.items }
told_by NotFound = record { route = None; target = None; methods = None }

-- the place lies in a path of that length
abbrev pub IsSpanIn : ℕ → ℕ × ℕ → Type 0
IsSpanIn end span = (span.0 ≤ span.1) × (span.1 ≤ end)

-- where only some methods are allowed, one is named
abbrev pub NamesMethod : Decision → Type 0
NamesMethod (Routed hit) = Unit {0}
NamesMethod (Redirect location) = Unit {0}
NamesMethod (NotAllowed methods) = 0 < length methods.items
NamesMethod NotFound = Unit {0}

-- a redirect's target is visible ASCII
abbrev pub HasVisibleTarget : Decision → Type 0
HasVisibleTarget (Routed hit) = Unit {0}
HasVisibleTarget (Redirect location) = AreVisible location.items
HasVisibleTarget (NotAllowed methods) = Unit {0}
HasVisibleTarget NotFound = Unit {0}
