-- Which requests a pattern matches (Go 1.22's `net/http`, "Patterns").
use Rattle.std.specs.Prelude.{◌≡◌, ℕ, Bool, true, false, List, [], ◌∷◌, Option, Some, None, codes, ◌⊎◌}
use Rattle.gw_pattern.specs.declared.form.Seg.{Seg}
use Rattle.gw_pattern.specs.declared.form.Seg.TheVariants.{Literal, One, Rest, End}
use Rattle.gw_pattern.specs.declared.form.Pattern.{Pattern}
use Rattle.gw_sets.specs.Shape.{Asked, IsShape}

-- no method matches each, GET also HEAD, and any other itself
abbrev pub MethodMatches : Option (List ℕ) → List ℕ → Type 0
MethodMatches None asked = Unit {0}
MethodMatches (Some method) asked = (asked ≡ method) ⊎ ((method ≡ codes "GET") × (asked ≡ codes "HEAD"))

-- no host matches each, and any other itself
abbrev pub HostMatches : List ℕ → List ℕ → Type 0
HostMatches [] asked = Unit {0}
HostMatches (b ∷ host) asked = asked ≡ b ∷ host

-- the pattern's segments, those of a path, and whether the path ends in a slash
abbrev pub SegsMatch : List Seg → List (List ℕ) → Bool → Type 0
SegsMatch [] [] slash = slash ≡ false
SegsMatch [] (part ∷ parts) slash = ⊥
SegsMatch (End ∷ segs) [] slash = slash ≡ true
SegsMatch (End ∷ segs) (part ∷ parts) slash = ⊥
SegsMatch (Rest name ∷ segs) [] slash = slash ≡ true
SegsMatch (Rest name ∷ segs) (part ∷ parts) slash = Unit {0}
SegsMatch (Literal bytes ∷ segs) [] slash = ⊥
SegsMatch (Literal bytes ∷ segs) (part ∷ parts) slash = (part ≡ bytes) × SegsMatch segs parts slash
SegsMatch (One name ∷ segs) [] slash = ⊥
SegsMatch (One name ∷ segs) (part ∷ parts) slash = SegsMatch segs parts slash

abbrev pub Matches : Pattern → Asked → Type 0
Matches p a = MethodMatches p.method a.method × HostMatches p.host a.host × SegsMatch p.segs.items a.segs a.slash

-- the requests that the pattern matches
abbrev pub Requests : Pattern → Asked → Type 0
Requests p a = IsShape a × Matches p a
