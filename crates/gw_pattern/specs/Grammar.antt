-- How a pattern is written: `[METHOD ][HOST]/[PATH]` (Go 1.22's `net/http`, "Patterns").
use Rattle.std.specs.Prelude.{◌≡◌, ◌≢◌, ℕ, ◌<◌, true, false, ◌⊎◌, List, [], ◌∷◌, ◌++◌, length, Option, Some, None, All, codes}
use Rattle.gw_pattern.specs.declared.form.Seg.{Seg}
use Rattle.gw_pattern.specs.declared.form.Seg.TheVariants.{Literal, One, Rest, End}
use Rattle.gw_pattern.specs.Path.{slash, is_slash, IsClean}
use Rattle.gw_pattern.specs.Pattern.{Spelled}
use Rattle.gw_pattern.specs.Text.{is_name, is_open_brace, is_token, literal_of}

-- the segment is written so, between two slashes
abbrev pub IsWritten : Seg → List ℕ → Type 0
IsWritten (Literal bytes) part = (0 < length part) × All (λ b. is_open_brace b ≡ false) part × (bytes ≡ literal_of part)
IsWritten (One name) part = (is_name name ≡ true) × (part ≡ codes "{" ++ (name ++ codes "}"))
IsWritten (Rest []) part = part ≡ []
IsWritten (Rest (b ∷ bs)) part = (is_name (b ∷ bs) ≡ true) × (part ≡ codes "{" ++ (((b ∷ bs) ++ codes "...") ++ codes "}"))
IsWritten End part = part ≡ codes "{$}"

abbrev pub AreWritten : List Seg → List (List ℕ) → Type 0
AreWritten [] [] = Unit {0}
AreWritten (seg ∷ segs) (part ∷ parts) = IsWritten seg part × AreWritten segs parts
AreWritten _ _ = ⊥

-- each part behind a slash
abbrev pub slashed : List (List ℕ) → List ℕ
slashed [] = []
slashed (part ∷ parts) = (slash ∷ part) ++ slashed parts

-- the method is written so, with the space behind it; a space with nothing before it says no method
abbrev pub IsMethodWritten : Option (List ℕ) → List ℕ → Type 0
IsMethodWritten None front = (front ≡ []) ⊎ (front ≡ codes " ")
IsMethodWritten (Some method) front = (front ≡ method ++ codes " ") × (is_token method ≡ true) × (method ≢ codes "CONNECT")

-- the text spells the pattern
pub record Spells (text : List ℕ) (p : Spelled) : Type 0 where
  pub front : List ℕ
  pub parts : List (List ℕ)
  pub is : text ≡ front ++ (p.host ++ slashed parts)
  pub method : IsMethodWritten p.method front
  pub no_slash : All (λ b. is_slash b ≡ false) p.host
  pub no_brace : All (λ b. is_open_brace b ≡ false) p.host
  pub clean : IsClean (slashed parts)
  pub segs : AreWritten p.segs parts
