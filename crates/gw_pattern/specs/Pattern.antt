-- Patterns, as contracts see them.
use Rattle.std.specs.Prelude.{ℕ, ◌<◌, Bool, true, false, not, List, [], ◌∷◌, length, Option, All, count_by, bytes_eq}
use Rattle.gw_pattern.specs.declared.form.Seg.{Seg}
use Rattle.gw_pattern.specs.declared.form.Seg.TheVariants.{Literal, One, Rest, End}
use Rattle.gw_pattern.specs.declared.form.Pattern.{Pattern}

-- a pattern without where it lies in memory
pub record Spelled : Type 0 where
  pub method : Option (List ℕ)
  pub host : List ℕ
  pub segs : List Seg

abbrev pub spelled_of : Pattern → Spelled
spelled_of p = record { method = p.method; host = p.host; segs = p.segs.items }

-- the bytes of a literal: at least one, each a byte
abbrev pub IsLiteral : List ℕ → Type 0
IsLiteral bytes = (0 < length bytes) × All (λ b. b < 256) bytes

-- the segment may stand last
abbrev pub MayEnd : Seg → Type 0
MayEnd (Literal bytes) = IsLiteral bytes
MayEnd (One name) = Unit {0}
MayEnd (Rest name) = Unit {0}
MayEnd End = Unit {0}

-- the segment may stand before another
abbrev pub MayStand : Seg → Type 0
MayStand (Literal bytes) = IsLiteral bytes
MayStand (One name) = Unit {0}
MayStand (Rest name) = ⊥
MayStand End = ⊥

-- at least one segment; the rest of a path and its end stand only last; literals are bytes, and not empty
abbrev pub AreWellFormed : List Seg → Type 0
AreWellFormed [] = ⊥
AreWellFormed (seg ∷ []) = MayEnd seg
AreWellFormed (seg ∷ next ∷ segs) = MayStand seg × AreWellFormed (next ∷ segs)

-- what a pattern is, of which matching speaks
abbrev pub IsWellFormed : Pattern → Type 0
IsWellFormed p = AreWellFormed p.segs.items

-- the segment is a wildcard with a name; the rest behind a slash has an empty one
abbrev pub is_named : Seg → Bool
is_named (Literal bytes) = false
is_named (One name) = true
is_named (Rest name) = not (bytes_eq name [])
is_named End = false

-- how many named wildcards there are
abbrev pub wildcard_count : List Seg → ℕ
wildcard_count segs = count_by is_named segs
