-- What a request asks for, as patterns see it: method, host, the decoded segments of its cleaned path, and whether
-- the path ends in a slash.
use Rattle.std.specs.Prelude.{ℕ, ◌<◌, Bool, List, length, All}
use Rattle.std.specs.List.{AllByRecursion}
use Rattle.gw_sets.specs.declared.shape.Shape.{Shape}

-- a shape without where it lies in memory
pub record Asked : Type 0 where
  pub method : List ℕ
  pub host : List ℕ
  pub segs : List (List ℕ)
  pub slash : Bool

abbrev pub asked_of : Shape → Asked
asked_of s = record { method = s.method; host = s.host; segs = s.segs.items; slash = s.slash }

abbrev pub AreBytes : List ℕ → Type 0
AreBytes bytes = All (λ b. b < 256) bytes

-- at least one byte
abbrev pub IsSegment : List ℕ → Type 0
IsSegment part = (0 < length part) × AreBytes part

abbrev pub AreSegments : List (List ℕ) → Type 0
AreSegments parts = AllByRecursion IsSegment parts

-- everything asked for is bytes, and no segment is empty
abbrev pub IsShape : Asked → Type 0
IsShape a = AreBytes a.method × AreBytes a.host × AreSegments a.segs
