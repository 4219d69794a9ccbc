-- The order and the spelling of fields that are sent.
use Rattle.std.specs.Prelude.{◌≡◌, ℕ, Bool, true, List, [], ◌∷◌, ◌++◌, codes, flat_map, ◌==◌, if◌then◌else◌}
use Rattle.std.specs.Char.{to_ascii_uppercase}
use Rattle.std.specs.Str.{str_to_ascii_lowercase}
use Rattle.std.specs.Cmp.Lexicographic.{slice_cmp}
use Rattle.std.specs.Ordering.{is_lt, nat_cmp}

-- the name stands before the other in the order of bytes
abbrev pub is_below : List ℕ → List ℕ → Bool
is_below name other = is_lt (slice_cmp nat_cmp name other)

-- the field among fields in order: behind those whose names are below its own, before all others
abbrev pub placed : List ℕ × List ℕ → List (List ℕ × List ℕ) → List (List ℕ × List ℕ)
placed field [] = field ∷ []
placed field (next ∷ fields) =
    if is_below next.0 field.0 then next ∷ placed field fields else field ∷ next ∷ fields

-- the fields in the order of their names
abbrev pub sorted : List (List ℕ × List ℕ) → List (List ℕ × List ℕ)
sorted [] = []
sorted (field ∷ fields) = placed field (sorted fields)

-- no letter of the name is in upper case
abbrev pub IsLowerCase : List ℕ → Type 0
IsLowerCase name = str_to_ascii_lowercase name ≡ name

-- the name with its first letter and each letter behind a '-' in upper case; `starts` says whether it is at such a place
abbrev pub spelled_from : Bool → List ℕ → List ℕ
spelled_from starts [] = []
spelled_from starts (b ∷ name) = (if starts then to_ascii_uppercase b else b) ∷ spelled_from (b == 45) name

abbrev pub spelled : List ℕ → List ℕ
spelled name = spelled_from true name

-- a field line with its line end (RFC 9112, section 5)
abbrev pub line_of : List ℕ × List ℕ → List ℕ
line_of field = ((spelled field.0 ++ codes ": ") ++ field.1) ++ codes "\r\n"

abbrev pub lines_of : List (List ℕ × List ℕ) → List ℕ
lines_of fields = flat_map line_of fields
