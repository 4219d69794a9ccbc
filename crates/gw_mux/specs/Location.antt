-- How a redirect's target is written (RFC 9110, section 10.2.2).
use Rattle.std.specs.Prelude.{ℕ, Bool, not, ◌&&◌, ◌||◌, ◌==◌, List, [], ◌∷◌, ◌++◌, Option, Some, None, nat_le, if◌then◌else◌}
use Rattle.std.specs.List.{flat_map}
use Rattle.percent_encoding.specs.Percent.{percent_encode_byte}

-- the byte is printable ASCII without the space, and none of `"`, `<`, `>`, `\`, `^`, `` ` ``, `{`, `|`, `}`
abbrev pub is_plain : ℕ → Bool
is_plain b =
    nat_le 33 b && nat_le b 126
    && not (b == 34 || b == 60 || b == 62 || b == 92 || b == 94 || b == 96 || b == 123 || b == 124 || b == 125)

-- any other byte is written as `%` and its two upper-case hexadecimal digits
abbrev pub written_byte : ℕ → List ℕ
written_byte b = if is_plain b then b ∷ [] else percent_encode_byte b

abbrev pub written : List ℕ → List ℕ
written bytes = flat_map written_byte bytes

-- the path, and behind `?` the query, where there was one
abbrev pub location_of : List ℕ → Option (List ℕ) → List ℕ
location_of path None = written path
location_of path (Some query) = written path ++ 63 ∷ written query
