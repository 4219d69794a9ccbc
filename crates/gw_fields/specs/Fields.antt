-- The fields of a message, as pairs of a name and a value (RFC 9110, section 5).
use Rattle.std.specs.Prelude.{ℕ, Bool, ◌&&◌, List}
use Rattle.std.specs.List.{list_any}
use Rattle.std.specs.Str.{str_eq_ignore_ascii_case}
use Rattle.http_header.specs.FieldValue.{FieldValue}
use Rattle.gw_fields.specs.Lists.{lists_token}

-- a name with the bytes of its value
abbrev pub pair_of : List ℕ × FieldValue → List ℕ × List ℕ
pair_of field = (field.0, field.1.bytes)

-- the field has that name, without case
abbrev pub is_named : List ℕ → List ℕ × List ℕ → Bool
is_named name field = str_eq_ignore_ascii_case field.0 name

-- the field has that name, and its value lists the token
abbrev pub names_token : List ℕ → List ℕ → List ℕ × List ℕ → Bool
names_token name token field = is_named name field && lists_token token field.1

-- some field of that name lists the token
abbrev pub has_token : List ℕ → List ℕ → List (List ℕ × List ℕ) → Bool
has_token name token fields = list_any (names_token name token) fields
