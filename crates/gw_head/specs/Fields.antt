-- The fields of a head (RFC 9110, section 5; RFC 9112, section 5).
use Rattle.std.specs.Prelude.{ℕ, ◌^◌, Bool, true, ◌&&◌, List, [], ◌∷◌, length, map, nat_lt, bytes_eq, if◌then◌else◌}
use Rattle.std.specs.List.{list_all}
use Rattle.std.specs.Char.{is_ascii_digit}
use Rattle.std.specs.Str.{str_eq_ignore_ascii_case}
use Rattle.std.specs.Str.Parse.{digits_value}
use Rattle.httparse.specs.Grammar.{Field}
use Rattle.httparse.specs.Spans.{name_and_value}

-- each field's name and its value, without the blanks around it
abbrev pub fields_of : List Field → List (List ℕ × List ℕ)
fields_of fields = map name_and_value fields

-- the values of the fields of that name, in their order; names are compared without case
abbrev pub values_named : List ℕ → List (List ℕ × List ℕ) → List (List ℕ)
values_named name [] = []
values_named name (field ∷ fields) =
    if str_eq_ignore_ascii_case field.0 name then field.1 ∷ values_named name fields
    else values_named name fields

-- how many fields have that name
abbrev pub count_named : List ℕ → List (List ℕ × List ℕ) → ℕ
count_named name fields = length (values_named name fields)

-- the field has another name, or this value
abbrev pub agrees : List ℕ → List ℕ → List ℕ × List ℕ → Bool
agrees name value field = if str_eq_ignore_ascii_case field.0 name then bytes_eq value field.1 else true

-- the value of a Content-Length: digits of a number up to 2^63 - 1 (RFC 9110, section 8.6)
abbrev pub is_length : List ℕ → Bool
is_length value = nat_lt 0 (length value) && (list_all is_ascii_digit value && nat_lt (digits_value 10 value) (2 ^ 63))
