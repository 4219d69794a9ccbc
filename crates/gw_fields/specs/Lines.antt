-- Lines that are about to be sent.
use Rattle.std.specs.Prelude.{◌≡◌, ℕ, Bool, List, [], ◌∷◌, ◌++◌, codes, if◌then◌else◌}
use Rattle.std.specs.List.{list_any}
use Rattle.gw_fields.specs.Fields.{is_named}
use Rattle.gw_fields.specs.declared.lines.Line.{Line}

-- the name and the value
abbrev pub pair_of : Line → List ℕ × List ℕ
pair_of line = (line.name.now, line.value.now)

-- the text begins with the other
abbrev pub StartsWith : List ℕ → List ℕ → Type 0
StartsWith start text = (rest : List ℕ) × (text ≡ start ++ rest)

-- there is a field of that name, without case
abbrev pub has_field : List ℕ → List (List ℕ × List ℕ) → Bool
has_field name fields = list_any (is_named name) fields

-- a value to which another is added (RFC 9110, section 5.3)
abbrev pub listed : List ℕ → List ℕ
listed value = value ++ codes ", "

-- the values of that name, each with a comma and a space behind it
abbrev pub values_text : List ℕ → List (List ℕ × List ℕ) → List ℕ
values_text name [] = []
values_text name (field ∷ fields) =
    if is_named name field then listed field.1 ++ values_text name fields else values_text name fields
