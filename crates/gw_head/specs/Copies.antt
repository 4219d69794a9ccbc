-- Fields that can be kept as names and values.
use Rattle.std.specs.Prelude.{ℕ, List}
use Rattle.http_header.specs.FieldName.{IsFieldName}
use Rattle.http_header.specs.FieldValue.{IsFieldValue}

-- the name is a token of at most 65,535 bytes, and no byte of the value ends a line
abbrev pub IsCopyable : List ℕ × List ℕ → Type 0
IsCopyable field = IsFieldName field.0 × IsFieldValue field.1
