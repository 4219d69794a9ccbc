-- Lists of fields, and the fields that the gateway adds.
use Rattle.std.specs.Prelude.{ℕ, Bool, true, false, not, List, [], ◌∷◌, ◌++◌, codes, decimal, filter, Option, Some, None, if◌then◌else◌}
use Rattle.gw_fields.specs.Fields.{is_named}
use Rattle.gw_fields.specs.Order.{lines_of, sorted}
use Rattle.gw_head.specs.declared.framing.Framing.{Framing}
use Rattle.gw_head.specs.declared.framing.Framing.TheVariants.{None as NoBody, Length, Chunked, ToEnd}

-- the fields without those of that name
abbrev pub without : List ℕ → List (List ℕ × List ℕ) → List (List ℕ × List ℕ)
without name fields = filter (λ field. not (is_named name field)) fields

-- the field lines in their order, and the empty line that ends the head (RFC 9112, section 2.1)
abbrev pub field_section : List (List ℕ × List ℕ) → List ℕ
field_section fields = lines_of (sorted fields) ++ codes "\r\n"

-- the length of the body, where it is said (RFC 9110, section 8.6)
abbrev pub length_fields : Option ℕ → List (List ℕ × List ℕ)
length_fields None = []
length_fields (Some n) = (codes "content-length", decimal n) ∷ []

abbrev pub is_in_chunks : Framing → Bool
is_in_chunks NoBody = false
is_in_chunks (Length n) = false
is_in_chunks Chunked = true
is_in_chunks ToEnd = false

-- that the body is in chunks, where it is (RFC 9112, section 6.1)
abbrev pub coding_fields : Framing → List (List ℕ × List ℕ)
coding_fields framing =
    if is_in_chunks framing then (codes "transfer-encoding", codes "chunked") ∷ [] else []
