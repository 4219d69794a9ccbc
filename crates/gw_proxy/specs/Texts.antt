-- Texts that are kept while a head is made.
use Rattle.std.specs.Prelude.{ℕ, List, [], ◌∷◌, codes, string_bytes, Option, Some, None, String}
use Rattle.std.specs.Global.{Global}

-- the line of a length whose text is kept
abbrev pub text_fields : Option (String Global) → List (List ℕ × List ℕ)
text_fields None = []
text_fields (Some text) = (codes "content-length", string_bytes text) ∷ []
