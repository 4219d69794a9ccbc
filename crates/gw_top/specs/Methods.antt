-- A list of methods as a field has it.
use Rattle.std.specs.Prelude.{ℕ, List, [], ◌∷◌, ◌++◌, codes}

-- a list as a field has it (RFC 9110, section 5.6.1)
abbrev pub listed_behind : List (List ℕ) → List ℕ
listed_behind [] = []
listed_behind (word ∷ words) = codes ", " ++ word ++ listed_behind words

abbrev pub listed : List (List ℕ) → List ℕ
listed [] = []
listed (word ∷ words) = word ++ listed_behind words
