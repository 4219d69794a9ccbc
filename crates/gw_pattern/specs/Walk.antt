-- What the private steps of cleaning return.
use Rattle.std.specs.Prelude.{◌≡◌, ℕ, ◌+◌, Bool, List, [], ◌∷◌, ◌++◌, reverse, length, Option, Some, None, MatchOption, if◌then◌else◌}
use Rattle.std.specs.Borrow.{Bor}
use Rattle.gw_pattern.specs.Path.{slash, is_slash, is_idle, is_parent, parts_of}

-- the bytes of a path are those of its first part, and after a slash those of the rest, if there is one
abbrev pub SplitsPart : List ℕ → List ℕ → Option (Bor (List ℕ)) → Type 0
SplitsPart path part after =
    MatchOption after ((part ≡ path) × (parts_of path ≡ part ∷ [])) (λ rest. (path ≡ part ++ slash ∷ rest.now) × (parts_of path ≡ part ∷ parts_of rest.now))

-- the parts that are left, if any
abbrev pub parts_left : Option (Bor (List ℕ)) → List (List ℕ)
parts_left None = []
parts_left (Some rest) = parts_of rest.now

-- how far the end is
abbrev pub bytes_left : Option (Bor (List ℕ)) → ℕ
bytes_left None = 0
bytes_left (Some rest) = length rest.now + 1

-- the bytes after the first slash
abbrev pub past_slash : List ℕ → List ℕ
past_slash [] = []
past_slash (b ∷ bs) = if is_slash b then bs else past_slash bs

-- the bytes before the last slash
abbrev pub without_last_part : List ℕ → List ℕ
without_last_part bytes = reverse (past_slash (reverse bytes))

-- the bytes of a cleaned path so far, once one more part is read
abbrev pub with_part_bytes : List ℕ → List ℕ → List ℕ
with_part_bytes bytes part =
    if is_idle part then bytes else (if is_parent part then without_last_part bytes else bytes ++ slash ∷ part)

-- the bytes of a cleaned path, of those of its parts and whether it ends in a slash
abbrev pub closed_bytes : List ℕ → Bool → List ℕ
closed_bytes [] slashed = slash ∷ []
closed_bytes (b ∷ bs) slashed = (b ∷ bs) ++ (if slashed then slash ∷ [] else [])
