-- Cleaning a path, as Go's `path.Clean` does, but that a slash at the end stays (Go's `net/http`, `cleanPath`).
use Rattle.std.specs.Prelude.{◌≡◌, ℕ, ◌-◌, ◌==◌, Bool, true, false, ◌||◌, not, List, [], ◌∷◌, ◌++◌, length, fold, codes, bytes_eq, slice_index, if◌then◌else◌}
use Rattle.std.specs.List.{slice_split, join_with_byte}

-- `b'/'`
abbrev pub slash : ℕ
slash = 47

abbrev pub is_slash : ℕ → Bool
is_slash b = b == slash

-- the parts of a path: what stands between its slashes, as sent, so that `%2e` is no dot
abbrev pub parts_of : List ℕ → List (List ℕ)
parts_of path = slice_split is_slash path

-- the part stands for nothing: it is empty or `.`
abbrev pub is_idle : List ℕ → Bool
is_idle part = bytes_eq part [] || bytes_eq part (codes ".")

-- the part stands for the parent: it is `..`
abbrev pub is_parent : List ℕ → Bool
is_parent part = bytes_eq part (codes "..")

-- the list without its last element, if it has one
abbrev pub without_last : List (List ℕ) → List (List ℕ)
without_last [] = []
without_last (part ∷ []) = []
without_last (part ∷ next ∷ parts) = part ∷ without_last (next ∷ parts)

-- what remains of the parts once one more is read
abbrev pub with_part : List (List ℕ) → List ℕ → List (List ℕ)
with_part remaining part =
    if is_idle part then remaining else (if is_parent part then without_last remaining else remaining ++ part ∷ [])

-- the parts that remain: without those that stand for nothing, and each `..` gone with the part before it
abbrev pub remaining_parts : List (List ℕ) → List (List ℕ)
remaining_parts parts = fold with_part [] parts

abbrev pub ends_in_slash : List ℕ → Bool
ends_in_slash path = is_slash (slice_index path (length path - 1))

-- a slash and the parts joined by slashes; one slash more at the end, where there was one and a part remains
abbrev pub joined_path : List (List ℕ) → Bool → List ℕ
joined_path [] slashed = slash ∷ []
joined_path (part ∷ parts) slashed =
    slash ∷ join_with_byte slash (part ∷ parts) ++ (if slashed then slash ∷ [] else [])

-- the cleaned path
unfoldable pub cleaned : List ℕ → List ℕ
cleaned path = joined_path (remaining_parts (parts_of path)) (ends_in_slash path)

-- the path is its cleaned path
abbrev pub IsClean : List ℕ → Type 0
IsClean path = cleaned path ≡ path

-- the part changes a path that is cleaned
abbrev pub is_special : List ℕ → Bool
is_special part = is_idle part || is_parent part

-- no part changes the path; the last may be empty
abbrev pub are_tidy : List (List ℕ) → Bool
are_tidy [] = true
are_tidy (part ∷ []) = bytes_eq part [] || not (is_special part)
are_tidy (part ∷ next ∷ parts) = if is_special part then false else are_tidy (next ∷ parts)

-- what stands behind the first slash of a clean path
abbrev pub IsTidy : List ℕ → Type 0
IsTidy tail = are_tidy (parts_of tail) ≡ true
