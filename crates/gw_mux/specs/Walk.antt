-- What the walk over a path sees of it.
use Rattle.std.specs.Prelude.{◌≡◌, ℕ, ◌+◌, Bool, true, false, List, [], ◌∷◌, ◌++◌, length, map}
use Rattle.gw_pattern.specs.Path.{slash, ends_in_slash}
use Rattle.percent_encoding.specs.Percent.{percent_decode}
use Rattle.gw_sets.specs.Shape.{Asked}
use Rattle.gw_mux.specs.Request.{parts_in}

-- the decoded segments of a path without its last slash
abbrev pub segments_in : List ℕ → List (List ℕ)
segments_in body = map percent_decode (parts_in body)

-- what is asked for by a path without its last slash, and whether it has one
abbrev pub asked_by : List ℕ → List ℕ → List ℕ → Bool → Asked
asked_by method host body slash = record { method = method; host = host; segs = segments_in body; slash = slash }

-- the path begins with a slash and that part, and the rest follows
abbrev pub TakesPart : List ℕ → List ℕ → List ℕ → Type 0
TakesPart path part after = (parts_in path ≡ part ∷ parts_in after) × (length part + 1 + length after ≡ length path)

-- the path without its last slash, and whether it has one
abbrev pub CutsSlash : List ℕ → List ℕ → Bool → Type 0
CutsSlash path body true = path ≡ body ++ slash ∷ []
CutsSlash path body false = (path ≡ body) × (ends_in_slash path ≡ false)
