-- What a request asks for, by its path.
use Rattle.std.specs.Prelude.{ℕ, ◌+◌, Bool, true, false, List, [], ◌∷◌, length, map}
use Rattle.std.specs.List.{filter}
use Rattle.percent_encoding.specs.Percent.{percent_decode}
use Rattle.gw_pattern.specs.Path.{parts_of, ends_in_slash}
use Rattle.gw_pattern.specs.declared.form.Seg.{Seg}
use Rattle.gw_pattern.specs.declared.form.Seg.TheVariants.{Literal, One, Rest, End}
use Rattle.gw_sets.specs.Shape.{Asked}

-- some byte is there
abbrev pub is_filled : List ℕ → Bool
is_filled [] = false
is_filled (b ∷ part) = true

-- the segments of a path as sent: what stands between its slashes, where that is not empty
abbrev pub sent_segments : List ℕ → List (List ℕ)
sent_segments path = filter is_filled (parts_of path)

-- the segments with their escapes decoded
abbrev pub segments_of : List ℕ → List (List ℕ)
segments_of path = map percent_decode (sent_segments path)

-- what is asked for by a method, a host and a clean path
unfoldable pub asked_for : List ℕ → List ℕ → List ℕ → Asked
asked_for method host path = record { method = method; host = host; segs = segments_of path; slash = ends_in_slash path }

-- ---- what wildcards take

-- the pattern's list has no `Rest`, or the `Rest` takes none of the segments of a path that it matches
abbrev pub is_exact : List Seg → List (List ℕ) → Bool
is_exact [] parts = true
is_exact (End ∷ segs) parts = true
is_exact (Rest name ∷ segs) [] = true
is_exact (Rest name ∷ segs) (part ∷ parts) = false
is_exact (Literal bytes ∷ segs) [] = true
is_exact (Literal bytes ∷ segs) (part ∷ parts) = is_exact segs parts
is_exact (One name ∷ segs) [] = true
is_exact (One name ∷ segs) (part ∷ parts) = is_exact segs parts

-- the parts of a path behind its first slash, as sent; the last is empty where the path ends in a slash
abbrev pub parts_in : List ℕ → List (List ℕ)
parts_in [] = []
parts_in (b ∷ tail) = parts_of tail

-- the place of the rest of a path, which ends there, where it has a name
abbrev pub rest_span : ℕ → ℕ → List ℕ → List (ℕ × ℕ)
rest_span place end [] = []
rest_span place end (b ∷ name) = (place, end) ∷ []

-- from where and to where each named wildcard takes of a path that ends there, and whose parts begin at this place
abbrev pub spans_from : ℕ → ℕ → List Seg → List (List ℕ) → List (ℕ × ℕ)
spans_from place end [] parts = []
spans_from place end (seg ∷ segs) [] = []
spans_from place end (End ∷ segs) (part ∷ parts) = []
spans_from place end (Rest name ∷ segs) (part ∷ parts) = rest_span place end name
spans_from place end (Literal bytes ∷ segs) (part ∷ parts) = spans_from (place + length part + 1) end segs parts
spans_from place end (One name ∷ segs) (part ∷ parts) =
    (place, place + length part) ∷ spans_from (place + length part + 1) end segs parts

-- the places in the path as sent; the first part begins behind the first slash
abbrev pub spans_of : List Seg → List ℕ → List (ℕ × ℕ)
spans_of segs path = spans_from 1 (length path) segs (parts_in path)
