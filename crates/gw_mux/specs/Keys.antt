-- The branches that lead to a pattern in the tree: its host, each of its segments, the place where these end, and its
-- method.
use Rattle.std.specs.Prelude.{ℕ, List, [], ◌∷◌, Option, Some, None, drop}
use Rattle.std.specs.Cmp.Lexicographic.{slice_cmp}
use Rattle.std.specs.List.{slice_get}
use Rattle.std.specs.Ordering.{nat_cmp}
use Rattle.std.specs.declared.cmp.Ordering.{Ordering}
use Rattle.gw_pattern.specs.declared.form.Pattern.{Pattern}
use Rattle.gw_pattern.specs.declared.form.Seg.{Seg}
use Rattle.gw_pattern.specs.declared.form.Seg.TheVariants.{Literal, One, Rest, End}
use Rattle.gw_mux.specs.declared.label.Label.{Label}
use Rattle.gw_mux.specs.Label.{key_of}

abbrev pub seg_key : Seg → List ℕ
seg_key (Literal bytes) = 1 ∷ bytes
seg_key (One name) = 2 ∷ []
seg_key End = 3 ∷ []
seg_key (Rest name) = 4 ∷ []

abbrev pub here_key : List ℕ
here_key = 0 ∷ []

abbrev pub method_key : Option (List ℕ) → List ℕ
method_key (Some method) = 5 ∷ method
method_key None = 6 ∷ []

-- the branches behind these segments
abbrev pub tail_keys : List Seg → Option (List ℕ) → List (List ℕ)
tail_keys [] method = here_key ∷ method_key method ∷ []
tail_keys (seg ∷ segs) method = seg_key seg ∷ tail_keys segs method

abbrev pub host_key : List ℕ → List ℕ
host_key host = 7 ∷ host

abbrev pub keys_of : Pattern → List (List ℕ)
keys_of p = host_key p.host ∷ tail_keys p.segs.items p.method

-- those of the pattern of a number, if there is one
abbrev pub keys_there : Option Pattern → List (List ℕ)
keys_there None = []
keys_there (Some p) = keys_of p

abbrev pub keys_at : List Pattern → ℕ → List (List ℕ)
keys_at patterns number = keys_there (slice_get patterns number)

-- those at that depth and below
abbrev pub tail_at : List Pattern → ℕ → ℕ → List (List ℕ)
tail_at patterns depth number = drop depth (keys_at patterns number)

-- the first of them; nothing where they end
abbrev pub first_key : List (List ℕ) → List ℕ
first_key [] = []
first_key (key ∷ keys) = key

abbrev pub first_label : Option Label → List ℕ
first_label None = []
first_label (Some label) = key_of label

-- the order of patterns: by the first branch that differs
abbrev pub keys_cmp : List (List ℕ) → List (List ℕ) → Ordering
keys_cmp = slice_cmp (slice_cmp nat_cmp)
