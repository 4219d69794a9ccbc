-- The nodes of the contexts that threads share, and which of them end together.
use Rattle.std.specs.Prelude.{◌≡◌, ℕ, zero, suc, ◌+◌, ◌<◌, Bool, true, false, ◌&&◌, List, [], ◌∷◌, ◌++◌, length, slice_index, nat_eq, nat_lt, nat_le, if◌then◌else◌}
use Rattle.std.specs.List.{slice_index_or}
use Rattle.gw_ctxwords.specs.declared.nodes.NodeSpec.{NodeSpec}

abbrev pub root_spec : NodeSpec
root_spec = record { parent = 0; tied = false }

abbrev pub spec_at : List NodeSpec → ℕ → NodeSpec
spec_at nodes i = slice_index_or nodes i root_spec

abbrev pub parent_of : List NodeSpec → ℕ → ℕ
parent_of nodes i = (spec_at nodes i).parent

-- a node ends with its parent; node 0 is tied to nobody
abbrev pub IsTied : List NodeSpec → ℕ → Type 0
IsTied nodes i = (0 < i) × ((spec_at nodes i).tied ≡ true)

-- so many tied steps lead up from m to n
abbrev pub Climbs : List NodeSpec → ℕ → ℕ → ℕ → Type 0
Climbs nodes zero m n = m ≡ n
Climbs nodes (suc steps) m n = IsTied nodes m × Climbs nodes steps (parent_of nodes m) n

-- m is under n: a chain of tied steps leads up from m to n, and n is under itself
abbrev pub Under : List NodeSpec → ℕ → ℕ → Type 0
Under nodes n m = (steps : ℕ) × Climbs nodes steps m n

-- the first nodes on the way up from m
abbrev pub passed : List NodeSpec → ℕ → ℕ → List ℕ
passed nodes zero m = []
passed nodes (suc count) m = m ∷ passed nodes count (parent_of nodes m)

-- at most so many tied steps lead up from a node
abbrev pub most_steps : ℕ
most_steps = 16

-- how many tied steps lead up from a node behind others
abbrev pub depth_behind : List ℕ → NodeSpec → ℕ
depth_behind depths node = if node.tied then 1 + slice_index depths node.parent else 0

-- each node's parent stands before it, and its way up isn't too long
abbrev pub fits_behind : List ℕ → List NodeSpec → Bool
fits_behind depths [] = true
fits_behind depths (node ∷ nodes) =
    (nat_lt node.parent (length depths) && nat_le (depth_behind depths node) most_steps) && fits_behind (depths ++ depth_behind depths node ∷ []) nodes

-- there is node 0, its own parent; each other node's parent has a lower number; at most 16 tied steps lead up from a node
abbrev pub is_forest : List NodeSpec → Bool
is_forest [] = false
is_forest (root ∷ nodes) = nat_eq root.parent 0 && fits_behind (0 ∷ []) nodes
