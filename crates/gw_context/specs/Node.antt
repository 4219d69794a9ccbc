-- The nodes of a cancel tree, and which of them end together.
use Rattle.std.specs.Prelude.{◌≡◌, ℕ, zero, suc, ◌<◌, Bool, true, false, ◌⊎◌, List, length, Option, Some, None, nat_le}
use Rattle.std.specs.List.{slice_index_or}
use Rattle.gw_context.specs.declared.parts.Cause.{Cause}
use Rattle.gw_context.specs.declared.parts.Cause.TheVariants.{DeadlineExceeded}
use Rattle.gw_context.specs.declared.parts.Node.{Node}

-- a live node without a deadline, tied to nobody
abbrev pub root : Node
root = record { parent = 0; tied = false; deadline = None; cause = None }

abbrev pub node_at : List Node → ℕ → Node
node_at nodes i = slice_index_or nodes i root

abbrev pub IsLive : Node → Type 0
IsLive node = node.cause ≡ None

abbrev pub IsTied : Node → Type 0
IsTied node = node.tied ≡ true

-- so many tied steps lead up from m to n
abbrev pub Climbs : List Node → ℕ → ℕ → ℕ → Type 0
Climbs nodes zero m n = m ≡ n
Climbs nodes (suc steps) m n = IsTied (node_at nodes m) × Climbs nodes steps (node_at nodes m).parent n

-- m is under n: a chain of tied steps leads up from m to n, and n is under itself
abbrev pub Under : List Node → ℕ → ℕ → Type 0
Under nodes n m = (steps : ℕ) × Climbs nodes steps m n

-- there is a deadline, and it is at or before the moment
abbrev pub is_due : ℕ → Option ℕ → Bool
is_due moment None = false
is_due moment (Some deadline) = nat_le deadline moment

-- m is under a node whose deadline is at or before the moment
abbrev pub IsUnderDue : List Node → ℕ → ℕ → Type 0
IsUnderDue nodes moment m = (d : ℕ) × (is_due moment (node_at nodes d).deadline ≡ true) × Under nodes d m

-- the node, ended
abbrev pub ended : Cause → Node → Node
ended cause node = record node { cause = Some cause }

-- a live member of a set is ended, and any other node stays
abbrev pub Fate : Cause → Type 0 → Node → Node → Type 0
Fate cause IsMember before now =
    (IsMember × IsLive before × (now ≡ ended cause before)) ⊎ (¬ (IsMember × IsLive before) × (now ≡ before))

-- of the nodes exactly the live ones of a set are ended, and all else stays
pub record Ends (cause : Cause) (IsMember : ℕ → Type 0) (before now : List Node) : Type 0 where
  pub count : length now ≡ length before
  pub each : (i : ℕ) → i < length before → Fate cause (IsMember i) (node_at before i) (node_at now i)

-- a tied node's parent has a lower number, and what is tied to an ended node has ended
pub record IsLinked (nodes : List Node) : Type 0 where
  pub lower : (i : ℕ) → IsTied (node_at nodes i) → (node_at nodes i).parent < i
  pub joint : (i : ℕ) → IsTied (node_at nodes i) → IsLive (node_at nodes i) → IsLive (node_at nodes (node_at nodes i).parent)

-- what holds of every tree: there is node 0, the deadline of a live node is to come, and a node that ended by a
-- deadline is under one whose deadline has come
pub record IsSound (last : ℕ) (nodes : List Node) : Type 0 where
  pub first : 0 < length nodes
  pub linked : IsLinked nodes
  pub early : (i : ℕ) → IsLive (node_at nodes i) → is_due last (node_at nodes i).deadline ≡ false
  pub due : (i : ℕ) → (node_at nodes i).cause ≡ Some DeadlineExceeded → IsUnderDue nodes last i

-- what a node keeps to that is added behind the others
pub record Joins (last : ℕ) (nodes : List Node) (node : Node) : Type 0 where
  pub lower : IsTied node → node.parent < length nodes
  pub joint : IsTied node → IsLive node → IsLive (node_at nodes node.parent)
  pub early : IsLive node → is_due last node.deadline ≡ false
  pub due : node.cause ≡ Some DeadlineExceeded → (is_due last node.deadline ≡ true) ⊎ (IsTied node × IsUnderDue nodes last node.parent)
