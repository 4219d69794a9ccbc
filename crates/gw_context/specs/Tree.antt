-- A cancel tree, and what its calls do (Go 1.22's `context`).
use Rattle.std.specs.Prelude.{◌≡◌, ℕ, true, false, List, [], ◌∷◌, ◌++◌, take, Option, Some, None, if◌then◌else◌, min, max}
use Rattle.gw_context.specs.declared.parts.Cause.{Cause}
use Rattle.gw_context.specs.declared.parts.Cause.TheVariants.{Canceled, DeadlineExceeded}
use Rattle.gw_context.specs.declared.parts.Node.{Node}
use Rattle.gw_context.specs.Node.{root, node_at, Under, IsUnderDue, Ends, is_due}

-- the last moment, and the nodes by their numbers
pub record TreeView : Type 0 where
  pub last : ℕ
  pub nodes : List Node

-- node 0 alone, live, without a deadline
abbrev pub new_tree : TreeView
new_tree = record { last = 0; nodes = root ∷ [] }

-- a tree with one node more
abbrev pub added : TreeView → Node → TreeView
added tree node = record tree { nodes = tree.nodes ++ node ∷ [] }

-- a child has its parent's cause, and no deadline of its own
abbrev pub child_of : TreeView → ℕ → Node
child_of tree parent = record { parent = parent; tied = true; deadline = None; cause = (node_at tree.nodes parent).cause }

-- the lesser of a moment and a deadline, if there is one
abbrev pub lesser : ℕ → Option ℕ → ℕ
lesser at None = at
lesser at (Some deadline) = min at deadline

-- the cause that a node is born with: its parent's, or that its deadline is not after the last moment
abbrev pub cause_at_birth : ℕ → ℕ → Option Cause → Option Cause
cause_at_birth last deadline (Some cause) = Some cause
cause_at_birth last deadline None = if is_due last (Some deadline) then Some DeadlineExceeded else None

-- a child whose deadline is the lesser of a moment and its parent's deadline
abbrev pub timed_child_of : TreeView → ℕ → ℕ → Node
timed_child_of tree parent at =
    let above = node_at tree.nodes parent in
    let deadline = lesser at above.deadline in
    record { parent = parent; tied = true; deadline = Some deadline; cause = cause_at_birth tree.last deadline above.cause }

-- a child that nothing above it ends
abbrev pub loose_child_of : ℕ → Node
loose_child_of parent = record { parent = parent; tied = false; deadline = None; cause = None }

-- exactly the live nodes under n are ended with Canceled
pub record Cancelled (n : ℕ) (before now : TreeView) : Type 0 where
  pub last : now.last ≡ before.last
  pub ends : Ends Canceled (Under before.nodes n) before.nodes now.nodes

-- the last moment doesn't fall, and exactly the live nodes under a node whose deadline is at or before the moment
-- are ended with DeadlineExceeded
pub record Advanced (moment : ℕ) (before now : TreeView) : Type 0 where
  pub last : now.last ≡ max before.last moment
  pub ends : Ends DeadlineExceeded (IsUnderDue before.nodes moment) before.nodes now.nodes

-- the first n nodes are kept, and all else stays
abbrev pub truncated : ℕ → TreeView → TreeView
truncated n tree = record tree { nodes = take n tree.nodes }
