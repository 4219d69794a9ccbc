-- What a worker's trip looks at, as a guard.
use Rattle.std.specs.Prelude.{ℕ, ◌≡◌, ◌≢◌, ◌<◌, ◌+◌, ◌==◌, ◌⊎◌, if◌then◌else◌, Bool, true, false, nat_le, List, [], ◌∷◌, ◌++◌, Option, Some, None}
use Rattle.atomic_table.specs.Seated.{TableId}
use Rattle.gw_context.specs.declared.parts.Cause.{Cause}
use Rattle.gw_context.specs.declared.parts.Cause.TheVariants.{Canceled}
use Rattle.gw_context.specs.declared.parts.Node.{Node}
use Rattle.gw_context.specs.Node.{Under, node_at, root}
use Rattle.gw_context.specs.Tree.{TreeView, added, timed_child_of}
use Rattle.gw_ctxwords.specs.Calls as ctx
use Rattle.gw_gate.specs.Seat as gate
use Rattle.gw_stream.specs.Guard.{GuardView}

-- how often a node was found ended
abbrev pub times_found : ℕ → List (ℕ × Cause) → ℕ
times_found node [] = 0
times_found node (found ∷ later) = (if found.0 == node then 1 else 0) + times_found node later

-- a worker's seats at the words that threads share and at the gate, and its own node among the words
pub record Seats : Type 0 where
  pub words : ctx.SeatState
  pub own : ℕ
  pub gate : gate.SeatState

abbrev pub seats_of : ctx.SeatState → ℕ → gate.SeatState → Seats
seats_of words own gate = record { words = words; own = own; gate = gate }

-- The guard of a trip. Its last moment is that of the tree, and it counts how often the worker's own node was found ended.
abbrev pub watched : TreeView → ℕ → Seats → ℕ → Option ℕ → GuardView
watched tree node seats grace shut_at = record {
  tree = tree;
  node = node;
  deadline = (node_at tree.nodes node).deadline;
  words = seats.words;
  own = seats.own;
  gate = seats.gate;
  grace = grace;
  shut_at = shut_at;
  last = tree.last;
  cancels = times_found seats.own seats.words.view.ended;
}

-- what no look changes: which loans it holds, the tables, and how long a client may let it wait
pub record Keeper : Type 0 where
  pub tree : ℕ
  pub words : ℕ
  pub gate : ℕ
  pub table : ctx.TableState
  pub door : TableId
  pub client_ms : ℕ

-- the trip's node wasn't cancelled
abbrev pub IsRunning : TreeView → ℕ → Type 0
IsRunning tree node = (node_at tree.nodes node).cause ≢ Some Canceled

-- a deadline comes no later than another one, if there is that
abbrev pub is_no_later : Option ℕ → Option ℕ → Bool
is_no_later deadline None = true
is_no_later None (Some other) = false
is_no_later (Some deadline) (Some other) = nat_le deadline other

-- the node's deadline is the least of those of the nodes that it ends with
abbrev pub IsLeast : List Node → ℕ → Type 0
IsLeast nodes node = (above : ℕ) → Under nodes above node → is_no_later (node_at nodes node).deadline (node_at nodes above).deadline ≡ true

-- under a root without a deadline a node made by `with_deadline` wasn't cancelled, and its deadline is the least
abbrev pub FirstDeadlineIsLeast : Type 0
FirstDeadlineIsLeast =
    (tree : TreeView) (at : ℕ) → tree.nodes ≡ root ∷ []
    → IsRunning (added tree (timed_child_of tree 0 at)) 1 × IsLeast (added tree (timed_child_of tree 0 at)).nodes 1

-- the moment at which the gate is first seen shut is noted
pub record GateStep (before now : gate.SeatState) (noted noting : Option ℕ) (moment : ℕ) : Type 0 where
  pub name : now.name ≡ before.name
  pub room : now.view.room ≡ before.view.room
  pub held : now.view.held ≡ before.view.held
  pub shut : now.view.shut ≡ before.view.shut
  pub seen_shut : before.view.seen_shut ≡ true → now.view.seen_shut ≡ true
  pub notes : (noting ≡ noted) ⊎ ((noted ≡ None) × (noting ≡ Some moment) × (now.view.seen_shut ≡ true))

-- the base was cancelled, and that only past the time of grace, or nothing was
pub record CtxStep (before now : ctx.SeatState) (shut_at : Option ℕ) (grace moment : ℕ) : Type 0 where
  pub table : now.table ≡ before.table
  pub room : now.view.room ≡ before.view.room
  pub found : (more : List (ℕ × Cause)) × (now.view.ended ≡ before.view.ended ++ more)
  pub cancels : (now.view.cancels ≡ before.view.cancels)
      ⊎ ((now.view.cancels ≡ before.view.cancels ++ (0, Canceled) ∷ []) × ((at : ℕ) × (shut_at ≡ Some at) × (at + grace < moment)))
