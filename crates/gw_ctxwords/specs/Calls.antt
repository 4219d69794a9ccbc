-- What the calls on shared contexts answer.
use Rattle.std.specs.Prelude.{◌≡◌, ◌≢◌, ◌⊎◌, ℕ, suc, ◌≤◌, ◌↔◌, List, [], ◌∷◌, ◌++◌, map, Option, Some, None}
use Rattle.std.specs.List.{Contains}
use Rattle.atomic_table.specs.Seated.{TableId}
use Rattle.gw_context.specs.declared.parts.Cause.{Cause}
use Rattle.gw_ctxwords.specs.declared.nodes.NodeSpec.{NodeSpec}
use Rattle.gw_ctxwords.specs.declared.view.CtxView.{CtxView}
use Rattle.gw_ctxwords.specs.declared.answers.Cancelled.{Cancelled}
use Rattle.gw_ctxwords.specs.declared.answers.Cancelled.TheVariants as cancelled
use Rattle.gw_ctxwords.specs.declared.answers.Looked.{Looked}
use Rattle.gw_ctxwords.specs.declared.answers.Looked.TheVariants as looked
use Rattle.gw_ctxwords.specs.Nodes.{IsTied, Climbs, Under, parent_of, passed, most_steps}
use Rattle.gw_ctxwords.specs.Words.{live_word, word_of}
use Rattle.gw_ctxwords.specs.Steps.{heard, cancelled as cancelled_view}

-- which table it is, and its nodes
pub record TableState : Type 0 where
  pub id : TableId
  pub nodes : List NodeSpec

-- a seat's table, and what it knows
pub record SeatState : Type 0 where
  pub table : TableId
  pub view : CtxView

-- the seat with another view
abbrev pub with_view : SeatState → CtxView → SeatState
with_view seat view = record seat { view = view }

-- `Already` exactly where the word held that cause at the step
abbrev pub CancelledBy : ℕ → Cause → CtxView → CtxView → Cancelled → Type 0
CancelledBy node cause before now cancelled.Now = now ≡ cancelled_view node cause before
CancelledBy node cause before now (cancelled.Already first) = now ≡ heard node first before

-- the words of these nodes, read live
abbrev pub all_live : List ℕ → List (ℕ × ℕ)
all_live nodes = map (λ node. (node, live_word)) nodes

-- the way up from a node, in tied steps: either each node of it was read live, or the last one read had ended, and those before it were live
abbrev pub Climbed : List NodeSpec → ℕ → CtxView → CtxView → Option (ℕ × Cause) → Type 0
Climbed nodes node before now None =
    (steps top : ℕ) × Climbs nodes steps node top × ¬ (IsTied nodes top) × (steps ≤ most_steps)
    × (now ≡ record before { reads = before.reads ++ all_live (passed nodes (suc steps) node) })
Climbed nodes node before now (Some found) =
    (steps : ℕ) × Climbs nodes steps node found.0 × (steps ≤ most_steps)
    × (now ≡ record before { reads = before.reads ++ (all_live (passed nodes steps node) ++ (found.0, word_of found.1) ∷ []); ended = before.ended ++ found ∷ [] })

-- the node that a node is tied to
abbrev pub Above : List NodeSpec → ℕ → Option ℕ → Type 0
Above nodes node None = ¬ (IsTied nodes node)
Above nodes node (Some parent) = IsTied nodes node × (parent ≡ parent_of nodes node)

-- what a seat knows of a node's own word is found there
abbrev pub Knows : ℕ → CtxView → Option (ℕ × Cause) → Type 0
Knows node before found = (cause : Cause) → Contains before.ended (node, cause) → found ≡ Some (node, cause)

-- an ancestor's cause is settled at the node itself, whose word may have got another one meanwhile
abbrev pub Settled : ℕ → ℕ → Cause → CtxView → CtxView → Cause → Type 0
Settled node above first before now cause = ((above ≡ node) × (cause ≡ first) × (now ≡ before)) ⊎ ((above ≢ node) × (now ≡ heard node cause before))

-- live where each node of the way up was read live in this call, and else ended
abbrev pub LookedAt : List NodeSpec → ℕ → CtxView → CtxView → Looked → Type 0
LookedAt nodes node before now looked.Live = Climbed nodes node before now None
LookedAt nodes node before now (looked.Ended cause) =
    (above : ℕ) × (first : Cause) × (found : CtxView) × Climbed nodes node before found (Some (above, first)) × Settled node above first found now cause

-- a call that cancels nothing: what it found and read stands behind the rest
pub record Learns (before now : CtxView) : Type 0 where
  pub room : now.room ≡ before.room
  pub cancels : now.cancels ≡ before.cancels
  pub ended : (more : List (ℕ × Cause)) × (now.ended ≡ before.ended ++ more)
  pub reads : (more : List (ℕ × ℕ)) × (now.reads ≡ before.reads ++ more)

-- what the last seat's view says of the end: node 0 has the cause that was set on it, and each cause that was found was set on its node or above
pub record Closes (nodes : List NodeSpec) (last : CtxView) (result : Option Cause) : Type 0 where
  pub set : (cause : Cause) → (result ≡ Some cause) ↔ Contains last.cancels (0, cause)
  pub found : (cause : Cause) → Contains last.ended (0, cause) → result ≡ Some cause
  pub caused : (node : ℕ) (cause : Cause) → Contains last.ended (node, cause) → (above : ℕ) × Under nodes above node × Contains last.cancels (above, cause)
