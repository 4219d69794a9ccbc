-- The rule of the contexts, which holds between any two steps.
use Rattle.std.specs.Prelude.{◌≡◌, ◌≢◌, ℕ, ◌+◌, ◌<◌, List, [], ◌∷◌, length, slice_index}
use Rattle.std.specs.List.{Contains}
use mathlib.Core.Option.{some}
use lib.ListN.{get_elem?}
use Rattle.atomic_table.specs.Table.{State}
use Rattle.gw_context.specs.declared.parts.Cause.{Cause}
use Rattle.gw_ctxwords.specs.declared.nodes.NodeSpec.{NodeSpec}
use Rattle.gw_ctxwords.specs.declared.view.CtxView.{CtxView}
use Rattle.gw_ctxwords.specs.Nodes.{Under}
use Rattle.gw_ctxwords.specs.Words.{live_word, word_of}

-- at most so many seats come of the first one
abbrev pub most_seats : ℕ
most_seats = 64

-- a seat that was joined into another one
abbrev pub spent : CtxView
spent = record { room = 0; ended = []; cancels = []; reads = [] }

-- the first seat
abbrev pub first_view : CtxView
first_view = record spent { room = most_seats }

-- the words and the views that a table of contexts is made of
abbrev pub CtxState : Type 0
CtxState = State (Unit {0}) CtxView

abbrev pub word_at : CtxState → ℕ → ℕ
word_at s node = slice_index s.words node

-- the rooms of all views, added up
abbrev pub rooms_of : List CtxView → ℕ
rooms_of [] = 0
rooms_of (v ∷ vs) = v.room + rooms_of vs

-- what holds of each view beside the words
pub record Fits (nodes : List NodeSpec) (words : List ℕ) (v : CtxView) : Type 0 where
  pub roomless : v.room ≡ 0 → v ≡ spent
  pub ended : (node : ℕ) (cause : Cause) → Contains v.ended (node, cause) → (node < length nodes) × (slice_index words node ≡ word_of cause)
  pub known : (node : ℕ) (cause : Cause) → Contains v.cancels (node, cause) → Contains v.ended (node, cause)

-- some seat set the word's cause by a cancel of the node or of a tied ancestor
pub record Caused (nodes : List NodeSpec) (views : List CtxView) (node word : ℕ) : Type 0 where
  pub cause : Cause
  pub word_is : word ≡ word_of cause
  pub above : ℕ
  pub under : Under nodes above node
  pub number : ℕ
  pub view : CtxView
  pub at : get_elem? views number ≡ some view
  pub cancel : Contains view.cancels (above, cause)

pub record IsKept (nodes : List NodeSpec) (s : CtxState) : Type 0 where
  pub count : length s.words ≡ length nodes
  pub rooms : rooms_of s.views ≡ most_seats
  pub each : (number : ℕ) (v : CtxView) → get_elem? s.views number ≡ some v → Fits nodes s.words v
  pub caused : (node : ℕ) → node < length nodes → word_at s node ≢ live_word → Caused nodes s.views node (word_at s node)
