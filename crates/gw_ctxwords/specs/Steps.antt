-- The kinds of step: what each does to the view of its seat. `n` is the word before the step.
use Rattle.std.specs.Prelude.{◌≡◌, ◌≢◌, ℕ, ◌+◌, ◌-◌, ◌<◌, List, [], ◌∷◌, ◌++◌, length}
use Rattle.std.specs.List.{Contains}
use Rattle.atomic_table.specs.Table.{Me}
use Rattle.atomic_table.specs.Seated.{TableId}
use Rattle.atomic_table.specs.declared.shared.Seat.{Seat}
use Rattle.gw_context.specs.declared.parts.Cause.{Cause}
use Rattle.gw_ctxwords.specs.declared.nodes.NodeSpec.{NodeSpec}
use Rattle.gw_ctxwords.specs.declared.view.CtxView.{CtxView}
use Rattle.gw_ctxwords.specs.Words.{live_word, word_of, cause_of}
use Rattle.gw_ctxwords.specs.Rule.{spent}

-- a seat has loaded a node's word
abbrev pub loaded : ℕ → ℕ → CtxView → CtxView
loaded node n v = record v { reads = v.reads ++ (node, n) ∷ [] }

-- a seat has found a node ended by this cause
abbrev pub heard : ℕ → Cause → CtxView → CtxView
heard node cause v = record v { ended = v.ended ++ (node, cause) ∷ [] }

-- a seat has ended a node
abbrev pub cancelled : ℕ → Cause → CtxView → CtxView
cancelled node cause v = record v { ended = v.ended ++ (node, cause) ∷ []; cancels = v.cancels ++ (node, cause) ∷ [] }

-- the old seat of a split has one room less
abbrev pub split_left : CtxView → CtxView
split_left v = record v { room = v.room - 1 }

-- the new one knows what the old one has found
abbrev pub split_right : CtxView → CtxView
split_right v = record spent { room = 1; ended = v.ended }

-- a seat knows what the one joined into it knew; its reads are its own
abbrev pub joined : CtxView → CtxView → CtxView
joined v w = record v { room = v.room + w.room; ended = v.ended ++ w.ended; cancels = v.cancels ++ w.cancels }

abbrev pub SeatMe : Type 0
SeatMe = Me (Unit {0}) CtxView

-- a seat of the table with a word for each node, which holds nothing and isn't spent
pub record IsAt (nodes : List NodeSpec) (table : TableId) (place : Seat (Unit {0}) CtxView) : Type 0 where
  pub table_is : place.table_id ≡ table
  pub sized : table.words ≡ length nodes
  pub no_slots : place.me.1 ≡ []
  pub some_room : 0 < place.me.0.room

-- a step leaves a seat the one that it is
abbrev pub IsSame : Seat (Unit {0}) CtxView → Seat (Unit {0}) CtxView → Type 0
IsSame before now = (now.table_id ≡ before.table_id) × (now.id ≡ before.id)

-- a step finds what its seat knows, and no word that is no cause's
pub record Finds (node : ℕ) (v : CtxView) (n : ℕ) : Type 0 where
  pub known : (cause : Cause) → Contains v.ended (node, cause) → n ≡ word_of cause
  pub coded : n ≢ live_word → n ≡ word_of (cause_of n)

pub record Loads (node : ℕ) (me : SeatMe) (n : ℕ) (now : SeatMe) : Type 0 where
  pub live : n ≡ live_word → now.0 ≡ loaded node n me.0
  pub ended : n ≢ live_word → now.0 ≡ heard node (cause_of n) (loaded node n me.0)
  pub finds : Finds node me.0 n
  pub slots : now.1 ≡ me.1

pub record Cancels (node : ℕ) (cause : Cause) (me : SeatMe) (n : ℕ) (now : SeatMe) : Type 0 where
  pub live : n ≡ live_word → now.0 ≡ cancelled node cause me.0
  pub ended : n ≢ live_word → now.0 ≡ heard node (cause_of n) me.0
  pub finds : Finds node me.0 n
  pub slots : now.1 ≡ me.1

pub record Settles (node : ℕ) (cause : Cause) (me : SeatMe) (n : ℕ) (now : SeatMe) : Type 0 where
  pub live : n ≡ live_word → now.0 ≡ heard node cause me.0
  pub ended : n ≢ live_word → now.0 ≡ heard node (cause_of n) me.0
  pub finds : Finds node me.0 n
  pub slots : now.1 ≡ me.1
