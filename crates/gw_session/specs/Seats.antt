-- A worker's seats at the gate and at the words that the workers share, and what a session does with them.
use Rattle.std.specs.Prelude.{ℕ, ◌≡◌, ◌≤◌, ◌<◌, ◌+◌, ◌⊎◌, Bool, true, List, [], ◌++◌, All, Option, Some, None}
use Rattle.gw_context.specs.declared.parts.Cause.{Cause}
use Rattle.gw_context.specs.declared.parts.Cause.TheVariants.{Canceled}
use Rattle.gw_ctxwords.specs.Calls as ctx
use Rattle.gw_gate.specs.Seat as gate
use Rattle.gw_transport.specs.Watch.{times_found}
use Rattle.gw_session.specs.declared.shared.Shared.{Shared}

-- the seats, and the moment at which the gate was first seen shut
pub record Seats : Type 0 where
  pub gate : gate.SeatState
  pub words : ctx.SeatState
  pub shut_at : Option ℕ

abbrev pub seats : gate.SeatState → ctx.SeatState → Option ℕ → Seats
seats gate words shut_at = record { gate = gate; words = words; shut_at = shut_at }

abbrev pub seats_of : Shared → Seats
seats_of shared = seats shared.gate_seat.now shared.ctx_seat.now shared.shut_at

-- the moment at which the gate is first seen shut is noted: one between these, by a look that read it so
abbrev pub Notes : Seats → Seats → ℕ → ℕ → Type 0
Notes old new since moment =
    (new.shut_at ≡ old.shut_at)
    ⊎ ((old.shut_at ≡ None) × ((at : ℕ) × (new.shut_at ≡ Some at) × (since ≤ at) × (at ≤ moment) × (new.gate.view.seen_shut ≡ true)))

-- the time of grace behind the shut gate is over
abbrev pub IsPast : Seats → ℕ → ℕ → Type 0
IsPast s grace moment = (at : ℕ) × (s.shut_at ≡ Some at) × (at + grace < moment)

-- no node was cancelled but node 0, the base, and that only behind the time of grace
pub record CancelsOnlyBase (old new : Seats) (grace moment : ℕ) : Type 0 where
  pub more : List (ℕ × Cause)
  pub cancels : new.words.view.cancels ≡ old.words.view.cancels ++ more
  pub base : All (λ set. set ≡ (0, Canceled)) more
  pub past : (more ≡ []) ⊎ IsPast new grace moment

-- What a session does with a worker's seats from one moment up to another: it shuts the gate only for a stop, and cancels
-- nothing but the base, behind the time of grace. What was seen shut stays so, and what was found of the worker's own node.
pub record SeatsGo (old new : Seats) (own grace since moment : ℕ) (stops : Bool) : Type 0 where
  pub name : new.gate.name ≡ old.gate.name
  pub room : new.gate.view.room ≡ old.gate.view.room
  pub shut : new.gate.view.shut ≡ true → (old.gate.view.shut ≡ true) ⊎ (stops ≡ true)
  pub seen_shut : old.gate.view.seen_shut ≡ true → new.gate.view.seen_shut ≡ true
  pub told : stops ≡ true → new.gate.view.seen_shut ≡ true
  pub noted : Notes old new since moment
  pub table : new.words.table ≡ old.words.table
  pub places : new.words.view.room ≡ old.words.view.room
  pub base : CancelsOnlyBase old new grace moment
  pub found : times_found own old.words.view.ended ≤ times_found own new.words.view.ended

-- it lends the same: no loan is exchanged for another one
pub record IsSameShared (old new : Shared) : Type 0 where
  pub gate : new.gate.now ≡ old.gate.now
  pub gate_seat : new.gate_seat.ghost_name ≡ old.gate_seat.ghost_name
  pub ctx : new.ctx.now ≡ old.ctx.now
  pub ctx_seat : new.ctx_seat.ghost_name ≡ old.ctx_seat.ghost_name
  pub ctx_node : new.ctx_node ≡ old.ctx_node
  pub buffers : new.buffers.ghost_name ≡ old.buffers.ghost_name

-- ---- on the way

-- the gate was looked at: it is shut exactly where the seat has seen that by then
pub record NotesShut (old new : Seats) (now : ℕ) (shut : Bool) : Type 0 where
  pub name : new.gate.name ≡ old.gate.name
  pub room : new.gate.view.room ≡ old.gate.view.room
  pub held : new.gate.view.held ≡ old.gate.view.held
  pub shut_is : new.gate.view.shut ≡ old.gate.view.shut
  pub seen : new.gate.view.seen_shut ≡ shut
  pub kept : old.gate.view.seen_shut ≡ true → shut ≡ true
  pub words : new.words ≡ old.words
  pub noted : Notes old new now now
