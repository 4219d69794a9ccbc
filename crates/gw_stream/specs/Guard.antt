-- What a trip looks at while it waits: its deadline, and whether it was cancelled.
use Rattle.std.specs.Prelude.{ℕ, ◌≡◌, ◌≤◌, ◌<◌, ◌+◌, ◌⊎◌, true, List, [], ◌++◌, All, Option, Some, None}
use Rattle.gw_wire.specs.Causes.{Rose}
use Rattle.gw_context.specs.declared.parts.Cause.{Cause}
use Rattle.gw_context.specs.declared.parts.Cause.TheVariants.{Canceled}
use Rattle.gw_context.specs.Tree.{TreeView, Advanced}
use Rattle.gw_ctxwords.specs.Calls as ctx
use Rattle.gw_gate.specs.Seat as gate
use Rattle.gw_stream.specs.declared.guard.Sight.{Sight}
use Rattle.gw_stream.specs.declared.guard.Sight.TheVariants as sight

-- What contracts see of a guard: the tree of deadlines, the trip's node there and its deadline, if it has one; the seat at
-- the words that threads share and the worker's own node there; the seat at the gate, how long after the gate was seen
-- shut a trip is cancelled, in milliseconds, and the moment at which it was seen so; the last moment looked at; and how
-- often the worker's own node was found ended.
pub record GuardView : Type 0 where
  pub tree : TreeView
  pub node : ℕ
  pub deadline : Option ℕ
  pub words : ctx.SeatState
  pub own : ℕ
  pub gate : gate.SeatState
  pub grace : ℕ
  pub shut_at : Option ℕ
  pub last : ℕ
  pub cancels : ℕ

abbrev pub IsBefore : Option ℕ → ℕ → Type 0
IsBefore None moment = Unit {0}
IsBefore (Some deadline) moment = moment < deadline

abbrev pub IsDue : Option ℕ → ℕ → Type 0
IsDue None moment = ⊥
IsDue (Some deadline) moment = deadline ≤ moment

-- the tree is only told moments, none above this one
abbrev pub TreeGoes : TreeView → TreeView → ℕ → Type 0
TreeGoes old new moment = (new ≡ old) ⊎ ((told : ℕ) × (told ≤ moment) × Advanced told old new)

-- the gate was seen shut once, at a moment between these, by a look that read it so
abbrev pub ShutGoes : GuardView → GuardView → ℕ → Type 0
ShutGoes old new moment =
    (new.shut_at ≡ old.shut_at)
    ⊎ ((old.shut_at ≡ None) × ((at : ℕ) × (new.shut_at ≡ Some at) × (old.last ≤ at) × (at ≤ moment) × (new.gate.view.seen_shut ≡ true)))

-- the time of grace behind the shut gate is over
abbrev pub IsPast : GuardView → ℕ → Type 0
IsPast guard moment = (at : ℕ) × (guard.shut_at ≡ Some at) × (at + guard.grace < moment)

-- no node was cancelled but node 0, and that only behind the time of grace
pub record CancelsOnlyBase (old new : GuardView) (moment : ℕ) : Type 0 where
  pub more : List (ℕ × Cause)
  pub cancels : new.words.view.cancels ≡ old.words.view.cancels ++ more
  pub base : All (λ set. set ≡ (0, Canceled)) more
  pub past : (more ≡ []) ⊎ IsPast new moment

-- What looks may do up to a moment: the tree is only told moments, the gate isn't shut, no node but the base is cancelled.
pub record GuardGoes (old new : GuardView) (moment : ℕ) : Type 0 where
  pub tree : TreeGoes old.tree new.tree moment
  pub node : new.node ≡ old.node
  pub deadline : new.deadline ≡ old.deadline
  pub table : new.words.table ≡ old.words.table
  pub places : new.words.view.room ≡ old.words.view.room
  pub base : CancelsOnlyBase old new moment
  pub own : new.own ≡ old.own
  pub gate : new.gate.name ≡ old.gate.name
  pub room : new.gate.view.room ≡ old.gate.view.room
  pub held : new.gate.view.held ≡ old.gate.view.held
  pub shut : new.gate.view.shut ≡ old.gate.view.shut
  pub seen_shut : old.gate.view.seen_shut ≡ true → new.gate.view.seen_shut ≡ true
  pub grace : new.grace ≡ old.grace
  pub shut_at : ShutGoes old new moment
  pub last : old.last ≤ new.last
  pub seen : new.last ≤ moment
  pub cancels : old.cancels ≤ new.cancels

-- when each answer of a look may come
abbrev pub LookCause : GuardView → GuardView → ℕ → Sight → Type 0
LookCause old new now sight.On = IsBefore old.deadline now
LookCause old new now sight.Cancelled = Rose old.cancels new.cancels
LookCause old new now sight.Late = IsDue old.deadline now

pub record LookStep (old new : GuardView) (now : ℕ) (result : Sight) : Type 0 where
  pub goes : GuardGoes old new now
  pub cause : LookCause old new now result
