-- The kinds of step: what each does to the view of its pass. `n` is the word before the step.
use Rattle.std.specs.Prelude.{◌≡◌, ℕ, ◌≤◌, true, false, List, [], ◌∷◌, ◌++◌, length, nat_lt, All, Option, Some, None, if◌then◌else◌}
use Rattle.atomic_table.specs.Table.{Me}
use Rattle.atomic_table.specs.Seated.{TableId}
use Rattle.atomic_table.specs.declared.shared.Seat.{Seat}
use Rattle.gw_pool.specs.declared.entry.Entry.{Entry}
use Rattle.gw_pool.specs.declared.holding.Holding.{Holding}
use Rattle.gw_pool.specs.Core.{CoreView, IsQuiet, state_at}
use Rattle.gw_pool.specs.History.{mine}
use Rattle.gw_pool.specs.Lent.{Lent}
use Rattle.gw_turn.specs.declared.view.Member.{Member}
use Rattle.gw_turn.specs.declared.view.PassView.{PassView}
use Rattle.gw_turn.specs.Turn.{no_limits, spent, begun, core_at, Begins}
use Rattle.gw_turn.specs.Meeting.{Meeting, fresh_with}

-- a view as its caller sees it
abbrev pub lent_of : PassView → Lent
lent_of v = record { limits = v.limits; number = v.own.number; seen = v.own.seen; mine = v.own.mine; out = v.own.out; waits = v.waits; fresh = v.fresh; audit_failed = 0; ended = false }

-- the state of the pool that a view with the turn speaks of
abbrev pub core_of : PassView → CoreView
core_of v = core_at v.limits v.journal v.taken

-- the turn was taken, with this state of the pool
abbrev pub took : CoreView → PassView → PassView
took core v = record v { turn = true; journal = core.journal; taken = core.taken }

-- what a pass knows of itself, by all entries
abbrev pub own_after : CoreView → List Holding → Member → Member
own_after core out m = record m { seen = core.journal; mine = mine core.journal m.number; out = out }

-- the wants that a pass made since it took in what another knew, by all entries
abbrev pub fresh_after : CoreView → PassView → List ℕ
fresh_after core v = fresh_with v.fresh v.own.mine (mine core.journal v.own.number)

-- an entry was counted up: the pool's state is this, and these are the pass's tokens
abbrev pub counted : CoreView → List Holding → PassView → PassView
counted core out v = record v { own = own_after core out v.own; fresh = fresh_after core v; journal = core.journal; taken = core.taken }

-- the turn was released
abbrev pub released : CoreView → List Holding → ℕ → PassView → PassView
released core out waits v = record v { own = own_after core out v.own; fresh = fresh_after core v; waits = waits; turn = false; journal = []; taken = [] }

-- the old pass of a split is alone, and the new one has the other numbers
abbrev pub split_left : PassView → PassView
split_left v = record v { joined = [] }

abbrev pub right_of : PassView → List Member → PassView
right_of v [] = spent
right_of v (m ∷ ms) = begun v.limits m ms

abbrev pub split_right : PassView → PassView
split_right v = right_of v v.joined

-- whether a view speaks of more passes
abbrev pub Others : PassView → Type 0
Others v = (m : Member) × (ms : List Member) × (v.joined ≡ m ∷ ms)

-- of two beginnings of one history the longer
abbrev pub longer : List Entry → List Entry → List Entry
longer xs ys = if nat_lt (length xs) (length ys) then ys else xs

abbrev pub joined : PassView → PassView → PassView
joined v w = record v { own = record v.own { seen = longer v.own.seen w.own.seen }; joined = v.joined ++ w.own ∷ w.joined; past = v.own.seen ∷ (v.past ++ w.past); fresh = [] }

abbrev pub PassMe : Type 0
PassMe = Me (Option CoreView) PassView

-- a seat at the turn, which has at least two words and one slot
pub record IsAt (pool : TableId) (place : Seat (Option CoreView) PassView) : Type 0 where
  pub pool_is : place.table_id ≡ pool
  pub two_words : 2 ≤ pool.words
  pub one_slot : 1 ≤ pool.slots
  pub live : place.me.0.live ≡ true

-- a step leaves a seat the one that it is
abbrev pub IsSame : Seat (Option CoreView) PassView → Seat (Option CoreView) PassView → Type 0
IsSame before now = (now.table_id ≡ before.table_id) × (now.id ≡ before.id)

-- a pass whose entries are those of its number in a journal, of which it has seen a beginning
abbrev pub IsIn : List Entry → Member → Type 0
IsIn journal m = (mine journal m.number ≡ m.mine) × Begins journal m.seen

-- the turn was free, and what is met then; or it wasn't
pub record Met (me now : PassMe) : Type 0 where
  pub core : CoreView
  pub view : now.0 ≡ took core me.0
  pub slots : now.1 ≡ (0, Some core) ∷ me.1
  pub meeting : Meeting (lent_of me.0) core

pub record Tries (me : PassMe) (n : ℕ) (now : PassMe) : Type 0 where
  pub had : n ≡ 0 → Met me now
  pub kept : (n ≡ 0 → ⊥) → now ≡ me

-- The turn is taken by the one pass that is left, whose tokens are all spent, and those of all others: it was free, the
-- pass has seen the whole journal, and no unit is live.
pub record Ends (me : PassMe) (n : ℕ) (now : PassMe) : Type 0 where
  pub free : n ≡ 0
  pub met : Met me now
  pub whole : me.0.own.seen ≡ met.core.journal
  pub fellows : All (IsIn met.core.journal) me.0.joined
  pub past : All (Begins met.core.journal) me.0.past
  pub quiet : IsQuiet (state_at met.core)

-- the state of the pool that a seat holds in its slot
abbrev pub slot_core : List (ℕ × Option CoreView) → CoreView
slot_core [] = core_at no_limits [] []
slot_core ((k, Some core) ∷ slots) = core
slot_core ((k, None) ∷ slots) = core_at no_limits [] []
