-- The rule of the turn. The pool's state lies in a slot, and who has the turn has it. A history H is legal; the count word
-- is its length, and the state stands for its end. What each pass has seen, and had seen when others were joined into it,
-- is a beginning of H, and one has seen all of it. For each pass, its own entries are those of its number in H, and its
-- tokens are tied to its rows at H's end. There are at least two words and one slot.
use Rattle.std.specs.Prelude.{◌≡◌, ℕ, zero, suc, ◌+◌, ◌-◌, ◌<◌, ◌≤◌, true, false, List, [], ◌∷◌, ◌++◌, length, sum_by, slice_index, nat_lt, Option, Some, if◌then◌else◌}
use mathlib.Core.Option.{some}
use lib.ListN.{get_elem?}
use Rattle.atomic_table.specs.Table.{State}
use Rattle.gw_pool.specs.declared.limits.Limits.{Limits}
use Rattle.gw_pool.specs.declared.entry.Entry.{Entry}
use Rattle.gw_pool.specs.Core.{CoreView}
use Rattle.gw_pool.specs.Ties.{Among, one, bit}
use Rattle.gw_pool.specs.History.{IsLegal, AreBelow, after, mine}
use Rattle.gw_turn.specs.declared.view.Member.{Member}
use Rattle.gw_turn.specs.declared.view.PassView.{PassView}
use Rattle.gw_pool.specs.Owner.{owner}
use Rattle.gw_turn.specs.Tie.{Ties, Fresh}

-- the words and slots and the views that the turn is made of: word 0 says whether somebody has the turn, word 1 is the
-- count, and slot 0 holds the pool's state
abbrev pub TurnState : Type 0
TurnState = State (Option CoreView) PassView

-- the passes that a view speaks of
abbrev pub members_of : PassView → List Member
members_of v = if v.live then v.own ∷ v.joined else []

-- a pass of which nothing was asked
abbrev pub unused : ℕ → Member
unused n = record { number = n; seen = []; mine = []; out = [] }

abbrev pub unused_from : ℕ → ℕ → List Member
unused_from n zero = []
unused_from n (suc k) = unused n ∷ unused_from (suc n) k

-- a view that was joined into another
abbrev pub no_limits : Limits
no_limits = record { idle_total = 0; idle_per_host = 0; conns_per_host = 0; idle_ms = 0; journal = 0; passes = 0; per_pass = 0; hosts = 0 }

abbrev pub spent : PassView
spent = record { live = false; limits = no_limits; own = unused 0; joined = []; past = []; fresh = []; waits = 0; turn = false; journal = []; taken = [] }

-- a pass that begins, and the first one, from which those of the other numbers are split
abbrev pub begun : Limits → Member → List Member → PassView
begun limits own joined = record { live = true; limits = limits; own = own; joined = joined; past = []; fresh = []; waits = 0; turn = false; journal = []; taken = [] }

abbrev pub first_view : Limits → PassView
first_view limits = begun limits (unused 0) (unused_from 1 (limits.passes - 1))

-- what the views come to, added up
abbrev pub total : {V : Type 0} → (V → ℕ) → List V → ℕ
total f [] = 0
total f (v ∷ vs) = f v + total f vs

abbrev pub turns : PassView → ℕ
turns v = bit v.turn

abbrev pub size : PassView → ℕ
size v = length (members_of v)

-- how often a number stands in a view
abbrev pub counts : ℕ → PassView → ℕ
counts n v = sum_by (λ (m : Member). one n m.number) (members_of v)

-- the state of the pool at a history's end
abbrev pub core_at : Limits → List Entry → List ℕ → CoreView
core_at limits history taken = record { limits = limits; journal = history; taken = taken }

-- what begins a history
abbrev pub Begins : List Entry → List Entry → Type 0
Begins history seen = (others : List Entry) × (seen ++ others ≡ history)

-- What a pass knows of itself is so: it has seen a beginning of the history, with all entries of its number, and its tokens
-- are tied to its rows.
pub record IsKnown (limits : Limits) (history : List Entry) (taken : List ℕ) (m : Member) : Type 0 where
  pub below : m.number < limits.passes
  pub begins : Begins history m.seen
  pub own : mine history m.number ≡ m.mine
  pub knows : mine m.seen m.number ≡ m.mine
  pub ties : Ties (owner history) m.number (after limits history) m.out taken

-- what holds of each view
pub record Fits (limits : Limits) (history : List Entry) (taken : List ℕ) (v : PassView) : Type 0 where
  pub gone : v.live ≡ false → v ≡ spent
  pub same_limits : v.live ≡ true → v.limits ≡ limits
  pub members : (m : Member) → Among m (members_of v) → IsKnown limits history taken m
  pub past : (seen : List Entry) → Among seen v.past → Begins history seen
  pub holds : v.turn ≡ true → (v.journal ≡ history) × (v.taken ≡ taken)

-- The rule of the turn, which holds between any two steps.
pub record IsKept (limits : Limits) (s : TurnState) : Type 0 where
  pub two_words : 2 ≤ length s.words
  pub one_slot : 1 ≤ length s.homes
  pub few : 0 < limits.per_pass
  pub history : List Entry
  pub taken : List ℕ
  pub legal : IsLegal limits history
  pub callers : AreBelow limits.passes history
  pub fresh : Fresh (after limits history) taken
  pub count : slice_index s.words 1 ≡ length history
  pub turn : slice_index s.words 0 ≡ total turns s.views
  pub one_turn : total turns s.views ≤ 1
  pub home : total turns s.views ≡ 0 → get_elem? s.homes 0 ≡ some (some (Some (core_at limits history taken)))
  pub numbers : (n : ℕ) → total (counts n) s.views ≡ bit (nat_lt n limits.passes)
  pub sizes : total size s.views ≡ limits.passes
  pub longest : (id : ℕ) × (v : PassView) × (get_elem? s.views id ≡ some v) × (v.own.seen ≡ history)
  pub each : (id : ℕ) (v : PassView) → get_elem? s.views id ≡ some v → Fits limits history taken v
