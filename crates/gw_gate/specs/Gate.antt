-- The shutdown gate: one word, whose bit 63 says that the gate is shut, and whose other bits are a number. An `enter`
-- is granted exactly where the word before its step has no bit. The bit is never taken away. The number is that of the
-- seats that hold an `Inside` or are undoing a refused `enter`.
use Rattle.std.specs.Prelude.{◌≡◌, ℕ, ◌+◌, ◌*◌, ◌%◌, ◌^◌, ◌<◌, ◌≤◌, ◌↔◌, Bool, true, false, ◌||◌, List, [], ◌∷◌, length, slice_index, min}
use mathlib.Core.Option.{some}
use lib.ListN.{get_elem?}
use Rattle.atomic_table.specs.Table.{State}
use Rattle.gw_gate.specs.declared.view.GateView.{GateView}

abbrev pub shut_bit : ℕ
shut_bit = 2 ^ 63

abbrev pub IsOpen : ℕ → Type 0
IsOpen word = word < shut_bit

abbrev pub IsShut : ℕ → Type 0
IsShut word = shut_bit ≤ word

-- the number in a word
abbrev pub number_in : ℕ → ℕ
number_in word = word % shut_bit

-- the bit, and 0 inside
abbrev pub IsDrained : ℕ → Type 0
IsDrained word = word ≡ shut_bit

-- at most so many seats come of the first one
abbrev pub most_seats : ℕ
most_seats = 64

-- a seat that was joined into another one
abbrev pub spent : GateView
spent = record { room = 0; held = false; undoing = false; shut = false; seen_shut = false; drained = false; last = 0 }

-- the first seat
abbrev pub first_view : GateView
first_view = record spent { room = most_seats }

-- the words and the views that a gate is made of
abbrev pub GateState : Type 0
GateState = State (Unit {0}) GateView

abbrev pub one_if : Bool → ℕ
one_if true = 1
one_if false = 0

-- what the views come to, added up
abbrev pub total : (GateView → ℕ) → List GateView → ℕ
total count [] = 0
total count (v ∷ vs) = count v + total count vs

abbrev pub room_of : GateView → ℕ
room_of v = v.room

abbrev pub holding : GateView → ℕ
holding v = one_if v.held

-- a seat counts in the word while it holds an `Inside` or undoes a refused `enter`
abbrev pub counted : GateView → ℕ
counted v = one_if (v.held || v.undoing)

abbrev pub shutting : GateView → ℕ
shutting v = one_if v.shut

-- 1 where some seat set the bit
abbrev pub shut_in : List GateView → ℕ
shut_in views = min 1 (total shutting views)

-- what holds of each view beside the others
pub record Fits (views : List GateView) (v : GateView) : Type 0 where
  pub roomless : v.room ≡ 0 → v ≡ spent
  pub seen : v.seen_shut ≡ true → shut_in views ≡ 1
  pub drained : v.drained ≡ true → (shut_in views ≡ 1) × (total holding views ≡ 0)

-- The rule of the gate, which holds between any two steps.
pub record IsKept (s : GateState) : Type 0 where
  pub one_word : length s.words ≡ 1
  pub word : slice_index s.words 0 ≡ total counted s.views + shut_bit * shut_in s.views
  pub rooms : total room_of s.views ≡ most_seats
  pub each : (number : ℕ) (v : GateView) → get_elem? s.views number ≡ some v → Fits s.views v

-- The gate in each state that meets the rule: its bit says that some seat shut it, and its number is that of the seats
-- that hold an `Inside` or are undoing.
pub record Gate (s : GateState) : Type 0 where
  pub bit : IsShut (slice_index s.words 0) ↔ ((number : ℕ) × (v : GateView) × (get_elem? s.views number ≡ some v) × (v.shut ≡ true))
  pub number : number_in (slice_index s.words 0) ≡ total counted s.views
  pub few : number_in (slice_index s.words 0) ≤ most_seats
