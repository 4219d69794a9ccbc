-- The kinds of step: what each does to the view of its seat. `n` is the word before the step.
use Rattle.std.specs.Prelude.{◌≡◌, ℕ, ◌+◌, ◌-◌, ◌<◌, ◌≤◌, true, false, ◌||◌, [], nat_le, nat_eq}
use Rattle.atomic_table.specs.Table.{Me}
use Rattle.atomic_table.specs.Seated.{TableId}
use Rattle.atomic_table.specs.declared.shared.Seat.{Seat}
use Rattle.gw_gate.specs.declared.view.GateView.{GateView}
use Rattle.gw_gate.specs.Gate.{shut_bit, IsOpen, IsShut, IsDrained, number_in, most_seats, spent}

-- a seat has read a word
abbrev pub has_read : ℕ → GateView → GateView
has_read n v = record v { seen_shut = v.seen_shut || nat_le shut_bit n; drained = v.drained || nat_eq n shut_bit; last = n }

abbrev pub entered : ℕ → GateView → GateView
entered n v = record (has_read n v) { held = true }

abbrev pub refused : ℕ → GateView → GateView
refused n v = record (has_read n v) { undoing = true }

abbrev pub undone : GateView → GateView
undone v = record v { undoing = false }

abbrev pub left : ℕ → GateView → GateView
left n v = record (has_read n v) { held = false }

-- it set the bit
abbrev pub has_shut : ℕ → GateView → GateView
has_shut n v = record (has_read n v) { shut = true; seen_shut = true }

-- the old seat of a split has one room less
abbrev pub split_left : GateView → GateView
split_left v = record v { room = v.room - 1 }

-- the new one knows what the old one has seen
abbrev pub split_right : GateView → GateView
split_right v = record spent { room = 1; seen_shut = v.seen_shut; drained = v.drained }

-- a seat knows what the one joined into it knew
abbrev pub joined : GateView → GateView → GateView
joined v w = record v { room = v.room + w.room; shut = v.shut || w.shut; seen_shut = v.seen_shut || w.seen_shut; drained = v.drained || w.drained }

abbrev pub SeatMe : Type 0
SeatMe = Me (Unit {0}) GateView

-- a seat of the gate with one word, which holds nothing and isn't spent
pub record IsAt (gate : TableId) (place : Seat (Unit {0}) GateView) : Type 0 where
  pub gate_is : place.table_id ≡ gate
  pub one_word : gate.words ≡ 1
  pub no_slots : place.me.1 ≡ []
  pub some_room : 0 < place.me.0.room

-- a step leaves a seat the one that it is
abbrev pub IsSame : Seat (Unit {0}) GateView → Seat (Unit {0}) GateView → Type 0
IsSame before now = (now.table_id ≡ before.table_id) × (now.id ≡ before.id)

-- a seat that has seen the bit finds it again
abbrev pub Finds : GateView → ℕ → Type 0
Finds v n = v.seen_shut ≡ true → IsShut n

pub record Enters (me : SeatMe) (n : ℕ) (now : SeatMe) : Type 0 where
  pub granted : IsOpen n → now.0 ≡ entered n me.0
  pub refused : IsShut n → now.0 ≡ refused n me.0
  pub told : IsShut n → now.0.seen_shut ≡ true
  pub finds : Finds me.0 n
  pub slots : now.1 ≡ me.1

pub record Leaves (me : SeatMe) (n : ℕ) (now : SeatMe) : Type 0 where
  pub view : now.0 ≡ left n me.0
  pub slots : now.1 ≡ me.1

pub record Undoes (me : SeatMe) (n : ℕ) (now : SeatMe) : Type 0 where
  pub view : now.0 ≡ undone me.0
  pub slots : now.1 ≡ me.1

pub record Shuts (me : SeatMe) (n : ℕ) (now : SeatMe) : Type 0 where
  pub first : IsOpen n → now.0 ≡ has_shut n me.0
  pub already : IsShut n → now.0 ≡ has_read n me.0
  pub told : now.0.seen_shut ≡ true
  pub finds : Finds me.0 n
  pub slots : now.1 ≡ me.1

pub record Loads (me : SeatMe) (n : ℕ) (now : SeatMe) : Type 0 where
  pub view : now.0 ≡ has_read n me.0
  pub told : IsShut n → now.0.seen_shut ≡ true
  pub drained : IsDrained n → now.0.drained ≡ true
  pub finds : Finds me.0 n
  pub few : number_in n ≤ most_seats
  pub slots : now.1 ≡ me.1
