-- A seat as its callers see it.
use Rattle.std.specs.Prelude.{ℕ}
use Rattle.atomic_table.specs.Seated.{TableId}
use Rattle.gw_gate.specs.declared.view.GateView.{GateView}

-- which seat it is, and of which gate
pub record SeatName : Type 0 where
  pub gate : TableId
  pub number : ℕ

-- a seat, and what it knows
pub record SeatState : Type 0 where
  pub name : SeatName
  pub view : GateView

-- the seat with another view
abbrev pub with_view : SeatState → GateView → SeatState
with_view seat view = record seat { view = view }
