-- The rows that the pool keeps, as a state of the machine; and what its steps keep.
use Rattle.std.specs.Prelude.{◌≡◌, ◌<◌, length, vec_len, vec_capacity}
use Rattle.gw_pool.specs.declared.machine.Rows.{Rows}
use Rattle.gw_pool.specs.State.{State}
use Rattle.gw_pool.specs.Shelf.{LeavesTaken}

abbrev pub state_of : {C : Type 0} → Rows C → State
state_of r = record { wants = r.wants.items; dials = r.dials.items; conns = r.conns.rows; next_want = r.next_want; next_conn = r.next_conn; next_stamp = r.next_stamp }

-- there is room for one row more in each list
pub record HasRoom {C : Type 0} (r : Rows C) : Type 0 where
  pub wants : vec_len r.wants < vec_capacity r.wants
  pub dials : vec_len r.dials < vec_capacity r.dials
  pub conns : length r.conns.rows < r.conns.room

-- the limits and the room stay, and nothing is handed out
pub record Keeps {C : Type 0} (old new : Rows C) : Type 0 where
  pub limits : new.limits ≡ old.limits
  pub wants : vec_capacity new.wants ≡ vec_capacity old.wants
  pub dials : vec_capacity new.dials ≡ vec_capacity old.dials
  pub conns : new.conns.room ≡ old.conns.room
  pub taken : LeavesTaken old.conns.taken new.conns.taken
