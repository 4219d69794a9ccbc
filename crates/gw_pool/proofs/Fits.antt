-- Which calls fit, where the rows that they name are found.
use Rattle.std.proofs.Common.{◌≡◌, ℕ, ◌<◌, ◌==◌, ◌&&◌, Bool, true, false, length, Some, None, refl, nat_lt, lt-ltb, eq-eqb}
use Rattle.std.specs.List.{find}
use Rattle.gw_pool.specs.declared.limits.Limits.{Limits}
use Rattle.gw_pool.specs.declared.entry.Call.TheVariants as call
use Rattle.gw_pool.specs.declared.rows.Place.{Place}
use Rattle.gw_pool.specs.declared.rows.Place.TheVariants.{Out}
use Rattle.gw_pool.specs.declared.rows.WantRow.{WantRow}
use Rattle.gw_pool.specs.declared.rows.ConnRow.{ConnRow}
use Rattle.gw_pool.specs.declared.rows.DialRow.{DialRow}
use Rattle.gw_pool.specs.Places.{is_granted, is_out_by}
use Rattle.gw_pool.specs.State.{State, wants_it, dials_for, has_number, is_with}
use Rattle.gw_pool.specs.Machine.{Outcome, when, units, step, want_step, start_by, start_row, dialed_by, dialed_row, failed_by, failed_row, cancel_by, cancel_out, cancel_row, cancel_conn, back_by, back_row, drop_by, drop_row}

when_true : (b : Bool) (o : Outcome) → b ≡ true → when b o ≡ Some o
when_true true o h = refl
when_true false o h = absurd (cc)

when_false : (b : Bool) (o : Outcome) → b ≡ false → when b o ≡ None
when_false true o h = absurd (cc)
when_false false o h = refl

both : (a b : Bool) → a ≡ true → b ≡ true → (a && b) ≡ true
both true b h k = k
both false b h k = h

neither : (a b : Bool) → a ≡ false → (a && b) ≡ false
neither true b h = absurd (cc)
neither false b h = refl

pub want_fits : (limits : Limits) (s : State) (caller host now : ℕ) → length (units s caller) < limits.per_pass → step limits s caller (call.Want host now) ≡ Some (want_step limits s caller host now)
unfolding step
want_fits limits s caller host now h = when_true (nat_lt (length (units s caller)) limits.per_pass) (want_step limits s caller host now) (lt-ltb (length (units s caller)) limits.per_pass h)

pub start_fits : (limits : Limits) (s : State) (want : ℕ) (row : WantRow) → find (wants_it want) s.wants ≡ Some row → is_granted row.stage ≡ true → step limits s row.caller (call.Start want) ≡ Some (start_row s row)
unfolding step start_by
start_fits limits s want row f g = rw f (when_true (is_granted row.stage && (row.caller == row.caller)) (start_row s row) (both (is_granted row.stage) (row.caller == row.caller) g (eq-eqb row.caller row.caller refl)))

pub start_unfit : (limits : Limits) (s : State) (want : ℕ) (row : WantRow) → find (wants_it want) s.wants ≡ Some row → is_granted row.stage ≡ false → (caller : ℕ) → step limits s caller (call.Start want) ≡ None
unfolding step start_by
start_unfit limits s want row f g caller = rw f (when_false (is_granted row.stage && (row.caller == caller)) (start_row s row) (neither (is_granted row.stage) (row.caller == caller) g))

pub start_none : (limits : Limits) (s : State) (want : ℕ) → find (wants_it want) s.wants ≡ None → (caller : ℕ) → step limits s caller (call.Start want) ≡ None
unfolding step start_by
start_none limits s want f caller = rw f

pub dialed_fits : (limits : Limits) (s : State) (want link now : ℕ) (row : DialRow) → find (dials_for want) s.dials ≡ Some row → step limits s row.caller (call.Dialed want link now) ≡ Some (dialed_row limits s row link now)
unfolding step dialed_by
dialed_fits limits s want link now row f = rw f (when_true (row.caller == row.caller) (dialed_row limits s row link now) (eq-eqb row.caller row.caller refl))

pub failed_fits : (limits : Limits) (s : State) (want : ℕ) (row : DialRow) → find (dials_for want) s.dials ≡ Some row → step limits s row.caller (call.DialFailed want) ≡ Some (failed_row limits s row)
unfolding step failed_by
failed_fits limits s want row f = rw f (when_true (row.caller == row.caller) (failed_row limits s row) (eq-eqb row.caller row.caller refl))

pub cancel_fits : (limits : Limits) (s : State) (want now : ℕ) (row : WantRow) → find (wants_it want) s.wants ≡ Some row → step limits s row.caller (call.Cancel want now) ≡ Some (cancel_row limits s row)
unfolding step cancel_by
cancel_fits limits s want now row f = rw f (when_true (row.caller == row.caller) (cancel_row limits s row) (eq-eqb row.caller row.caller refl))

out_by : (want caller : ℕ) (place : Place) → place ≡ Out want caller → is_out_by caller place ≡ true
out_by want caller place e = rw e (eq-eqb caller caller refl)

pub cancel_conn_fits : (limits : Limits) (s : State) (want now w caller : ℕ) (row : ConnRow) → find (wants_it want) s.wants ≡ None → find (is_with want) s.conns ≡ Some row → row.place ≡ Out w caller → step limits s caller (call.Cancel want now) ≡ Some (cancel_conn limits s want row now)
unfolding step cancel_by cancel_out
cancel_conn_fits limits s want now w caller row n f e = rw (n, f) (when_true (is_out_by caller row.place) (cancel_conn limits s want row now) (out_by w caller row.place e))

pub drop_fits : (limits : Limits) (s : State) (conn w caller : ℕ) (row : ConnRow) → find (has_number conn) s.conns ≡ Some row → row.place ≡ Out w caller → step limits s caller (call.Drop conn) ≡ Some (drop_row limits s row)
unfolding step drop_by
drop_fits limits s conn w caller row f e = rw f (when_true (is_out_by caller row.place) (drop_row limits s row) (out_by w caller row.place e))

pub back_fits : (limits : Limits) (s : State) (conn now w caller : ℕ) (row : ConnRow) → find (has_number conn) s.conns ≡ Some row → row.place ≡ Out w caller → step limits s caller (call.GiveBack conn now) ≡ Some (back_row limits s row now)
unfolding step back_by
back_fits limits s conn now w caller row f e = rw f (when_true (is_out_by caller row.place) (back_row limits s row now) (out_by w caller row.place e))
