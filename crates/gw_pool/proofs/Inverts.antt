-- What a call that fits says of the rows that it names.
use Rattle.std.proofs.Common.{◌≡◌, ℕ, ◌==◌, ◌&&◌, ◌⊎◌, inl, inr, Bool, true, false, length, Option, Some, None, refl, ap, sym, ◌∙◌, nat_lt, eqb-true}
use Rattle.std.specs.List.{find}
use Rattle.gw_pool.specs.declared.limits.Limits.{Limits}
use Rattle.gw_pool.specs.declared.entry.Call.TheVariants as call
use Rattle.gw_pool.specs.declared.rows.Place.{Place}
use Rattle.gw_pool.specs.declared.rows.Place.TheVariants.{Out, Idle}
use Rattle.gw_pool.specs.declared.rows.WantRow.{WantRow}
use Rattle.gw_pool.specs.declared.rows.ConnRow.{ConnRow}
use Rattle.gw_pool.specs.declared.rows.DialRow.{DialRow}
use Rattle.gw_pool.specs.Places.{is_granted, is_out_by, since_of}
use Rattle.gw_pool.specs.State.{State, wants_it, dials_for, has_number, is_with, is_expired, take_oldest}
use Rattle.gw_pool.specs.Machine.{Outcome, when, units, step, want_step, start_by, start_row, dialed_by, dialed_row, failed_by, failed_row, cancel_by, cancel_out, cancel_row, cancel_conn, back_by, back_row, drop_by, drop_row, taken_row, expire_by, close_idle_by}

pub record Was (b : Bool) (o given : Outcome) : Type 0 where
  pub holds : b ≡ true
  pub same : given ≡ o

pub was : (b : Bool) (o given : Outcome) → when b o ≡ Some given → Was b o given
was true o given e = record { holds = refl; same = cc }
was false o given e = absurd (cc)

and_left : (a b : Bool) → (a && b) ≡ true → a ≡ true
and_left true b h = refl
and_left false b h = h

and_right : (a b : Bool) → (a && b) ≡ true → b ≡ true
and_right true b h = h
and_right false b h = absurd (cc)

out_by : (caller : ℕ) (place : Place) → is_out_by caller place ≡ true → (want : ℕ) × (place ≡ Out want caller)
out_by caller (Out w c) h = (w, ap (λ n. Out w n) (eqb-true c caller h))
out_by caller (Idle s t) h = absurd (cc)

pub want_was : (limits : Limits) (s : State) (caller host now : ℕ) (o : Outcome) → step limits s caller (call.Want host now) ≡ Some o → o ≡ want_step limits s caller host now
unfolding step
want_was limits s caller host now o e = (was (nat_lt (length (units s caller)) limits.per_pass) (want_step limits s caller host now) o e).same

pub record StartWas (s : State) (caller want : ℕ) (o : Outcome) : Type 0 where
  pub row : WantRow
  pub found : find (wants_it want) s.wants ≡ Some row
  pub granted : is_granted row.stage ≡ true
  pub by : row.caller ≡ caller
  pub same : o ≡ start_row s row

start_with : (s : State) (caller want : ℕ) (o : Outcome) (r : Option WantRow) → find (wants_it want) s.wants ≡ r → start_by s caller r ≡ Some o → StartWas s caller want o
unfolding start_by
start_with s caller want o None f e = absurd (cc)
start_with s caller want o (Some row) f e =
    let w = was (is_granted row.stage && (row.caller == caller)) (start_row s row) o e in
    record { row = row; found = f; granted = and_left (is_granted row.stage) (row.caller == caller) w.holds; by = eqb-true row.caller caller (and_right (is_granted row.stage) (row.caller == caller) w.holds); same = w.same }

pub start_was : (limits : Limits) (s : State) (caller want : ℕ) (o : Outcome) → step limits s caller (call.Start want) ≡ Some o → StartWas s caller want o
unfolding step
start_was limits s caller want o e = start_with s caller want o (find (wants_it want) s.wants) refl e

pub record DialedWas (limits : Limits) (s : State) (caller want link now : ℕ) (o : Outcome) : Type 0 where
  pub row : DialRow
  pub found : find (dials_for want) s.dials ≡ Some row
  pub by : row.caller ≡ caller
  pub same : o ≡ dialed_row limits s row link now

dialed_with : (limits : Limits) (s : State) (caller want link now : ℕ) (o : Outcome) (r : Option DialRow) → find (dials_for want) s.dials ≡ r → dialed_by limits s caller link now r ≡ Some o → DialedWas limits s caller want link now o
unfolding dialed_by
dialed_with limits s caller want link now o None f e = absurd (cc)
dialed_with limits s caller want link now o (Some row) f e = let w = was (row.caller == caller) (dialed_row limits s row link now) o e in record { row = row; found = f; by = eqb-true row.caller caller w.holds; same = w.same }

pub dialed_was : (limits : Limits) (s : State) (caller want link now : ℕ) (o : Outcome) → step limits s caller (call.Dialed want link now) ≡ Some o → DialedWas limits s caller want link now o
unfolding step
dialed_was limits s caller want link now o e = dialed_with limits s caller want link now o (find (dials_for want) s.dials) refl e

pub record FailedWas (limits : Limits) (s : State) (caller want : ℕ) (o : Outcome) : Type 0 where
  pub row : DialRow
  pub found : find (dials_for want) s.dials ≡ Some row
  pub by : row.caller ≡ caller
  pub same : o ≡ failed_row limits s row

failed_with : (limits : Limits) (s : State) (caller want : ℕ) (o : Outcome) (r : Option DialRow) → find (dials_for want) s.dials ≡ r → failed_by limits s caller r ≡ Some o → FailedWas limits s caller want o
unfolding failed_by
failed_with limits s caller want o None f e = absurd (cc)
failed_with limits s caller want o (Some row) f e = let w = was (row.caller == caller) (failed_row limits s row) o e in record { row = row; found = f; by = eqb-true row.caller caller w.holds; same = w.same }

pub failed_was : (limits : Limits) (s : State) (caller want : ℕ) (o : Outcome) → step limits s caller (call.DialFailed want) ≡ Some o → FailedWas limits s caller want o
unfolding step
failed_was limits s caller want o e = failed_with limits s caller want o (find (dials_for want) s.dials) refl e

pub record CancelRowWas (limits : Limits) (s : State) (caller want : ℕ) (o : Outcome) : Type 0 where
  pub row : WantRow
  pub found : find (wants_it want) s.wants ≡ Some row
  pub by : row.caller ≡ caller
  pub same : o ≡ cancel_row limits s row

pub record CancelConnWas (limits : Limits) (s : State) (caller want now : ℕ) (o : Outcome) : Type 0 where
  pub row : ConnRow
  pub found : find (is_with want) s.conns ≡ Some row
  pub place : (w : ℕ) × (row.place ≡ Out w caller)
  pub same : o ≡ cancel_conn limits s want row now

cancel_conn_with : (limits : Limits) (s : State) (caller want now : ℕ) (o : Outcome) (r : Option ConnRow) → find (is_with want) s.conns ≡ r → cancel_out limits s caller want now r ≡ Some o → CancelConnWas limits s caller want now o
unfolding cancel_out
cancel_conn_with limits s caller want now o None f e = absurd (cc)
cancel_conn_with limits s caller want now o (Some row) f e = let w = was (is_out_by caller row.place) (cancel_conn limits s want row now) o e in record { row = row; found = f; place = out_by caller row.place w.holds; same = w.same }

cancel_with : (limits : Limits) (s : State) (caller want now : ℕ) (o : Outcome) (r : Option WantRow) → find (wants_it want) s.wants ≡ r → cancel_by limits s caller want now r ≡ Some o → CancelRowWas limits s caller want o ⊎ CancelConnWas limits s caller want now o
unfolding cancel_by
cancel_with limits s caller want now o (Some row) f e = let w = was (row.caller == caller) (cancel_row limits s row) o e in inl (record { row = row; found = f; by = eqb-true row.caller caller w.holds; same = w.same })
cancel_with limits s caller want now o None f e = inr (cancel_conn_with limits s caller want now o (find (is_with want) s.conns) refl e)

pub cancel_was : (limits : Limits) (s : State) (caller want now : ℕ) (o : Outcome) → step limits s caller (call.Cancel want now) ≡ Some o → CancelRowWas limits s caller want o ⊎ CancelConnWas limits s caller want now o
unfolding step
cancel_was limits s caller want now o e = cancel_with limits s caller want now o (find (wants_it want) s.wants) refl e

pub record DropWas (limits : Limits) (s : State) (caller conn : ℕ) (o : Outcome) : Type 0 where
  pub row : ConnRow
  pub found : find (has_number conn) s.conns ≡ Some row
  pub place : (w : ℕ) × (row.place ≡ Out w caller)
  pub same : o ≡ drop_row limits s row

drop_with : (limits : Limits) (s : State) (caller conn : ℕ) (o : Outcome) (r : Option ConnRow) → find (has_number conn) s.conns ≡ r → drop_by limits s caller r ≡ Some o → DropWas limits s caller conn o
unfolding drop_by
drop_with limits s caller conn o None f e = absurd (cc)
drop_with limits s caller conn o (Some row) f e = let w = was (is_out_by caller row.place) (drop_row limits s row) o e in record { row = row; found = f; place = out_by caller row.place w.holds; same = w.same }

pub drop_was : (limits : Limits) (s : State) (caller conn : ℕ) (o : Outcome) → step limits s caller (call.Drop conn) ≡ Some o → DropWas limits s caller conn o
unfolding step
drop_was limits s caller conn o e = drop_with limits s caller conn o (find (has_number conn) s.conns) refl e

pub record BackWas (limits : Limits) (s : State) (caller conn now : ℕ) (o : Outcome) : Type 0 where
  pub row : ConnRow
  pub found : find (has_number conn) s.conns ≡ Some row
  pub place : (w : ℕ) × (row.place ≡ Out w caller)
  pub same : o ≡ back_row limits s row now

back_with : (limits : Limits) (s : State) (caller conn now : ℕ) (o : Outcome) (r : Option ConnRow) → find (has_number conn) s.conns ≡ r → back_by limits s caller now r ≡ Some o → BackWas limits s caller conn now o
unfolding back_by
back_with limits s caller conn now o None f e = absurd (cc)
back_with limits s caller conn now o (Some row) f e = let w = was (is_out_by caller row.place) (back_row limits s row now) o e in record { row = row; found = f; place = out_by caller row.place w.holds; same = w.same }

pub back_was : (limits : Limits) (s : State) (caller conn now : ℕ) (o : Outcome) → step limits s caller (call.GiveBack conn now) ≡ Some o → BackWas limits s caller conn now o
unfolding step
back_was limits s caller conn now o e = back_with limits s caller conn now o (find (has_number conn) s.conns) refl e

pub record IdleWas (s : State) (o : Outcome) : Type 0 where
  pub row : ConnRow
  pub found : (take_oldest s).0 ≡ Some row
  pub same : o ≡ taken_row row (take_oldest s).1

expire_with : (limits : Limits) (s : State) (now : ℕ) (o : Outcome) (p : Option ConnRow × State) → take_oldest s ≡ p → expire_by limits now p ≡ Some o → IdleWas s o
unfolding expire_by
expire_with limits s now o (None, t) f e = absurd (cc)
expire_with limits s now o (Some row, t) f e =
    let w = was (is_expired limits (since_of row.place) now) (taken_row row t) o e in
    record { row = row; found = ap (λ (q : Option ConnRow × State). q.0) f; same = w.same ∙ ap (λ (q : Option ConnRow × State). taken_row row q.1) (sym f) }

pub expire_was : (limits : Limits) (s : State) (caller now : ℕ) (o : Outcome) → step limits s caller (call.Expire now) ≡ Some o → IdleWas s o
unfolding step
expire_was limits s caller now o e = expire_with limits s now o (take_oldest s) refl e

close_with : (s : State) (o : Outcome) (p : Option ConnRow × State) → take_oldest s ≡ p → close_idle_by p ≡ Some o → IdleWas s o
unfolding close_idle_by
close_with s o (None, t) f e = absurd (cc)
close_with s o (Some row, t) f e =
    let same : o ≡ taken_row row t = cc in
    record { row = row; found = ap (λ (q : Option ConnRow × State). q.0) f; same = same ∙ ap (λ (q : Option ConnRow × State). taken_row row q.1) (sym f) }

pub close_was : (limits : Limits) (s : State) (caller : ℕ) (o : Outcome) → step limits s caller call.CloseIdle ≡ Some o → IdleWas s o
unfolding step
close_was limits s caller o e = close_with s o (take_oldest s) refl e

-- a want fits where its caller has fewer units than it may have
pub want_few : (limits : Limits) (s : State) (caller host now : ℕ) (o : Outcome) → step limits s caller (call.Want host now) ≡ Some o → nat_lt (length (units s caller)) limits.per_pass ≡ true
unfolding step
want_few limits s caller host now o e = (was (nat_lt (length (units s caller)) limits.per_pass) (want_step limits s caller host now) o e).holds
