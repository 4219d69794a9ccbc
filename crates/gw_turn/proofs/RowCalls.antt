-- The calls of a pass that has the turn which name a row.
use Rattle.std.proofs.Common.{◌≡◌, ℕ, ◌+◌, ◌<◌, ◌≤◌, ◌==◌, ◌⊎◌, inl, inr, Bool, true, false, List, [], ◌∷◌, ◌++◌, Option, Some, None, refl, ap, sym, ◌∙◌, arith, cond, subst, length}
use Rattle.std.specs.List.{find}
use Rattle.std.specs.Option.{IsSome}
use Rattle.gw_wire.specs.Link.{LinkView}
use Rattle.gw_pool.specs.declared.entry.Call.{Call}
use Rattle.gw_pool.specs.declared.entry.Entry.{Entry}
use Rattle.gw_pool.specs.declared.entry.Call.TheVariants as call
use Rattle.gw_pool.specs.declared.rows.Place.{Place}
use Rattle.gw_pool.specs.declared.rows.Place.TheVariants.{Out}
use Rattle.gw_pool.specs.declared.rows.ConnRow.{ConnRow}
use Rattle.gw_pool.specs.declared.leases.Ticket.{Ticket}
use Rattle.gw_pool.specs.declared.leases.DialToken.{DialToken}
use Rattle.gw_pool.specs.declared.leases.Lease.{Lease}
use Rattle.gw_pool.specs.declared.leases.Put.{Put}
use Rattle.gw_pool.specs.State.{State, has_number, is_with}
use Rattle.gw_pool.specs.Machine.{Outcome, step, Standing, Served, MayDial, NotServed, NotComing, standing}
use Rattle.gw_pool.specs.History.{after}
use Rattle.gw_pool.specs.Tokens.{change, has_ticket, has_dial, with_dial, without_dial, without_ticket, leased, without_lease}
use Rattle.gw_pool.specs.Core.{CoreView, Enters, Started, NotStarted, Done, DonePut, CancelDone, IsBack, IsOut, IdleTaken as CoreIdle, IdleNot as CoreNot, IdleDone, state_at, AskTaken as CoreTaken}
use Rattle.gw_pool.specs.Lent as lent
use Rattle.gw_pool.specs.Lent.{Lent, Looks, LeaseOf, row_of}
use Rattle.gw_pool.proofs.Inverts.{start_was, dialed_was, failed_was, cancel_was, back_was, drop_was, IdleWas, CancelRowWas, CancelConnWas}
use Rattle.gw_pool.proofs.Shelves.{out_at}
use Rattle.gw_pool.proofs.Edits.{found_passes}
use Rattle.gw_pool.proofs.Owns.{found_among}
use Rattle.gw_pool.proofs.SoloCalls.{not_coming_rows}
use Rattle.gw_pool.proofs.TieCalls.{leased_has}
use Rattle.gw_pool.specs.Owner.{owner}
use Rattle.gw_turn.specs.Tie.{Moves}
use Rattle.gw_turn.specs.Meeting.{Meeting, Entering, Leaving, known}
use Rattle.gw_turn.proofs.Moving.{move_drop, move_back, move_cancel, move_cancel_conn, move_none, move_lease, move_start, move_failed, move_dialed, move_idle}
use Rattle.gw_pool.proofs.Callers.{want_caller, dial_caller, conn_caller, served_place, served_number}
use Rattle.gw_pool.proofs.Staying.{leases_stay}
use Rattle.gw_turn.proofs.Callers.{ticket_own, dial_own}
use Rattle.gw_turn.proofs.CoreCalls.{calls, looks, entering, leaving, leaving_same, numbers, owned}

-- start
start_caller : (l : Lent) (core core' : CoreView) (w : ℕ) → Meeting l core → has_ticket w l.out ≡ true → (d : Started core core' w) → d.caller ≡ l.number
start_caller l core core' w m k d =
    let was = start_was core.limits (state_at core) d.caller w d.outcome d.enters.fits in
    sym was.by ∙ want_caller (owner core.journal) (state_at core) w was.row (owned l core m) was.found ∙ ticket_own (owner core.journal) l.number (state_at core) l.out core.taken w m.ties k

start_enters : (l : Lent) (core core' : CoreView) (w : ℕ) → Meeting l core → has_ticket w l.out ≡ true → (d : Started core core' w) → Enters core core' l.number (call.Start w) d.outcome
start_enters l core core' w m k d = subst (λ n. Enters core core' n (call.Start w) d.outcome) (start_caller l core core' w m k d) d.enters

pub enter_start : (l : Lent) (core core' : CoreView) (w : ℕ) → Meeting l core → has_ticket w l.out ≡ true → Started core core' w → Entering l.number core core' l.out (change w with_dial l.out)
enter_start l core core' w m k d =
    let was = start_was core.limits (state_at core) d.caller w d.outcome d.enters.fits in
    let same = was.same in
    entering l.number core core' (call.Start w) d.outcome l.out (change w with_dial l.out) (start_enters l core core' w m k d)
    (rw same (move_start (owner core.journal) l.number (state_at core) l.out core.taken core'.taken w was.row (numbers l core m) m.ties was.found was.granted k d.enters.taken))

pub start_go : (l : Lent) (core core' : CoreView) (t : Ticket) (d : DialToken) → Meeting l core → has_ticket t.want l.out ≡ true → Started core core' t.want → d.want ≡ t.want → d.host ≡ t.host → lent.StartGo l (known l core' (change t.want with_dial l.out) l.waits) t d
start_go l core core' t d m k s a b = record {
  others = m.others;
  outcome = s.outcome;
  calls = calls l core core' (call.Start t.want) s.outcome (change t.want with_dial l.out) l.waits m (start_enters l core core' t.want m k s) (enter_start l core core' t.want m k s);
  reply = s.is_go;
  want = a;
  host = b;
  leaves = record { out = refl; waits = refl; audit_failed = refl };
}

pub start_not : (l : Lent) (core core' : CoreView) (t : Ticket) → Meeting l core → NotStarted core core' t.want → lent.StartNot l (known l core' l.out l.waits) t
start_not l core core' t m s = record {
  others = m.others;
  looks = looks l core core' l.out l.waits m (leaving_same l core core' m s.same);
  stands = rw (m.same_limits, m.since) (s.unfit l.number);
  leaves = record { out = refl; waits = refl; audit_failed = refl };
}

-- dial_failed and dialed
failed_enters : (l : Lent) (core core' : CoreView) (w : ℕ) → Meeting l core → has_dial w l.out ≡ true → (d : Done core core' (call.DialFailed w)) → Enters core core' l.number (call.DialFailed w) d.outcome
failed_enters l core core' w m k d =
    let was = failed_was core.limits (state_at core) d.caller w d.outcome d.enters.fits in
    let by : d.caller ≡ l.number = sym was.by ∙ dial_caller (owner core.journal) (state_at core) w was.row (owned l core m) was.found ∙ dial_own (owner core.journal) l.number (state_at core) l.out core.taken w m.ties k in
    subst (λ n. Enters core core' n (call.DialFailed w) d.outcome) by d.enters

pub enter_failed : (l : Lent) (core core' : CoreView) (w : ℕ) → Meeting l core → has_dial w l.out ≡ true → Done core core' (call.DialFailed w) → Entering l.number core core' l.out (change w without_dial l.out)
enter_failed l core core' w m k d =
    let was = failed_was core.limits (state_at core) d.caller w d.outcome d.enters.fits in
    let same = was.same in
    entering l.number core core' (call.DialFailed w) d.outcome l.out (change w without_dial l.out) (failed_enters l core core' w m k d)
    (rw same (move_failed (owner core.journal) l.number core.limits (state_at core) l.out core.taken core'.taken w was.row m.ties was.found k d.enters.taken))

pub dial_failed : (l : Lent) (core core' : CoreView) (t : DialToken) → Meeting l core → has_dial t.want l.out ≡ true → Done core core' (call.DialFailed t.want) → lent.DialFailedStep l (known l core' (change t.want without_dial l.out) l.waits) t
dial_failed l core core' t m k d = record {
  others = m.others;
  outcome = d.outcome;
  calls = calls l core core' (call.DialFailed t.want) d.outcome (change t.want without_dial l.out) l.waits m (failed_enters l core core' t.want m k d) (enter_failed l core core' t.want m k d);
  leaves = record { out = refl; waits = refl; audit_failed = refl };
}

dialed_enters : {C : Type 0} (link : C → LinkView) (l : Lent) (core core' : CoreView) (w number now : ℕ) (close : Option C) → Meeting l core → has_dial w l.out ≡ true → (d : DonePut link core core' (call.Dialed w number now) close) → Enters core core' l.number (call.Dialed w number now) d.outcome
dialed_enters link l core core' w number now close m k d =
    let was = dialed_was core.limits (state_at core) d.caller w number now d.outcome d.enters.fits in
    let by : d.caller ≡ l.number = sym was.by ∙ dial_caller (owner core.journal) (state_at core) w was.row (owned l core m) was.found ∙ dial_own (owner core.journal) l.number (state_at core) l.out core.taken w m.ties k in
    subst (λ n. Enters core core' n (call.Dialed w number now) d.outcome) by d.enters

pub enter_dialed : {C : Type 0} (link : C → LinkView) (l : Lent) (core core' : CoreView) (w number now : ℕ) (close : Option C) → Meeting l core → has_dial w l.out ≡ true → DonePut link core core' (call.Dialed w number now) close → Entering l.number core core' l.out (change w without_dial l.out)
enter_dialed link l core core' w number now close m k d =
    let was = dialed_was core.limits (state_at core) d.caller w number now d.outcome d.enters.fits in
    let same = was.same in
    entering l.number core core' (call.Dialed w number now) d.outcome l.out (change w without_dial l.out) (dialed_enters link l core core' w number now close m k d)
    (rw same (move_dialed (owner core.journal) l.number core.limits (state_at core) l.out core.taken core'.taken w number now was.row m.ties was.found k d.enters.taken))

pub dialed : {C : Type 0} (link : C → LinkView) (l : Lent) (core core' : CoreView) (t : DialToken) (number now : ℕ) (put : Put C) → Meeting l core → has_dial t.want l.out ≡ true → DonePut link core core' (call.Dialed t.want number now) put.close → lent.DialedStep link l (known l core' (change t.want without_dial l.out) l.waits) t number now put
dialed link l core core' t number now put m k d = record {
  others = m.others;
  outcome = d.outcome;
  calls = calls l core core' (call.Dialed t.want number now) d.outcome (change t.want without_dial l.out) l.waits m (dialed_enters link l core core' t.want number now put.close m k d) (enter_dialed link l core core' t.want number now put.close m k d);
  close = d.closes;
  leaves = record { out = refl; waits = refl; audit_failed = refl };
}

-- ask
pub leave_taken : {C : Type 0} (link : C → LinkView) (l : Lent) (core core' : CoreView) (w : ℕ) (conn : C) (n : ℕ) (reused : Bool) (host : ℕ) → Meeting l core → has_ticket w l.out ≡ true → CoreTaken link core core' w conn n reused host → Leaving l.number core core' l.out (change w leased l.out)
leave_taken link l core core' w conn n reused host m k d =
    leaving l core core' (change w leased l.out) d.limits d.journal (move_lease (owner core.journal) l.number (state_at core) l.out core.taken core'.taken w (numbers l core m) m.ties k d.taken)

pub leave_none : (l : Lent) (core core' : CoreView) (w : ℕ) → Meeting l core → has_ticket w l.out ≡ true → core' ≡ core → standing (state_at core) w ≡ NotComing → Leaving l.number core core' l.out (change w without_ticket l.out)
leave_none l core core' w m k e st =
    let none = not_coming_rows (state_at core) w st in
    rw e (leaving l core core (change w without_ticket l.out) refl refl (move_none (owner core.journal) l.number (state_at core) l.out core.taken core.taken w m.ties none.0 none.1 k (λ v u. u)))

row_eq : (row : ConnRow) (number host link w c : ℕ) (reused : Bool) → number ≡ row.conn → host ≡ row.host → link ≡ row.link → reused ≡ row.reused → row.place ≡ Out w c → row ≡ record { conn = number; host = host; link = link; reused = reused; place = Out w c }
row_eq row number host link w c reused a b d e p = rw (a, b, d, e, ← p) refl

pub ask_taken : {C : Type 0} (link : C → LinkView) (l : Lent) (core core' : CoreView) (t : Ticket) (conn : C) (number : ℕ) (reused : Bool) (host linked : ℕ) → Meeting l core → has_ticket t.want l.out ≡ true → CoreTaken link core core' t.want conn number reused host → linked ≡ (link conn).number
    → lent.AskTaken link l (known l core' (change t.want leased l.out) l.waits) t (record { conn = conn; no = number; want = t.want; host = host; link = linked; reused = reused })
ask_taken link l core core' t conn number reused host linked m k d e =
    let mine : owner core.journal t.want ≡ l.number = ticket_own (owner core.journal) l.number (state_at core) l.out core.taken t.want m.ties k in
    let place = served_place (owner core.journal) l.number (state_at core) t.want d.row (owned l core m) mine d.stands in
    let same : d.row ≡ record { conn = number; host = host; link = linked; reused = reused; place = Out t.want l.number } = row_eq d.row number host linked t.want l.number reused d.is_no d.is_host (e ∙ d.is_conn) d.is_reused place in
    let found : find (has_number number) (state_at core).conns ≡ Some d.row = rw d.is_no (served_number (state_at core) t.want d.row (numbers l core m) d.stands) in
    record {
      others = m.others;
      looks = looks l core core' (change t.want leased l.out) l.waits m (leave_taken link l core core' t.want conn number reused host m k d);
      stands = rw (m.same_limits, m.since) (d.stands ∙ ap (λ r. Served r) same);
      want = refl;
      lease = record { out = leased_has t.want l.out m.ties.once k; row = rw (m.same_limits, d.journal) (found ∙ ap (λ r. Some r) same); conn = sym e };
      leaves = record { out = refl; waits = refl; audit_failed = refl };
    }

pub ask_granted : (l : Lent) (core core' : CoreView) (t : Ticket) → Meeting l core → standing (state_at core) t.want ≡ MayDial → core' ≡ core → lent.AskGranted l (known l core' l.out l.waits) t t
ask_granted l core core' t m st e = record {
  others = m.others;
  looks = looks l core core' l.out l.waits m (leaving_same l core core' m e);
  stands = rw (m.same_limits, m.since) st;
  same = refl;
  leaves = record { out = refl; waits = refl; audit_failed = refl };
}

pub ask_not_yet : (l : Lent) (core core' : CoreView) (t : Ticket) (waits : ℕ) → Meeting l core → standing (state_at core) t.want ≡ NotServed → core' ≡ core → waits ≡ Rattle.std.specs.Prelude.min (l.waits + 1) (Rattle.std.specs.Prelude.◌-◌ (Rattle.std.specs.Prelude.◌^◌ 2 64) 1) → lent.AskNotYet l (known l core' l.out waits) t t
ask_not_yet l core core' t waits m st e w = record {
  others = m.others;
  looks = looks l core core' l.out waits m (leaving_same l core core' m e);
  stands = λ fresh only. rw (m.same_limits, m.since) st;
  same = refl;
  leaves = record { out = refl; waits = w; audit_failed = refl };
}

pub ask_failed : (l : Lent) (core core' : CoreView) (t : Ticket) → Meeting l core → has_ticket t.want l.out ≡ true → standing (state_at core) t.want ≡ NotComing → core' ≡ core → lent.AskFailed l (known l core' (change t.want without_ticket l.out) l.waits) t
ask_failed l core core' t m k st e = record {
  others = m.others;
  looks = looks l core core' (change t.want without_ticket l.out) l.waits m (leave_none l core core' t.want m k e st);
  stands = rw (m.same_limits, m.since) st;
  leaves = record { out = refl; waits = refl; audit_failed = refl };
}

-- cancel
cancel_caller : (l : Lent) (core : CoreView) (w now d : ℕ) (o : Outcome) → Meeting l core → has_ticket w l.out ≡ true → CancelRowWas core.limits (state_at core) d w o ⊎ CancelConnWas core.limits (state_at core) d w now o → d ≡ l.number
cancel_caller l core w now d o m k (inl was) = sym was.by ∙ want_caller (owner core.journal) (state_at core) w was.row (owned l core m) was.found ∙ ticket_own (owner core.journal) l.number (state_at core) l.out core.taken w m.ties k
cancel_caller l core w now d o m k (inr was) =
    let out = out_at w was.row (found_passes (is_with w) (state_at core).conns was.row was.found) in
    let both : Out was.place.0 d ≡ Out w out.0 = sym was.place.1 ∙ out.1 in
    let same : d ≡ out.0 = cc in
    same ∙ conn_caller (owner core.journal) (state_at core) w out.0 was.row (owned l core m) (found_among (is_with w) was.row (state_at core).conns was.found) out.1 ∙ ticket_own (owner core.journal) l.number (state_at core) l.out core.taken w m.ties k

cancel_moves : (l : Lent) (core core' : CoreView) (w now d : ℕ) (o : Outcome) → Meeting l core → has_ticket w l.out ≡ true → Rattle.gw_pool.specs.Shelf.LeavesTaken core.taken core'.taken → CancelRowWas core.limits (state_at core) d w o ⊎ CancelConnWas core.limits (state_at core) d w now o
    → Moves (owner core.journal) (owner core.journal) l.number (state_at core) o.state core.taken core'.taken l.out (change w without_ticket l.out)
cancel_moves l core core' w now d o m k tk (inl was) = let same = was.same in rw same (move_cancel (owner core.journal) l.number core.limits (state_at core) l.out core.taken core'.taken w was.row (numbers l core m) m.ties was.found k tk)
cancel_moves l core core' w now d o m k tk (inr was) =
    let same = was.same in
    let out = out_at w was.row (found_passes (is_with w) (state_at core).conns was.row was.found) in
    rw same (move_cancel_conn (owner core.journal) l.number core.limits (state_at core) l.out core.taken core'.taken w now out.0 was.row (numbers l core m) m.ties was.found out.1 k tk)

cancel_enters : {C : Type 0} (link : C → LinkView) (l : Lent) (core core' : CoreView) (w now : ℕ) (close : Option C) → Meeting l core → has_ticket w l.out ≡ true → (d : DonePut link core core' (call.Cancel w now) close) → Enters core core' l.number (call.Cancel w now) d.outcome
cancel_enters link l core core' w now close m k d = subst (λ n. Enters core core' n (call.Cancel w now) d.outcome) (cancel_caller l core w now d.caller d.outcome m k (cancel_was core.limits (state_at core) d.caller w now d.outcome d.enters.fits)) d.enters

pub enter_cancel : {C : Type 0} (link : C → LinkView) (l : Lent) (core core' : CoreView) (w now : ℕ) (close : Option C) → Meeting l core → has_ticket w l.out ≡ true → DonePut link core core' (call.Cancel w now) close → Entering l.number core core' l.out (change w without_ticket l.out)
enter_cancel link l core core' w now close m k d =
    entering l.number core core' (call.Cancel w now) d.outcome l.out (change w without_ticket l.out) (cancel_enters link l core core' w now close m k d)
    (cancel_moves l core core' w now d.caller d.outcome m k d.enters.taken (cancel_was core.limits (state_at core) d.caller w now d.outcome d.enters.fits))

-- give_back and drop_conn: the lease is still out
pub lease_row : {C : Type 0} (link : C → LinkView) (l : Lent) (core : CoreView) (lease : Lease C) → Meeting l core → LeaseOf link l lease → find (has_number lease.no) (state_at core).conns ≡ Some (row_of l.number lease)
lease_row link l core lease m k =
    let seen : find (has_number lease.no) (after core.limits l.seen).conns ≡ Some (row_of l.number lease) = rw (← m.same_limits) k.row in
    subst (λ h. find (has_number lease.no) (after core.limits h).conns ≡ Some (row_of l.number lease)) m.since
    (leases_stay core.limits l.seen m.others l.number lease.want (row_of l.number lease) (rw m.since m.legal) (rw m.foreign refl) seen refl)

same_row : (s : State) (n : ℕ) (a b : ConnRow) → find (has_number n) s.conns ≡ Some a → find (has_number n) s.conns ≡ Some b → a ≡ b
same_row s n a b e f = let both = sym e ∙ f in cc

out_caller : (place : Place) (v w c d : ℕ) → place ≡ Out v c → place ≡ Out w d → c ≡ d
out_caller place v w c d p q = let both : Out v c ≡ Out w d = sym p ∙ q in cc

back_enters : {C : Type 0} (link : C → LinkView) (l : Lent) (core core' : CoreView) (lease : Lease C) (now : ℕ) (close : Option C) → Meeting l core → LeaseOf link l lease → (d : DonePut link core core' (call.GiveBack lease.no now) close) → Enters core core' l.number (call.GiveBack lease.no now) d.outcome
back_enters link l core core' lease now close m k d =
    let was = back_was core.limits (state_at core) d.caller lease.no now d.outcome d.enters.fits in
    let same : row_of l.number lease ≡ was.row = same_row (state_at core) lease.no (row_of l.number lease) was.row (lease_row link l core lease m k) was.found in
    subst (λ n. Enters core core' n (call.GiveBack lease.no now) d.outcome) (out_caller was.row.place was.place.0 lease.want d.caller l.number was.place.1 (ap (λ (r : ConnRow). r.place) (sym same))) d.enters

pub enter_back : {C : Type 0} (link : C → LinkView) (l : Lent) (core core' : CoreView) (lease : Lease C) (now : ℕ) (close : Option C) → Meeting l core → LeaseOf link l lease → DonePut link core core' (call.GiveBack lease.no now) close → Entering l.number core core' l.out (change lease.want without_lease l.out)
enter_back link l core core' lease now close m k d =
    let was = back_was core.limits (state_at core) d.caller lease.no now d.outcome d.enters.fits in
    let found = lease_row link l core lease m k in
    let same : was.row ≡ row_of l.number lease = same_row (state_at core) lease.no was.row (row_of l.number lease) was.found found in
    let now_is : d.outcome ≡ Rattle.gw_pool.specs.Machine.back_row core.limits (state_at core) (row_of l.number lease) now = was.same ∙ ap (λ r. Rattle.gw_pool.specs.Machine.back_row core.limits (state_at core) r now) same in
    entering l.number core core' (call.GiveBack lease.no now) d.outcome l.out (change lease.want without_lease l.out) (back_enters link l core core' lease now close m k d)
    (rw now_is (move_back (owner core.journal) l.number core.limits (state_at core) l.out core.taken core'.taken lease.no now lease.want l.number (row_of l.number lease) (numbers l core m) m.ties found refl k.out d.enters.taken))

pub back_step : {C : Type 0} (link : C → LinkView) (l : Lent) (core core' : CoreView) (lease : Lease C) (now : ℕ) (put : Put C) → Meeting l core → LeaseOf link l lease → DonePut link core core' (call.GiveBack lease.no now) put.close → lent.BackStep link l (known l core' (change lease.want without_lease l.out) l.waits) lease.no lease.want now put
back_step link l core core' lease now put m k d = record {
  others = m.others;
  outcome = d.outcome;
  calls = calls l core core' (call.GiveBack lease.no now) d.outcome (change lease.want without_lease l.out) l.waits m (back_enters link l core core' lease now put.close m k d) (enter_back link l core core' lease now put.close m k d);
  close = d.closes;
  leaves = record { out = refl; waits = refl; audit_failed = refl };
}

pub back_requires : {C : Type 0} (link : C → LinkView) (l : Lent) (core : CoreView) (lease : Lease C) → Meeting l core → LeaseOf link l lease → IsBack link lease.conn (find (has_number lease.no) (state_at core).conns)
back_requires link l core lease m k = rw (lease_row link l core lease m k) (refl, k.conn)

drop_enters : {C : Type 0} (link : C → LinkView) (l : Lent) (core core' : CoreView) (lease : Lease C) → Meeting l core → LeaseOf link l lease → (d : Done core core' (call.Drop lease.no)) → Enters core core' l.number (call.Drop lease.no) d.outcome
drop_enters link l core core' lease m k d =
    let was = drop_was core.limits (state_at core) d.caller lease.no d.outcome d.enters.fits in
    let same : row_of l.number lease ≡ was.row = same_row (state_at core) lease.no (row_of l.number lease) was.row (lease_row link l core lease m k) was.found in
    subst (λ n. Enters core core' n (call.Drop lease.no) d.outcome) (out_caller was.row.place was.place.0 lease.want d.caller l.number was.place.1 (ap (λ (r : ConnRow). r.place) (sym same))) d.enters

pub enter_drop : {C : Type 0} (link : C → LinkView) (l : Lent) (core core' : CoreView) (lease : Lease C) → Meeting l core → LeaseOf link l lease → Done core core' (call.Drop lease.no) → Entering l.number core core' l.out (change lease.want without_lease l.out)
enter_drop link l core core' lease m k d =
    let was = drop_was core.limits (state_at core) d.caller lease.no d.outcome d.enters.fits in
    let found = lease_row link l core lease m k in
    let same : was.row ≡ row_of l.number lease = same_row (state_at core) lease.no was.row (row_of l.number lease) was.found found in
    let now_is : d.outcome ≡ Rattle.gw_pool.specs.Machine.drop_row core.limits (state_at core) (row_of l.number lease) = was.same ∙ ap (λ r. Rattle.gw_pool.specs.Machine.drop_row core.limits (state_at core) r) same in
    entering l.number core core' (call.Drop lease.no) d.outcome l.out (change lease.want without_lease l.out) (drop_enters link l core core' lease m k d)
    (rw now_is (move_drop (owner core.journal) l.number core.limits (state_at core) l.out core.taken core'.taken lease.no lease.want l.number (row_of l.number lease) (numbers l core m) m.ties found refl k.out d.enters.taken))

pub drop_step : {C : Type 0} (link : C → LinkView) (l : Lent) (core core' : CoreView) (lease : Lease C) → Meeting l core → LeaseOf link l lease → Done core core' (call.Drop lease.no) → lent.DropStep l (known l core' (change lease.want without_lease l.out) l.waits) lease.no lease.want
drop_step link l core core' lease m k d = record {
  others = m.others;
  outcome = d.outcome;
  calls = calls l core core' (call.Drop lease.no) d.outcome (change lease.want without_lease l.out) l.waits m (drop_enters link l core core' lease m k d) (enter_drop link l core core' lease m k d);
  leaves = record { out = refl; waits = refl; audit_failed = refl };
}

pub drop_requires : {C : Type 0} (link : C → LinkView) (l : Lent) (core : CoreView) (lease : Lease C) → Meeting l core → LeaseOf link l lease → IsOut (find (has_number lease.no) (state_at core).conns)
drop_requires link l core lease m k = rw (lease_row link l core lease m k) refl

-- expire and close_idle
pub enter_idle : {C : Type 0} (link : C → LinkView) (l : Lent) (core core' : CoreView) (asked : Call) (conn : C) → Meeting l core → (d : CoreIdle link core core' l.number asked conn) → IdleWas (state_at core) d.outcome → Rattle.gw_pool.specs.Owner.made_by asked d.outcome.reply ≡ None → Entering l.number core core' l.out l.out
enter_idle link l core core' asked conn m d was none =
    let same = was.same in
    let owners : (w : ℕ) → Rattle.gw_pool.specs.Owner.owners_after (owner core.journal) (lent.entry_of l.number asked d.outcome.reply) w ≡ owner core.journal w = λ w. Rattle.gw_pool.proofs.Owners.owners_none (owner core.journal) (lent.entry_of l.number asked d.outcome.reply) w none in
    entering l.number core core' asked d.outcome l.out l.out d.enters
    (Rattle.gw_turn.proofs.CoreCalls.owners_same (owner core.journal) (Rattle.gw_pool.specs.Owner.owners_after (owner core.journal) (lent.entry_of l.number asked d.outcome.reply)) l.number (state_at core) d.outcome.state core.taken core'.taken l.out l.out owners
    (rw same (move_idle (owner core.journal) l.number (state_at core) l.out core.taken core'.taken m.ties d.enters.taken)))

pub idle_taken : {C : Type 0} (link : C → LinkView) (l : Lent) (core core' : CoreView) (asked : Call) (conn : C) → Meeting l core → CoreIdle link core core' l.number asked conn → Entering l.number core core' l.out l.out → lent.IdleTaken link l (known l core' l.out l.waits) asked conn
idle_taken link l core core' asked conn m d k = record {
  others = m.others;
  outcome = d.outcome;
  calls = calls l core core' asked d.outcome l.out l.waits m d.enters k;
  close = d.close;
  leaves = record { out = refl; waits = refl; audit_failed = refl };
}

pub idle_not : (l : Lent) (core core' : CoreView) (asked : Call) → Meeting l core → CoreNot core core' asked → lent.IdleNot l (known l core' l.out l.waits) asked
idle_not l core core' asked m d = record {
  others = m.others;
  looks = looks l core core' l.out l.waits m (leaving_same l core core' m d.same);
  unfit = rw (m.same_limits, m.since) d.unfit;
  leaves = record { out = refl; waits = refl; audit_failed = refl };
}

-- whether a cancel made an entry
longer_by : {C : Type 0} (link : C → LinkView) (core core' : CoreView) (asked : Call) (close : Option C) → DonePut link core core' asked close → length core'.journal ≡ length core.journal + 1
longer_by link core core' asked close d = ap (λ (h : List Entry). length h) d.enters.journal ∙ Rattle.std.proofs.Common.length-append core.journal (Rattle.gw_pool.specs.Core.entry_of d.caller asked d.outcome.reply ∷ [])

pub cancel_entered : {C : Type 0} (link : C → LinkView) (l : Lent) (core core' : CoreView) (w now : ℕ) (close : Option C) (st : Standing) → Meeting l core → has_ticket w l.out ≡ true → length core.journal < length core'.journal → CancelDone link core core' w now close st → Entering l.number core core' l.out (change w without_ticket l.out)
cancel_entered link l core core' w now close (Served row) m k more d = enter_cancel link l core core' w now close m k d
cancel_entered link l core core' w now close MayDial m k more d = enter_cancel link l core core' w now close m k d
cancel_entered link l core core' w now close NotServed m k more d = enter_cancel link l core core' w now close m k d
cancel_entered link l core core' w now close NotComing m k more d = absurd (let same = ap (λ (c : CoreView). length c.journal) d.0 in omega (arith, same, more))

cancel_left_by : {C : Type 0} (link : C → LinkView) (l : Lent) (core core' : CoreView) (w now : ℕ) (close : Option C) (st : Standing) → standing (state_at core) w ≡ st → Meeting l core → has_ticket w l.out ≡ true → length core'.journal ≤ length core.journal → CancelDone link core core' w now close st → Leaving l.number core core' l.out (change w without_ticket l.out)
cancel_left_by link l core core' w now close (Served row) e m k less d = absurd (let more = longer_by link core core' (call.Cancel w now) close d in omega (arith, more, less))
cancel_left_by link l core core' w now close MayDial e m k less d = absurd (let more = longer_by link core core' (call.Cancel w now) close d in omega (arith, more, less))
cancel_left_by link l core core' w now close NotServed e m k less d = absurd (let more = longer_by link core core' (call.Cancel w now) close d in omega (arith, more, less))
cancel_left_by link l core core' w now close NotComing e m k less d = leave_none l core core' w m k d.0 e

pub cancel_left : {C : Type 0} (link : C → LinkView) (l : Lent) (core core' : CoreView) (w now : ℕ) (close : Option C) → Meeting l core → has_ticket w l.out ≡ true → length core'.journal ≤ length core.journal → CancelDone link core core' w now close (standing (state_at core) w) → Leaving l.number core core' l.out (change w without_ticket l.out)
cancel_left link l core core' w now close m k less d = cancel_left_by link l core core' w now close (standing (state_at core) w) refl m k less d

cancel_made : {C : Type 0} (link : C → LinkView) (l : Lent) (core core' : CoreView) (t : Ticket) (now : ℕ) (put : Put C) (m : Meeting l core) → has_ticket t.want l.out ≡ true → DonePut link core core' (call.Cancel t.want now) put.close → lent.CancelMade link l (known l core' (change t.want without_ticket l.out) l.waits) m.others t now put
cancel_made link l core core' t now put m k d = record {
  outcome = d.outcome;
  calls = calls l core core' (call.Cancel t.want now) d.outcome (change t.want without_ticket l.out) l.waits m (cancel_enters link l core core' t.want now put.close m k d) (enter_cancel link l core core' t.want now put.close m k d);
  close = d.closes;
}

cancel_by : {C : Type 0} (link : C → LinkView) (l : Lent) (core core' : CoreView) (t : Ticket) (now : ℕ) (put : Put C) (st : Standing) → standing (state_at core) t.want ≡ st → (m : Meeting l core) → has_ticket t.want l.out ≡ true → CancelDone link core core' t.want now put.close st → lent.CancelBy link l (known l core' (change t.want without_ticket l.out) l.waits) m.others t now put st
cancel_by link l core core' t now put (Served row) e m k d = cancel_made link l core core' t now put m k d
cancel_by link l core core' t now put MayDial e m k d = cancel_made link l core core' t now put m k d
cancel_by link l core core' t now put NotServed e m k d = cancel_made link l core core' t now put m k d
cancel_by link l core core' t now put NotComing e m k d = record { looks = looks l core core' (change t.want without_ticket l.out) l.waits m (leave_none l core core' t.want m k d.0 e); close = d.1 }

met_state : (l : Lent) (core : CoreView) (m : Meeting l core) → state_at core ≡ after l.limits (l.seen ++ m.others)
met_state l core m = rw (m.same_limits, m.since) refl

pub cancels : {C : Type 0} (link : C → LinkView) (l : Lent) (core core' : CoreView) (t : Ticket) (now : ℕ) (put : Put C) → Meeting l core → has_ticket t.want l.out ≡ true → CancelDone link core core' t.want now put.close (standing (state_at core) t.want) → lent.CancelStep link l (known l core' (change t.want without_ticket l.out) l.waits) t now put
cancels link l core core' t now put m k d = record {
  others = m.others;
  does = subst (λ s. lent.CancelBy link l (known l core' (change t.want without_ticket l.out) l.waits) m.others t now put (standing s t.want)) (met_state l core m) (cancel_by link l core core' t now put (standing (state_at core) t.want) refl m k d);
  leaves = record { out = refl; waits = refl; audit_failed = refl };
}
