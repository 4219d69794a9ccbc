-- What each step of the machine does to the room that the rows need, and to the next numbers.
use Rattle.std.proofs.Common.{◌≡◌, ℕ, ◌+◌, ◌≤◌, ◌==◌, Bool, true, false, [], ◌∷◌, ◌++◌, Option, Some, None, refl, sym, ◌∙◌, arith, cond, length-append, nat_lt, eq-eqb, eqb-true, subst}
use Rattle.std.specs.List.{find, count_by}
use Rattle.std.proofs.lemmas.List.Sums.{sum_by_push}
use Rattle.gw_pool.specs.declared.limits.Limits.{Limits}
use Rattle.gw_pool.specs.declared.rows.Stage.{Stage}
use Rattle.gw_pool.specs.declared.rows.Stage.TheVariants.{Waiting, Granted, Dialing}
use Rattle.gw_pool.specs.declared.rows.Place.{Place}
use Rattle.gw_pool.specs.declared.rows.Place.TheVariants.{Out, Idle}
use Rattle.gw_pool.specs.declared.rows.WantRow.{WantRow}
use Rattle.gw_pool.specs.declared.rows.ConnRow.{ConnRow}
use Rattle.gw_pool.specs.declared.rows.DialRow.{DialRow}
use Rattle.gw_pool.specs.Places.{want_room, conn_room, is_granted, since_of}
use Rattle.gw_pool.specs.State.{State, remove_first, least_want, wants_host, wants_as, wants_it, dials_for, is_with, has_number, is_free, is_expired, rests, rests_for, take_conn, rests_since_stamp, take_stamped, take_stamped_for, take_oldest, take_newest, oldest_stamp, newest_stamp}
use Rattle.gw_pool.specs.Offer.{Offered, grant, evict, evict_row, rest, freed, served, offer_to, offer_conn}
use Rattle.gw_pool.specs.declared.entry.Reply.TheVariants as reply
use Rattle.gw_pool.specs.Machine.{Outcome, replied, want_new, want_idle, want_by, want_step, start_row, dialed_conn, dialed_to, dialed_row, failed_to, failed_row, cancel_row, cancel_conn, back_row, drop_row}
use Rattle.gw_pool.specs.History.{room}
use Rattle.gw_pool.specs.Core.{IsMade}
use Rattle.gw_pool.proofs.Edits.{found_passes}
use Rattle.gw_pool.proofs.Room.{Stays, Picked, picked, lost, removed, removed_length, sum_left, some_room, and_both, grant_stays, stays_here}

stays_then : (s t u : State) (up : ℕ) → Stays s t up → Stays t u 0 → Stays s u up
stays_then s t u up a b = record {
  room = omega (arith, a.room, b.room);
  next_want = b.next_want ∙ a.next_want;
  next_conn = b.next_conn ∙ a.next_conn;
  next_stamp = omega (arith, a.next_stamp, b.next_stamp);
}

take_stays : (s : State) (test : ConnRow → Bool) → Stays s (take_conn test s).1 0
unfolding room
take_stays s test = record { room = omega (arith, sum_left (λ r. conn_room r.place) test s.conns); next_want = refl; next_conn = refl; next_stamp = omega arith }

oldest_by : (s : State) (o : Option ℕ) → Stays s (take_stamped s o).1 0
oldest_by s None = stays_here s
oldest_by s (Some n) = take_stays s _

oldest_stays : (s : State) → Stays s (take_oldest s).1 0
unfolding take_oldest
oldest_stays s = oldest_by s (oldest_stamp s)

newest_by : (s : State) (host : ℕ) (o : Option ℕ) → Stays s (take_stamped_for s host o).1 0
newest_by s host None = stays_here s
newest_by s host (Some n) = take_stays s _

newest_stays : (s : State) (host : ℕ) → Stays s (take_newest s host).1 0
unfolding take_newest
newest_stays s host = newest_by s host (newest_stamp s host)

evicted : (s : State) (p : Option ConnRow × State) → Stays s p.1 0 → Stays s (evict_row p).state 0
evicted s (None, t) h = h
evicted s (Some row, t) h = h

evict_by : (s : State) (b : Bool) (o : Offered) → o.state ≡ s → Stays s (cond b (evict_row (take_oldest s)) o).state 0
evict_by s true o e = evicted s (take_oldest s) (oldest_stays s)
evict_by s false o e = rw e (stays_here s)

evict_stays : (limits : Limits) (s : State) → Stays s (evict limits s).state 0
unfolding evict
evict_stays limits s = evict_by s (nat_lt limits.idle_total (count_by rests s.conns)) _ refl

rested : (s : State) (row : ConnRow) (now : ℕ) → Stays s (record s { conns = s.conns ++ record row { place = Idle s.next_stamp now } ∷ []; next_stamp = s.next_stamp + 1 }) 1
unfolding room
rested s row now = record {
  room = omega (arith, sum_by_push (λ r. conn_room r.place) s.conns (record row { place = Idle s.next_stamp now }));
  next_want = refl;
  next_conn = refl;
  next_stamp = omega arith;
}

up_one : (s t : State) → Stays s t 0 → Stays s t 1
up_one s t h = record { room = omega (arith, h.room); next_want = h.next_want; next_conn = h.next_conn; next_stamp = omega (arith, h.next_stamp) }

rest_by : (limits : Limits) (s t : State) (b : Bool) (o : Offered) → o.state ≡ s → Stays s t 1 → Stays s (cond b (evict limits t) o).state 1
rest_by limits s t true o e h = stays_then s t (evict limits t).state 1 h (evict_stays limits t)
rest_by limits s t false o e h = rw e (up_one s s (stays_here s))

rest_stays : (limits : Limits) (s : State) (row : ConnRow) (now : ℕ) → Stays s (rest limits s row now).state 1
unfolding rest
rest_stays limits s row now = rest_by limits s _ (nat_lt (count_by (rests_for row.host) s.conns) limits.idle_per_host) _ refl (rested s row now)

freed_by : (limits : Limits) (s : State) (host : ℕ) (b : Bool) → Stays s (cond b (grant limits s host) (None, s)).1 0
freed_by limits s host true = grant_stays limits s host
freed_by limits s host false = stays_here s

freed_stays : (limits : Limits) (s : State) (want : WantRow) → Stays s (freed limits s want).1 0
unfolding freed
freed_stays limits s want = freed_by limits s want.host (is_granted want.stage)

given : (s : State) (row : ConnRow) (want : WantRow) (host : ℕ) → Picked (wants_host host) s.wants want → Stays s (record s { wants = remove_first (wants_as want.host want.want) s.wants; conns = s.conns ++ record row { place = Out want.want want.caller } ∷ [] }) 1
unfolding room
given s row want host p =
    let less = lost (λ r. want_room r.stage) (wants_as want.host want.want) 1 s.wants want (λ y _. some_room y.stage)
    (and_both (want.host == want.host) (want.want == want.want) (eq-eqb want.host want.host refl) (eq-eqb want.want want.want refl)) p.among in
    record {
      room = omega (arith, less, sum_by_push (λ r. conn_room r.place) s.conns (record row { place = Out want.want want.caller }));
      next_want = refl;
      next_conn = refl;
      next_stamp = omega arith;
    }

served_by : (s t : State) (p : Option ℕ × State) (want : ℕ) → Stays s t 1 → Stays t p.1 0 → Stays s (served want p).state 1
served_by s t (next, u) want a b = stays_then s t u 1 a b

offer_by : (limits : Limits) (s : State) (row : ConnRow) (now host : ℕ) (o : Option WantRow) → ((r : WantRow) → o ≡ Some r → Picked (wants_host host) s.wants r) → Stays s (offer_to limits s row now o).state 1
unfolding offer_to
offer_by limits s row now host None k = rest_stays limits s row now
offer_by limits s row now host (Some want) k =
    let t = record s { wants = remove_first (wants_as want.host want.want) s.wants; conns = s.conns ++ record row { place = Out want.want want.caller } ∷ [] } in
    served_by s t (freed limits t want) want.want (given s row want host (k want refl)) (freed_stays limits t want)

pub offer_stays : (limits : Limits) (s : State) (row : ConnRow) (now : ℕ) → Stays s (offer_conn limits s row now).state 1
unfolding offer_conn least_want
offer_stays limits s row now = offer_by limits s (record row { reused = true }) now row.host (least_want s row.host) (λ r e. picked (wants_host row.host) s.wants r e)

-- a step from one state to another: how much more room, and how much less, is needed after it
pub record Goes (s t : State) (up down : ℕ) : Type 0 where
  pub room : room t + down ≤ room s + up
  pub next_want : t.next_want ≤ s.next_want + 1
  pub next_conn : t.next_conn ≤ s.next_conn + 1
  pub next_stamp : t.next_stamp ≤ s.next_stamp + 1

dial_found : (want : ℕ) (s : State) (row : DialRow) → find (dials_for want) s.dials ≡ Some row → find (dials_for row.want) s.dials ≡ Some row
dial_found want s row f = let same : row.want ≡ want = eqb-true row.want want (found_passes (dials_for want) s.dials row f) in
    let P : ℕ → Type 0 = λ n. find (dials_for n) s.dials ≡ Some row in
    subst P (sym same) f

want_found : (want : ℕ) (s : State) (row : WantRow) → find (wants_it want) s.wants ≡ Some row → find (wants_it row.want) s.wants ≡ Some row
want_found want s row f = let same : row.want ≡ want = eqb-true row.want want (found_passes (wants_it want) s.wants row f) in
    let P : ℕ → Type 0 = λ n. find (wants_it n) s.wants ≡ Some row in
    subst P (sym same) f

conn_found : (conn : ℕ) (s : State) (row : ConnRow) → find (has_number conn) s.conns ≡ Some row → find (has_number row.conn) s.conns ≡ Some row
conn_found conn s row f = let same : row.conn ≡ conn = eqb-true row.conn conn (found_passes (has_number conn) s.conns row f) in
    let P : ℕ → Type 0 = λ n. find (has_number n) s.conns ≡ Some row in
    subst P (sym same) f

granted_room : (stage : Stage) → is_granted stage ≡ true → want_room stage ≡ 5
granted_room Waiting h = refl
granted_room Granted h = refl
granted_room Dialing h = absurd (cc)

out_room : (want caller : ℕ) (place : Place) → place ≡ Out want caller → conn_room place ≡ 2
out_room want caller place e = rw e

pub start_goes : (s : State) (want : ℕ) (row : WantRow) → find (wants_it want) s.wants ≡ Some row → is_granted row.stage ≡ true → Goes s (start_row s row).state 0 1
unfolding room start_row
start_goes s want row f g = record {
  room = omega (
    arith,
    removed (λ r. want_room r.stage) (wants_it row.want) s.wants row (want_found want s row f),
    granted_room row.stage g,
    sum_by_push (λ r. want_room r.stage) (remove_first (wants_it row.want) s.wants) (record row { stage = Dialing }),
    length-append s.dials ((record { want = row.want; host = row.host; caller = row.caller }) ∷ []),
  );
  next_want = omega arith;
  next_conn = omega arith;
  next_stamp = omega arith;
}

then_stays : (s t u : State) (up down : ℕ) → Goes s t up (down + 1) → Stays t u 1 → t.next_stamp ≡ s.next_stamp → Goes s u up down
then_stays s t u up down a b e = record {
  room = omega (arith, a.room, b.room);
  next_want = omega (arith, a.next_want, b.next_want);
  next_conn = omega (arith, a.next_conn, b.next_conn);
  next_stamp = omega (arith, a.next_stamp, b.next_stamp, e);
}

then_same : (s t u : State) (up down : ℕ) → Goes s t up down → Stays t u 0 → Goes s u up down
then_same s t u up down a b = record {
  room = omega (arith, a.room, b.room);
  next_want = omega (arith, a.next_want, b.next_want);
  next_conn = omega (arith, a.next_conn, b.next_conn);
  next_stamp = omega (arith, a.next_stamp, b.next_stamp);
}

without_conn : (s : State) (row : ConnRow) (test : ConnRow → Bool) (want caller : ℕ) → find test s.conns ≡ Some row → row.place ≡ Out want caller → Goes s (record s { conns = remove_first test s.conns }) 0 2
unfolding room
without_conn s row test want caller f e = record {
  room = omega (arith, removed (λ r. conn_room r.place) test s.conns row f, out_room want caller row.place e);
  next_want = omega arith;
  next_conn = omega arith;
  next_stamp = omega arith;
}

without_dial : (s : State) (row : DialRow) (test : DialRow → Bool) → find test s.dials ≡ Some row → Goes s (record s { dials = remove_first test s.dials }) 0 3
unfolding room
without_dial s row test f = record {
  room = omega (arith, removed_length test s.dials row f);
  next_want = omega arith;
  next_conn = omega arith;
  next_stamp = omega arith;
}

without_want : (s : State) (row : WantRow) (test : WantRow → Bool) → find test s.wants ≡ Some row → Goes s (record s { wants = remove_first test s.wants }) 0 1
unfolding room
without_want s row test f = record {
  room = omega (arith, removed (λ r. want_room r.stage) test s.wants row f, some_room row.stage);
  next_want = omega arith;
  next_conn = omega arith;
  next_stamp = omega arith;
}

less_down : (s t : State) (down less : ℕ) → less ≤ down → Goes s t 0 down → Goes s t 0 less
less_down s t down less h g = record { room = omega (arith, h, g.room); next_want = g.next_want; next_conn = g.next_conn; next_stamp = g.next_stamp }

pub drop_goes : (limits : Limits) (s : State) (conn want caller : ℕ) (row : ConnRow) → find (has_number conn) s.conns ≡ Some row → row.place ≡ Out want caller → Goes s (drop_row limits s row).state 0 1
unfolding drop_row
drop_goes limits s conn want caller row f e =
    let t = record s { conns = remove_first (has_number row.conn) s.conns } in
    less_down s (grant limits t row.host).1 2 1 (omega arith)
    (then_same s t (grant limits t row.host).1 0 2 (without_conn s row (has_number row.conn) want caller (conn_found conn s row f) e) (grant_stays limits t row.host))

pub cancel_conn_goes : (limits : Limits) (s : State) (want now caller : ℕ) (row : ConnRow) → find (is_with want) s.conns ≡ Some row → row.place ≡ Out want caller → Goes s (cancel_conn limits s want row now).state 0 1
unfolding cancel_conn
cancel_conn_goes limits s want now caller row f e =
    let t = record s { conns = remove_first (is_with want) s.conns } in
    then_stays s t (offer_conn limits t row now).state 0 1 (without_conn s row (is_with want) want caller f e) (offer_stays limits t row now) refl

pub back_goes : (limits : Limits) (s : State) (conn now want caller : ℕ) (row : ConnRow) → find (has_number conn) s.conns ≡ Some row → row.place ≡ Out want caller → Goes s (back_row limits s row now).state 0 1
unfolding back_row
back_goes limits s conn now want caller row f e =
    let t = record s { conns = remove_first (has_number row.conn) s.conns } in
    then_stays s t (offer_conn limits t row now).state 0 1 (without_conn s row (has_number row.conn) want caller (conn_found conn s row f) e) (offer_stays limits t row now) refl

some_place : (place : Place) → 1 ≤ conn_room place
some_place (Out w c) = omega arith
some_place (Idle a b) = omega arith

idle_goes_by : (s : State) (o : Option ℕ) (row : ConnRow) → (take_stamped s o).0 ≡ Some row → Goes s (take_stamped s o).1 0 1
unfolding room
idle_goes_by s None row e = absurd (cc)
idle_goes_by s (Some n) row e = record {
  room = omega (arith, removed (λ r. conn_room r.place) (rests_since_stamp n) s.conns row e, some_place row.place);
  next_want = omega arith;
  next_conn = omega arith;
  next_stamp = omega arith;
}

idle_goes_here : (s : State) (row : ConnRow) → (take_oldest s).0 ≡ Some row → Goes s (take_oldest s).1 0 1
unfolding take_oldest
idle_goes_here s row e = idle_goes_by s (oldest_stamp s) row e

pub idle_goes : (s t : State) (row : ConnRow) → (take_oldest s).0 ≡ Some row → t ≡ (take_oldest s).1 → Goes s t 0 1
idle_goes s t row e f = rw f (idle_goes_here s row e)

cancelled : (limits : Limits) (s t : State) (row : WantRow) (b : Bool) → Goes s t 0 1 → Goes s (cond b (replied reply.Gone None (grant limits t row.host)) (record { reply = reply.Gone None; gone = None; state = t })).state 0 1
cancelled limits s t row true g = then_same s t (grant limits t row.host).1 0 1 g (grant_stays limits t row.host)
cancelled limits s t row false g = g

pub cancel_goes : (limits : Limits) (s : State) (want : ℕ) (row : WantRow) → find (wants_it want) s.wants ≡ Some row → Goes s (cancel_row limits s row).state 0 1
unfolding cancel_row
cancel_goes limits s want row f = cancelled limits s (record s { wants = remove_first (wants_it row.want) s.wants }) row (is_granted row.stage) (without_want s row (wants_it row.want) (want_found want s row f))

failed_by_want : (limits : Limits) (s : State) (dial : DialRow) (o : Option WantRow) → o ≡ find (wants_it dial.want) s.wants → Stays s (failed_to limits s dial o).state 0
unfolding failed_to
failed_by_want limits s dial (Some row) e =
    let t = record s { wants = remove_first (wants_it dial.want) s.wants } in
    let first = (without_want s row (wants_it dial.want) (sym e)) in
    let last = grant_stays limits t dial.host in
    record { room = omega (arith, first.room, last.room); next_want = last.next_want; next_conn = last.next_conn; next_stamp = last.next_stamp }
failed_by_want limits s dial None e = grant_stays limits s dial.host

pub failed_goes : (limits : Limits) (s : State) (want : ℕ) (row : DialRow) → find (dials_for want) s.dials ≡ Some row → Goes s (failed_row limits s row).state 0 1
unfolding failed_row
failed_goes limits s want row f =
    let t = record s { dials = remove_first (dials_for row.want) s.dials } in
    let o = find (wants_it row.want) s.wants in
    less_down s (failed_to limits t row o).state 3 1 (omega arith)
    (then_same s t (failed_to limits t row o).state 0 3 (without_dial s row (dials_for row.want) (dial_found want s row f)) (failed_by_want limits t row o refl))

dialed_want : (limits : Limits) (s : State) (dial : DialRow) (link now : ℕ) (o : Option WantRow) → o ≡ find (wants_it dial.want) s.wants → Goes s (dialed_to limits s dial link now o).state 1 0
unfolding dialed_to dialed_conn room
dialed_want limits s dial link now (Some row) e = record {
  room = omega (arith, (without_want s row (wants_it dial.want) (sym e)).room, sum_by_push (λ r. conn_room r.place) s.conns (dialed_conn s dial link));
  next_want = omega arith;
  next_conn = omega arith;
  next_stamp = omega arith;
}
dialed_want limits s dial link now None e =
    let t = record s { next_conn = s.next_conn + 1 } in
    let last = offer_stays limits t (dialed_conn s dial link) now in
    record { room = omega (arith, last.room); next_want = omega (arith, last.next_want); next_conn = omega (arith, last.next_conn); next_stamp = omega (arith, last.next_stamp) }

pub dialed_goes : (limits : Limits) (s : State) (want link now : ℕ) (row : DialRow) → find (dials_for want) s.dials ≡ Some row → Goes s (dialed_row limits s row link now).state 0 1
unfolding dialed_row
dialed_goes limits s want link now row f =
    let t = record s { dials = remove_first (dials_for row.want) s.dials } in
    let o = find (wants_it row.want) s.wants in
    let first = without_dial s row (dials_for row.want) (dial_found want s row f) in
    let last = dialed_want limits t row link now o refl in
    record {
      room = omega (arith, first.room, last.room);
      next_want = last.next_want;
      next_conn = last.next_conn;
      next_stamp = last.next_stamp;
    }

new_by : (s : State) (caller host : ℕ) (b : Bool) → Goes s (cond {A = Outcome} b (record { reply = reply.Granted s.next_want; gone = None; state = record s { wants = s.wants ++ (record { want = s.next_want; host = host; caller = caller; stage = Granted }) ∷ []; next_want = s.next_want + 1 } }) (record { reply = reply.Waiting s.next_want; gone = None; state = record s { wants = s.wants ++ (record { want = s.next_want; host = host; caller = caller; stage = Waiting }) ∷ []; next_want = s.next_want + 1 } })).state 5 0
unfolding room
new_by s caller host true = record { room = omega (arith, sum_by_push (λ r. want_room r.stage) s.wants (record { want = s.next_want; host = host; caller = caller; stage = Granted })); next_want = omega arith; next_conn = omega arith; next_stamp = omega arith }
new_by s caller host false = record { room = omega (arith, sum_by_push (λ r. want_room r.stage) s.wants (record { want = s.next_want; host = host; caller = caller; stage = Waiting })); next_want = omega arith; next_conn = omega arith; next_stamp = omega arith }

idle_by : (s t : State) (caller now : ℕ) (row : ConnRow) (b : Bool) → Stays s t 0 → Goes s (cond {A = Outcome} b (record { reply = reply.Expired row.conn; gone = Some row; state = t }) (record { reply = reply.Given t.next_want row.conn; gone = None; state = record t { conns = t.conns ++ record row { place = Out t.next_want caller } ∷ []; next_want = t.next_want + 1 } })).state 5 0
unfolding room
idle_by s t caller now row true h = record { room = omega (arith, h.room); next_want = omega (arith, h.next_want); next_conn = omega (arith, h.next_conn); next_stamp = omega (arith, h.next_stamp) }
idle_by s t caller now row false h = record { room = omega (arith, h.room, sum_by_push (λ r. conn_room r.place) t.conns (record row { place = Out t.next_want caller })); next_want = omega (arith, h.next_want); next_conn = omega (arith, h.next_conn); next_stamp = omega (arith, h.next_stamp) }

want_with : (limits : Limits) (s : State) (caller host now : ℕ) (p : Option ConnRow × State) → Stays s p.1 0 → Goes s (want_by limits caller host now p).state 5 0
unfolding want_by want_new want_idle
want_with limits s caller host now (None, t) h =
    let g = new_by t caller host (is_free limits t host) in
    record { room = omega (arith, g.room, h.room); next_want = omega (arith, g.next_want, h.next_want); next_conn = omega (arith, g.next_conn, h.next_conn); next_stamp = omega (arith, g.next_stamp, h.next_stamp) }
want_with limits s caller host now (Some row, t) h = idle_by s t caller now row (is_expired limits (since_of row.place) now) h

pub want_goes : (limits : Limits) (s : State) (caller host now : ℕ) → Goes s (want_step limits s caller host now).state 5 0
unfolding want_step
want_goes limits s caller host now = want_with limits s caller host now (take_newest s host) (newest_stays s host)

pub start_reply : (s : State) (row : WantRow) → reply.Go ≡ (start_row s row).reply
unfolding start_row
start_reply s row = refl

-- a want that leaves nothing to be closed was made, with the next number
new_made : (s t : State) (caller host : ℕ) (b : Bool) → t.next_want ≡ s.next_want → IsMade s.next_want (cond {A = Outcome} b (record { reply = reply.Granted t.next_want; gone = None; state = record t { wants = t.wants ++ (record { want = t.next_want; host = host; caller = caller; stage = Granted }) ∷ []; next_want = t.next_want + 1 } }) (record { reply = reply.Waiting t.next_want; gone = None; state = record t { wants = t.wants ++ (record { want = t.next_want; host = host; caller = caller; stage = Waiting }) ∷ []; next_want = t.next_want + 1 } })).reply
new_made s t caller host true e = e
new_made s t caller host false e = e

idle_made : (s t : State) (caller : ℕ) (row : ConnRow) (b : Bool) → t.next_want ≡ s.next_want → (cond {A = Outcome} b (record { reply = reply.Expired row.conn; gone = Some row; state = t }) (record { reply = reply.Given t.next_want row.conn; gone = None; state = record t { conns = t.conns ++ record row { place = Out t.next_want caller } ∷ []; next_want = t.next_want + 1 } })).gone ≡ None → IsMade s.next_want (cond {A = Outcome} b (record { reply = reply.Expired row.conn; gone = Some row; state = t }) (record { reply = reply.Given t.next_want row.conn; gone = None; state = record t { conns = t.conns ++ record row { place = Out t.next_want caller } ∷ []; next_want = t.next_want + 1 } })).reply
idle_made s t caller row true e g = absurd (cc)
idle_made s t caller row false e g = e

made_by : (limits : Limits) (s : State) (caller host now : ℕ) (p : Option ConnRow × State) → p.1.next_want ≡ s.next_want → (want_by limits caller host now p).gone ≡ None → IsMade s.next_want (want_by limits caller host now p).reply
unfolding want_by want_new want_idle
made_by limits s caller host now (None, t) e g = new_made s t caller host (is_free limits t host) e
made_by limits s caller host now (Some row, t) e g = idle_made s t caller row (is_expired limits (since_of row.place) now) e g

pub want_made : (limits : Limits) (s : State) (caller host now : ℕ) → (want_step limits s caller host now).gone ≡ None → IsMade s.next_want (want_step limits s caller host now).reply
unfolding want_step
want_made limits s caller host now g = made_by limits s caller host now (take_newest s host) (newest_stays s host).next_want g
