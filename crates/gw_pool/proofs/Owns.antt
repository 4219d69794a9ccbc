-- All rows of a state are one caller's, while all calls are.
use Rattle.std.proofs.Common.{◌≡◌, ℕ, ◌+◌, ◌⊎◌, inl, inr, Bool, true, false, List, [], ◌∷◌, ◌++◌, Option, Some, None, refl, ap, sym, ◌∙◌, cond, nat_lt}
use Rattle.std.specs.List.{find, count_by}
use Rattle.gw_pool.specs.declared.limits.Limits.{Limits}
use Rattle.gw_pool.specs.declared.entry.Reply.TheVariants as reply
use Rattle.gw_pool.specs.declared.rows.Stage.TheVariants.{Waiting, Granted, Dialing}
use Rattle.gw_pool.specs.declared.rows.Place.TheVariants.{Out, Idle}
use Rattle.gw_pool.specs.declared.rows.WantRow.{WantRow}
use Rattle.gw_pool.specs.declared.rows.ConnRow.{ConnRow}
use Rattle.gw_pool.specs.declared.rows.DialRow.{DialRow}
use Rattle.gw_pool.specs.Places.{is_granted, since_of}
use Rattle.gw_pool.specs.State.{State, remove_first, least_want, least_waiting, wants_host, waits_for, waits_as, wants_as, wants_it, dials_for, is_with, has_number, is_free, is_expired, rests, rests_for, rests_since_stamp, rests_for_since_stamp, take_stamped, take_stamped_for, take_oldest, take_newest, oldest_stamp, newest_stamp}
use Rattle.gw_pool.specs.Offer.{Offered, grant_to, grant, evict, evict_row, rest, freed, served, offer_to, offer_conn}
use Rattle.gw_pool.specs.Machine.{Outcome, replied, want_new, want_idle, want_by, want_step, start_row, dialed_conn, dialed_to, dialed_row, failed_to, failed_row, cancel_row, cancel_conn, back_row, drop_row}
pub use Rattle.gw_pool.specs.Ties.{OutBy, Owns}
use Rattle.gw_pool.proofs.Room.{Picked, picked, Among}

-- rows that are left were there, a row that is pushed is the last
left_step : {X : Type 0} (b : Bool) (test : X → Bool) (r x : X) (xs : List X) → (Among r (remove_first test xs) → Among r xs) → Among r (cond b xs (x ∷ remove_first test xs)) → (x ≡ r) ⊎ Among r xs
left_step true test r x xs k m = inr m
left_step false test r x xs k (inl e) = inl e
left_step false test r x xs k (inr m) = inr (k m)

pub among_left : {X : Type 0} (test : X → Bool) (r : X) (xs : List X) → Among r (remove_first test xs) → Among r xs
among_left test r [] m = m
among_left test r (x ∷ xs) m = left_step (test x) test r x xs (among_left test r xs) m

pub among_push : {X : Type 0} (r y : X) (xs : List X) → Among r (xs ++ y ∷ []) → Among r xs ⊎ (y ≡ r)
among_push r y [] (inl e) = inr e
among_push r y [] (inr m) = absurd m
among_push r y (x ∷ xs) (inl e) = inl (inl e)
among_push r y (x ∷ xs) (inr m) = elim (among_push r y xs m) [ inl n ↦ inl (inr n) | inr e ↦ inr e ]

found_step : {X : Type 0} (b : Bool) (test : X → Bool) (r x : X) (xs : List X) → (find test xs ≡ Some r → Among r xs) → cond b (Some x) (find test xs) ≡ Some r → (x ≡ r) ⊎ Among r xs
found_step true test r x xs k e = inl (cc)
found_step false test r x xs k e = inr (k e)

pub found_among : {X : Type 0} (test : X → Bool) (r : X) (xs : List X) → find test xs ≡ Some r → Among r xs
found_among test r [] e = absurd (cc)
found_among test r (x ∷ xs) e = found_step (test x) test r x xs (found_among test r xs) e

-- edits of one list
less_wants : (k : ℕ) (s : State) (test : WantRow → Bool) → Owns k s → Owns k (record s { wants = remove_first test s.wants })
less_wants k s test o = record { wants = λ r m. o.wants r (among_left test r s.wants m); dials = o.dials; conns = o.conns }

less_dials : (k : ℕ) (s : State) (test : DialRow → Bool) → Owns k s → Owns k (record s { dials = remove_first test s.dials })
less_dials k s test o = record { wants = o.wants; dials = λ r m. o.dials r (among_left test r s.dials m); conns = o.conns }

less_conns : (k : ℕ) (s : State) (test : ConnRow → Bool) → Owns k s → Owns k (record s { conns = remove_first test s.conns })
less_conns k s test o = record { wants = o.wants; dials = o.dials; conns = λ r m. o.conns r (among_left test r s.conns m) }

more_wants : (k : ℕ) (s : State) (row : WantRow) → row.caller ≡ k → Owns k s → Owns k (record s { wants = s.wants ++ row ∷ [] })
more_wants k s row e o = record { wants = λ r m. elim (among_push r row s.wants m) [ inl n ↦ o.wants r n | inr same ↦ sym (ap (λ (x : WantRow). x.caller) same) ∙ e ]; dials = o.dials; conns = o.conns }

more_dials : (k : ℕ) (s : State) (row : DialRow) → row.caller ≡ k → Owns k s → Owns k (record s { dials = s.dials ++ row ∷ [] })
more_dials k s row e o = record { wants = o.wants; dials = λ r m. elim (among_push r row s.dials m) [ inl n ↦ o.dials r n | inr same ↦ sym (ap (λ (x : DialRow). x.caller) same) ∙ e ]; conns = o.conns }

out_along : (k : ℕ) (a b : ConnRow) → a ≡ b → OutBy k a.place → OutBy k b.place
out_along k a b e h = rw (sym e) h

more_conns : (k : ℕ) (s : State) (row : ConnRow) → OutBy k row.place → Owns k s → Owns k (record s { conns = s.conns ++ row ∷ [] })
more_conns k s row e o = record { wants = o.wants; dials = o.dials; conns = λ r m. elim (among_push r row s.conns m) [ inl n ↦ o.conns r n | inr same ↦ out_along k row r same e ] }

grant_picked : (k : ℕ) (s : State) (host : ℕ) (o : Option WantRow) → ((r : WantRow) → o ≡ Some r → Picked (waits_for host) s.wants r) → Owns k s → Owns k (grant_to s o).1
unfolding grant_to
grant_picked k s host None p o = o
grant_picked k s host (Some row) p o = more_wants k (record s { wants = remove_first (waits_as row.host row.want) s.wants }) (record row { stage = Granted }) (o.wants row (p row refl).among) (less_wants k s (waits_as row.host row.want) o)

grant_if : (k : ℕ) (s : State) (host : ℕ) (b : Bool) → Owns k s → Owns k (cond b (grant_to s (least_waiting s host)) (None, s)).1
unfolding least_waiting
grant_if k s host true o = grant_picked k s host (least_waiting s host) (λ r e. picked (waits_for host) s.wants r e) o
grant_if k s host false o = o

grant_owns : (k : ℕ) (limits : Limits) (s : State) (host : ℕ) → Owns k s → Owns k (grant limits s host).1
unfolding grant
grant_owns k limits s host o = grant_if k s host (is_free limits s host) o

oldest_by : (k : ℕ) (s : State) (n : Option ℕ) → Owns k s → Owns k (take_stamped s n).1
oldest_by k s None o = o
oldest_by k s (Some n) o = less_conns k s (rests_since_stamp n) o

pub oldest_owns : (k : ℕ) (s : State) → Owns k s → Owns k (take_oldest s).1
unfolding take_oldest
oldest_owns k s o = oldest_by k s (oldest_stamp s) o

evicted : (k : ℕ) (p : Option ConnRow × State) → Owns k p.1 → Owns k (evict_row p).state
evicted k (None, t) h = h
evicted k (Some row, t) h = h

evict_by : (k : ℕ) (s : State) (b : Bool) (e : Offered) → e.state ≡ s → Owns k s → Owns k (cond b (evict_row (take_oldest s)) e).state
evict_by k s true e q o = evicted k (take_oldest s) (oldest_owns k s o)
evict_by k s false e q o = rw q o

evict_owns : (k : ℕ) (limits : Limits) (s : State) → Owns k s → Owns k (evict limits s).state
unfolding evict
evict_owns k limits s o = evict_by k s (nat_lt limits.idle_total (count_by rests s.conns)) _ refl o

stamped : (k : ℕ) (s : State) (n : ℕ) → Owns k s → Owns k (record s { next_stamp = n })
stamped k s n o = record { wants = o.wants; dials = o.dials; conns = o.conns }

rest_by : (k : ℕ) (limits : Limits) (s t : State) (b : Bool) (e : Offered) → e.state ≡ s → Owns k s → Owns k t → Owns k (cond b (evict limits t) e).state
rest_by k limits s t true e q o h = evict_owns k limits t h
rest_by k limits s t false e q o h = rw q o

rest_owns : (k : ℕ) (limits : Limits) (s : State) (row : ConnRow) (now : ℕ) → Owns k s → Owns k (rest limits s row now).state
unfolding rest
rest_owns k limits s row now o = rest_by k limits s _ (nat_lt (count_by (rests_for row.host) s.conns) limits.idle_per_host) _ refl o
    (stamped k (record s { conns = s.conns ++ record row { place = Idle s.next_stamp now } ∷ [] }) (s.next_stamp + 1) (more_conns k s (record row { place = Idle s.next_stamp now }) tt o))

freed_by : (k : ℕ) (limits : Limits) (s : State) (host : ℕ) (b : Bool) → Owns k s → Owns k (cond b (grant limits s host) (None, s)).1
freed_by k limits s host true o = grant_owns k limits s host o
freed_by k limits s host false o = o

freed_owns : (k : ℕ) (limits : Limits) (s : State) (want : WantRow) → Owns k s → Owns k (freed limits s want).1
unfolding freed
freed_owns k limits s want o = freed_by k limits s want.host (is_granted want.stage) o

served_by : (k : ℕ) (p : Option ℕ × State) (want : ℕ) → Owns k p.1 → Owns k (served want p).state
served_by k (next, u) want o = o

offer_by : (k : ℕ) (limits : Limits) (s : State) (row : ConnRow) (now host : ℕ) (w : Option WantRow) → ((r : WantRow) → w ≡ Some r → Picked (wants_host host) s.wants r) → Owns k s → Owns k (offer_to limits s row now w).state
unfolding offer_to
offer_by k limits s row now host None p o = rest_owns k limits s row now o
offer_by k limits s row now host (Some want) p o =
    let t = record s { wants = remove_first (wants_as want.host want.want) s.wants; conns = s.conns ++ record row { place = Out want.want want.caller } ∷ [] } in
    served_by k (freed limits t want) want.want (freed_owns k limits t want
    (more_conns k (record s { wants = remove_first (wants_as want.host want.want) s.wants }) (record row { place = Out want.want want.caller }) (o.wants want (p want refl).among) (less_wants k s (wants_as want.host want.want) o)))

offer_owns : (k : ℕ) (limits : Limits) (s : State) (row : ConnRow) (now : ℕ) → Owns k s → Owns k (offer_conn limits s row now).state
unfolding offer_conn least_want
offer_owns k limits s row now o = offer_by k limits s (record row { reused = true }) now row.host (least_want s row.host) (λ r e. picked (wants_host row.host) s.wants r e) o

pub start_owns : (k : ℕ) (s : State) (want : ℕ) (row : WantRow) → find (wants_it want) s.wants ≡ Some row → Owns k s → Owns k (start_row s row).state
unfolding start_row
start_owns k s want row f o =
    let mine = o.wants row (found_among (wants_it want) row s.wants f) in
    let t = record s { wants = remove_first (wants_it row.want) s.wants } in
    more_dials k (record t { wants = t.wants ++ record row { stage = Dialing } ∷ [] }) (record { want = row.want; host = row.host; caller = row.caller }) mine
    (more_wants k t (record row { stage = Dialing }) mine (less_wants k s (wants_it row.want) o))

pub drop_owns : (k : ℕ) (limits : Limits) (s : State) (row : ConnRow) → Owns k s → Owns k (drop_row limits s row).state
unfolding drop_row
drop_owns k limits s row o = grant_owns k limits (record s { conns = remove_first (has_number row.conn) s.conns }) row.host (less_conns k s (has_number row.conn) o)

pub back_owns : (k : ℕ) (limits : Limits) (s : State) (row : ConnRow) (now : ℕ) → Owns k s → Owns k (back_row limits s row now).state
unfolding back_row
back_owns k limits s row now o = offer_owns k limits (record s { conns = remove_first (has_number row.conn) s.conns }) row now (less_conns k s (has_number row.conn) o)

pub cancel_conn_owns : (k : ℕ) (limits : Limits) (s : State) (want now : ℕ) (row : ConnRow) → Owns k s → Owns k (cancel_conn limits s want row now).state
unfolding cancel_conn
cancel_conn_owns k limits s want now row o = offer_owns k limits (record s { conns = remove_first (is_with want) s.conns }) row now (less_conns k s (is_with want) o)

cancelled : (k : ℕ) (limits : Limits) (t : State) (row : WantRow) (b : Bool) → Owns k t → Owns k (cond {A = Outcome} b (replied reply.Gone None (grant limits t row.host)) (record { reply = reply.Gone None; gone = None; state = t })).state
cancelled k limits t row true o = grant_owns k limits t row.host o
cancelled k limits t row false o = o

pub cancel_owns : (k : ℕ) (limits : Limits) (s : State) (row : WantRow) → Owns k s → Owns k (cancel_row limits s row).state
unfolding cancel_row
cancel_owns k limits s row o = cancelled k limits (record s { wants = remove_first (wants_it row.want) s.wants }) row (is_granted row.stage) (less_wants k s (wants_it row.want) o)

failed_by_want : (k : ℕ) (limits : Limits) (s : State) (dial : DialRow) (w : Option WantRow) → Owns k s → Owns k (failed_to limits s dial w).state
unfolding failed_to
failed_by_want k limits s dial (Some row) o = grant_owns k limits (record s { wants = remove_first (wants_it dial.want) s.wants }) dial.host (less_wants k s (wants_it dial.want) o)
failed_by_want k limits s dial None o = grant_owns k limits s dial.host o

pub failed_owns : (k : ℕ) (limits : Limits) (s : State) (row : DialRow) → Owns k s → Owns k (failed_row limits s row).state
unfolding failed_row
failed_owns k limits s row o = failed_by_want k limits (record s { dials = remove_first (dials_for row.want) s.dials }) row (find (wants_it row.want) s.wants) (less_dials k s (dials_for row.want) o)

numbered : (k : ℕ) (s : State) (n : ℕ) → Owns k s → Owns k (record s { next_conn = n })
numbered k s n o = record { wants = o.wants; dials = o.dials; conns = o.conns }

dialed_want : (k : ℕ) (limits : Limits) (s : State) (dial : DialRow) (link now : ℕ) (w : Option WantRow) → dial.caller ≡ k → Owns k s → Owns k (dialed_to limits s dial link now w).state
unfolding dialed_to dialed_conn
dialed_want k limits s dial link now (Some row) e o =
    let t = record s { wants = remove_first (wants_it dial.want) s.wants } in
    numbered k (record t { conns = t.conns ++ dialed_conn s dial link ∷ [] }) (s.next_conn + 1) (more_conns k t (dialed_conn s dial link) e (less_wants k s (wants_it dial.want) o))
dialed_want k limits s dial link now None e o = offer_owns k limits (record s { next_conn = s.next_conn + 1 }) (dialed_conn s dial link) now (numbered k s (s.next_conn + 1) o)

pub dialed_owns : (k : ℕ) (limits : Limits) (s : State) (want link now : ℕ) (row : DialRow) → find (dials_for want) s.dials ≡ Some row → Owns k s → Owns k (dialed_row limits s row link now).state
unfolding dialed_row
dialed_owns k limits s want link now row f o = dialed_want k limits (record s { dials = remove_first (dials_for row.want) s.dials }) row link now (find (wants_it row.want) s.wants) (o.dials row (found_among (dials_for want) row s.dials f)) (less_dials k s (dials_for row.want) o)

made : (k : ℕ) (s : State) (n : ℕ) → Owns k s → Owns k (record s { next_want = n })
made k s n o = record { wants = o.wants; dials = o.dials; conns = o.conns }

new_by : (k : ℕ) (s : State) (host : ℕ) (b : Bool) → Owns k s → Owns k (cond {A = Outcome} b (record { reply = reply.Granted s.next_want; gone = None; state = record s { wants = s.wants ++ (record { want = s.next_want; host = host; caller = k; stage = Granted }) ∷ []; next_want = s.next_want + 1 } }) (record { reply = reply.Waiting s.next_want; gone = None; state = record s { wants = s.wants ++ (record { want = s.next_want; host = host; caller = k; stage = Waiting }) ∷ []; next_want = s.next_want + 1 } })).state
new_by k s host true o = let row : WantRow = record { want = s.next_want; host = host; caller = k; stage = Granted } in made k (record s { wants = s.wants ++ row ∷ [] }) (s.next_want + 1) (more_wants k s row refl o)
new_by k s host false o = let row : WantRow = record { want = s.next_want; host = host; caller = k; stage = Waiting } in made k (record s { wants = s.wants ++ row ∷ [] }) (s.next_want + 1) (more_wants k s row refl o)

idle_by : (k : ℕ) (t : State) (row : ConnRow) (b : Bool) → Owns k t → Owns k (cond {A = Outcome} b (record { reply = reply.Expired row.conn; gone = Some row; state = t }) (record { reply = reply.Given t.next_want row.conn; gone = None; state = record t { conns = t.conns ++ record row { place = Out t.next_want k } ∷ []; next_want = t.next_want + 1 } })).state
idle_by k t row true o = o
idle_by k t row false o = made k (record t { conns = t.conns ++ record row { place = Out t.next_want k } ∷ [] }) (t.next_want + 1) (more_conns k t (record row { place = Out t.next_want k }) refl o)

want_with : (k : ℕ) (limits : Limits) (host now : ℕ) (p : Option ConnRow × State) → Owns k p.1 → Owns k (want_by limits k host now p).state
unfolding want_by want_new want_idle
want_with k limits host now (None, t) o = new_by k t host (is_free limits t host) o
want_with k limits host now (Some row, t) o = idle_by k t row (is_expired limits (since_of row.place) now) o

newest_by : (k : ℕ) (s : State) (host : ℕ) (n : Option ℕ) → Owns k s → Owns k (take_stamped_for s host n).1
newest_by k s host None o = o
newest_by k s host (Some n) o = less_conns k s (rests_for_since_stamp host n) o

pub want_owns : (k : ℕ) (limits : Limits) (s : State) (host now : ℕ) → Owns k s → Owns k (want_step limits s k host now).state
unfolding want_step take_newest
want_owns k limits s host now o = want_with k limits host now (take_stamped_for s host (newest_stamp s host)) (newest_by k s host (newest_stamp s host) o)
