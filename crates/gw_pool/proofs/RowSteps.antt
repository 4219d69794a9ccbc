-- What holds of the want and the caller of each row stays so from step to step: a step's rows are of wants that had rows,
-- with the same callers, or of the new want.
use Rattle.std.proofs.Common.{◌≡◌, ℕ, ◌+◌, ◌⊎◌, inl, inr, Bool, true, false, [], ◌∷◌, ◌++◌, Option, Some, None, refl, ap, subst, cond, nat_lt}
use Rattle.std.specs.List.{find, count_by}
use Rattle.gw_pool.specs.declared.limits.Limits.{Limits}
use Rattle.gw_pool.specs.declared.entry.Reply.TheVariants as reply
use Rattle.gw_pool.specs.declared.rows.Stage.TheVariants.{Waiting, Granted, Dialing}
use Rattle.gw_pool.specs.declared.rows.Place.TheVariants.{Out, Idle}
use Rattle.gw_pool.specs.declared.rows.WantRow.{WantRow}
use Rattle.gw_pool.specs.declared.rows.ConnRow.{ConnRow}
use Rattle.gw_pool.specs.declared.rows.DialRow.{DialRow}
use Rattle.gw_pool.specs.Places.{is_granted, since_of}
use Rattle.gw_pool.specs.State.{State, remove_first, least_want, least_waiting, wants_host, waits_for, waits_as, wants_as, wants_it, dials_for, is_with, has_number, is_free, is_expired, rests, rests_for, rests_since_stamp, rests_for_since_stamp, take_stamped, take_stamped_for, take_oldest, take_newest, oldest_stamp, newest_stamp}
use Rattle.gw_pool.specs.Offer.{Offered, grant_to, grant, evict, evict_row, rest, freed, served, offer_to, offer_conn}
use Rattle.gw_pool.specs.Machine.{Outcome, replied, want_new, want_idle, want_by, want_step, start_row, dialed_conn, dialed_to, dialed_row, failed_to, failed_row, cancel_row, cancel_conn, back_row, drop_row}
use Rattle.gw_pool.proofs.Room.{Picked, picked}
use Rattle.gw_pool.proofs.Owns.{among_left, among_push, found_among}
use Rattle.gw_pool.specs.Owner.{made_by_reply, Rows, PlaceIs}

-- edits of one list
less_wants : (P : ℕ → ℕ → Type 0) (s : State) (test : WantRow → Bool) → Rows P s → Rows P (record s { wants = remove_first test s.wants })
less_wants P s test o = record { wants = λ r m. o.wants r (among_left test r s.wants m); dials = o.dials; conns = o.conns }

less_dials : (P : ℕ → ℕ → Type 0) (s : State) (test : DialRow → Bool) → Rows P s → Rows P (record s { dials = remove_first test s.dials })
less_dials P s test o = record { wants = o.wants; dials = λ r m. o.dials r (among_left test r s.dials m); conns = o.conns }

less_conns : (P : ℕ → ℕ → Type 0) (s : State) (test : ConnRow → Bool) → Rows P s → Rows P (record s { conns = remove_first test s.conns })
less_conns P s test o = record { wants = o.wants; dials = o.dials; conns = λ r m. o.conns r (among_left test r s.conns m) }

more_wants : (P : ℕ → ℕ → Type 0) (s : State) (row : WantRow) → P row.want row.caller → Rows P s → Rows P (record s { wants = s.wants ++ row ∷ [] })
more_wants P s row e o = record { wants = λ r m. elim (among_push r row s.wants m) [ inl n ↦ o.wants r n | inr same ↦ subst (λ (x : WantRow). P x.want x.caller) same e ]; dials = o.dials; conns = o.conns }

more_dials : (P : ℕ → ℕ → Type 0) (s : State) (row : DialRow) → P row.want row.caller → Rows P s → Rows P (record s { dials = s.dials ++ row ∷ [] })
more_dials P s row e o = record { wants = o.wants; dials = λ r m. elim (among_push r row s.dials m) [ inl n ↦ o.dials r n | inr same ↦ subst (λ (x : DialRow). P x.want x.caller) same e ]; conns = o.conns }

out_along : (P : ℕ → ℕ → Type 0) (a b : ConnRow) → a ≡ b → PlaceIs P a.place → PlaceIs P b.place
out_along P a b e h = subst (λ (x : ConnRow). PlaceIs P x.place) e h

more_conns : (P : ℕ → ℕ → Type 0) (s : State) (row : ConnRow) → PlaceIs P row.place → Rows P s → Rows P (record s { conns = s.conns ++ row ∷ [] })
more_conns P s row e o = record { wants = o.wants; dials = o.dials; conns = λ r m. elim (among_push r row s.conns m) [ inl n ↦ o.conns r n | inr same ↦ out_along P row r same e ] }

grant_picked : (P : ℕ → ℕ → Type 0) (s : State) (host : ℕ) (o : Option WantRow) → ((r : WantRow) → o ≡ Some r → Picked (waits_for host) s.wants r) → Rows P s → Rows P (grant_to s o).1
unfolding grant_to
grant_picked P s host None p o = o
grant_picked P s host (Some row) p o = more_wants P (record s { wants = remove_first (waits_as row.host row.want) s.wants }) (record row { stage = Granted }) (o.wants row (p row refl).among) (less_wants P s (waits_as row.host row.want) o)

grant_if : (P : ℕ → ℕ → Type 0) (s : State) (host : ℕ) (b : Bool) → Rows P s → Rows P (cond b (grant_to s (least_waiting s host)) (None, s)).1
unfolding least_waiting
grant_if P s host true o = grant_picked P s host (least_waiting s host) (λ r e. picked (waits_for host) s.wants r e) o
grant_if P s host false o = o

grant_rows : (P : ℕ → ℕ → Type 0) (limits : Limits) (s : State) (host : ℕ) → Rows P s → Rows P (grant limits s host).1
unfolding grant
grant_rows P limits s host o = grant_if P s host (is_free limits s host) o

oldest_by : (P : ℕ → ℕ → Type 0) (s : State) (n : Option ℕ) → Rows P s → Rows P (take_stamped s n).1
oldest_by P s None o = o
oldest_by P s (Some n) o = less_conns P s (rests_since_stamp n) o

pub oldest_rows : (P : ℕ → ℕ → Type 0) (s : State) → Rows P s → Rows P (take_oldest s).1
unfolding take_oldest
oldest_rows P s o = oldest_by P s (oldest_stamp s) o

evicted : (P : ℕ → ℕ → Type 0) (p : Option ConnRow × State) → Rows P p.1 → Rows P (evict_row p).state
evicted P (None, t) h = h
evicted P (Some row, t) h = h

evict_by : (P : ℕ → ℕ → Type 0) (s : State) (b : Bool) (e : Offered) → e.state ≡ s → Rows P s → Rows P (cond b (evict_row (take_oldest s)) e).state
evict_by P s true e q o = evicted P (take_oldest s) (oldest_rows P s o)
evict_by P s false e q o = rw q o

evict_rows : (P : ℕ → ℕ → Type 0) (limits : Limits) (s : State) → Rows P s → Rows P (evict limits s).state
unfolding evict
evict_rows P limits s o = evict_by P s (nat_lt limits.idle_total (count_by rests s.conns)) _ refl o

stamped : (P : ℕ → ℕ → Type 0) (s : State) (n : ℕ) → Rows P s → Rows P (record s { next_stamp = n })
stamped P s n o = record { wants = o.wants; dials = o.dials; conns = o.conns }

rest_by : (P : ℕ → ℕ → Type 0) (limits : Limits) (s t : State) (b : Bool) (e : Offered) → e.state ≡ s → Rows P s → Rows P t → Rows P (cond b (evict limits t) e).state
rest_by P limits s t true e q o h = evict_rows P limits t h
rest_by P limits s t false e q o h = rw q o

rest_rows : (P : ℕ → ℕ → Type 0) (limits : Limits) (s : State) (row : ConnRow) (now : ℕ) → Rows P s → Rows P (rest limits s row now).state
unfolding rest
rest_rows P limits s row now o = rest_by P limits s _ (nat_lt (count_by (rests_for row.host) s.conns) limits.idle_per_host) _ refl o
    (stamped P (record s { conns = s.conns ++ record row { place = Idle s.next_stamp now } ∷ [] }) (s.next_stamp + 1) (more_conns P s (record row { place = Idle s.next_stamp now }) tt o))

freed_by : (P : ℕ → ℕ → Type 0) (limits : Limits) (s : State) (host : ℕ) (b : Bool) → Rows P s → Rows P (cond b (grant limits s host) (None, s)).1
freed_by P limits s host true o = grant_rows P limits s host o
freed_by P limits s host false o = o

freed_rows : (P : ℕ → ℕ → Type 0) (limits : Limits) (s : State) (want : WantRow) → Rows P s → Rows P (freed limits s want).1
unfolding freed
freed_rows P limits s want o = freed_by P limits s want.host (is_granted want.stage) o

served_by : (P : ℕ → ℕ → Type 0) (p : Option ℕ × State) (want : ℕ) → Rows P p.1 → Rows P (served want p).state
served_by P (next, u) want o = o

offer_by : (P : ℕ → ℕ → Type 0) (limits : Limits) (s : State) (row : ConnRow) (now host : ℕ) (w : Option WantRow) → ((r : WantRow) → w ≡ Some r → Picked (wants_host host) s.wants r) → Rows P s → Rows P (offer_to limits s row now w).state
unfolding offer_to
offer_by P limits s row now host None p o = rest_rows P limits s row now o
offer_by P limits s row now host (Some want) p o =
    let t = record s { wants = remove_first (wants_as want.host want.want) s.wants; conns = s.conns ++ record row { place = Out want.want want.caller } ∷ [] } in
    served_by P (freed limits t want) want.want (freed_rows P limits t want
    (more_conns P (record s { wants = remove_first (wants_as want.host want.want) s.wants }) (record row { place = Out want.want want.caller }) (o.wants want (p want refl).among) (less_wants P s (wants_as want.host want.want) o)))

offer_rows : (P : ℕ → ℕ → Type 0) (limits : Limits) (s : State) (row : ConnRow) (now : ℕ) → Rows P s → Rows P (offer_conn limits s row now).state
unfolding offer_conn least_want
offer_rows P limits s row now o = offer_by P limits s (record row { reused = true }) now row.host (least_want s row.host) (λ r e. picked (wants_host row.host) s.wants r e) o

pub start_rows : (P : ℕ → ℕ → Type 0) (s : State) (want : ℕ) (row : WantRow) → find (wants_it want) s.wants ≡ Some row → Rows P s → Rows P (start_row s row).state
unfolding start_row
start_rows P s want row f o =
    let mine = o.wants row (found_among (wants_it want) row s.wants f) in
    let t = record s { wants = remove_first (wants_it row.want) s.wants } in
    more_dials P (record t { wants = t.wants ++ record row { stage = Dialing } ∷ [] }) (record { want = row.want; host = row.host; caller = row.caller }) mine
    (more_wants P t (record row { stage = Dialing }) mine (less_wants P s (wants_it row.want) o))

pub drop_rows : (P : ℕ → ℕ → Type 0) (limits : Limits) (s : State) (row : ConnRow) → Rows P s → Rows P (drop_row limits s row).state
unfolding drop_row
drop_rows P limits s row o = grant_rows P limits (record s { conns = remove_first (has_number row.conn) s.conns }) row.host (less_conns P s (has_number row.conn) o)

pub back_rows : (P : ℕ → ℕ → Type 0) (limits : Limits) (s : State) (row : ConnRow) (now : ℕ) → Rows P s → Rows P (back_row limits s row now).state
unfolding back_row
back_rows P limits s row now o = offer_rows P limits (record s { conns = remove_first (has_number row.conn) s.conns }) row now (less_conns P s (has_number row.conn) o)

pub cancel_conn_rows : (P : ℕ → ℕ → Type 0) (limits : Limits) (s : State) (want now : ℕ) (row : ConnRow) → Rows P s → Rows P (cancel_conn limits s want row now).state
unfolding cancel_conn
cancel_conn_rows P limits s want now row o = offer_rows P limits (record s { conns = remove_first (is_with want) s.conns }) row now (less_conns P s (is_with want) o)

cancelled : (P : ℕ → ℕ → Type 0) (limits : Limits) (t : State) (row : WantRow) (b : Bool) → Rows P t → Rows P (cond {A = Outcome} b (replied reply.Gone None (grant limits t row.host)) (record { reply = reply.Gone None; gone = None; state = t })).state
cancelled P limits t row true o = grant_rows P limits t row.host o
cancelled P limits t row false o = o

pub cancel_rows : (P : ℕ → ℕ → Type 0) (limits : Limits) (s : State) (row : WantRow) → Rows P s → Rows P (cancel_row limits s row).state
unfolding cancel_row
cancel_rows P limits s row o = cancelled P limits (record s { wants = remove_first (wants_it row.want) s.wants }) row (is_granted row.stage) (less_wants P s (wants_it row.want) o)

failed_by_want : (P : ℕ → ℕ → Type 0) (limits : Limits) (s : State) (dial : DialRow) (w : Option WantRow) → Rows P s → Rows P (failed_to limits s dial w).state
unfolding failed_to
failed_by_want P limits s dial (Some row) o = grant_rows P limits (record s { wants = remove_first (wants_it dial.want) s.wants }) dial.host (less_wants P s (wants_it dial.want) o)
failed_by_want P limits s dial None o = grant_rows P limits s dial.host o

pub failed_rows : (P : ℕ → ℕ → Type 0) (limits : Limits) (s : State) (row : DialRow) → Rows P s → Rows P (failed_row limits s row).state
unfolding failed_row
failed_rows P limits s row o = failed_by_want P limits (record s { dials = remove_first (dials_for row.want) s.dials }) row (find (wants_it row.want) s.wants) (less_dials P s (dials_for row.want) o)

numbered : (P : ℕ → ℕ → Type 0) (s : State) (n : ℕ) → Rows P s → Rows P (record s { next_conn = n })
numbered P s n o = record { wants = o.wants; dials = o.dials; conns = o.conns }

dialed_want : (P : ℕ → ℕ → Type 0) (limits : Limits) (s : State) (dial : DialRow) (link now : ℕ) (w : Option WantRow) → P dial.want dial.caller → Rows P s → Rows P (dialed_to limits s dial link now w).state
unfolding dialed_to dialed_conn
dialed_want P limits s dial link now (Some row) e o =
    let t = record s { wants = remove_first (wants_it dial.want) s.wants } in
    numbered P (record t { conns = t.conns ++ dialed_conn s dial link ∷ [] }) (s.next_conn + 1) (more_conns P t (dialed_conn s dial link) e (less_wants P s (wants_it dial.want) o))
dialed_want P limits s dial link now None e o = offer_rows P limits (record s { next_conn = s.next_conn + 1 }) (dialed_conn s dial link) now (numbered P s (s.next_conn + 1) o)

pub dialed_rows : (P : ℕ → ℕ → Type 0) (limits : Limits) (s : State) (want link now : ℕ) (row : DialRow) → find (dials_for want) s.dials ≡ Some row → Rows P s → Rows P (dialed_row limits s row link now).state
unfolding dialed_row
dialed_rows P limits s want link now row f o = dialed_want P limits (record s { dials = remove_first (dials_for row.want) s.dials }) row link now (find (wants_it row.want) s.wants) (o.dials row (found_among (dials_for want) row s.dials f)) (less_dials P s (dials_for row.want) o)

made : (P : ℕ → ℕ → Type 0) (s : State) (n : ℕ) → Rows P s → Rows P (record s { next_want = n })
made P s n o = record { wants = o.wants; dials = o.dials; conns = o.conns }

abbrev pub granted : State → ℕ → ℕ → Outcome
granted s caller host = record { reply = reply.Granted s.next_want; gone = None; state = record s { wants = s.wants ++ (record { want = s.next_want; host = host; caller = caller; stage = Granted }) ∷ []; next_want = s.next_want + 1 } }

abbrev pub waiting : State → ℕ → ℕ → Outcome
waiting s caller host = record { reply = reply.Waiting s.next_want; gone = None; state = record s { wants = s.wants ++ (record { want = s.next_want; host = host; caller = caller; stage = Waiting }) ∷ []; next_want = s.next_want + 1 } }

abbrev pub expired : State → ConnRow → Outcome
expired t row = record { reply = reply.Expired row.conn; gone = Some row; state = t }

abbrev pub given : State → ℕ → ConnRow → Outcome
given t caller row = record { reply = reply.Given t.next_want row.conn; gone = None; state = record t { conns = t.conns ++ record row { place = Out t.next_want caller } ∷ []; next_want = t.next_want + 1 } }

-- a want whose number is used
abbrev pub Uses : State → Outcome → Type 0
Uses s o = o.state.next_want ≡ s.next_want + 1

new_by : (P : ℕ → ℕ → Type 0) (s : State) (caller host : ℕ) (b : Bool) → P s.next_want caller → Rows P s → Rows P (cond b (granted s caller host) (waiting s caller host)).state
new_by P s caller host true p o = let row : WantRow = record { want = s.next_want; host = host; caller = caller; stage = Granted } in made P (record s { wants = s.wants ++ row ∷ [] }) (s.next_want + 1) (more_wants P s row p o)
new_by P s caller host false p o = let row : WantRow = record { want = s.next_want; host = host; caller = caller; stage = Waiting } in made P (record s { wants = s.wants ++ row ∷ [] }) (s.next_want + 1) (more_wants P s row p o)

uses_new : (s : State) (caller host : ℕ) (b : Bool) → Uses s (cond b (granted s caller host) (waiting s caller host))
uses_new s caller host true = refl
uses_new s caller host false = refl

idle_by : (P : ℕ → ℕ → Type 0) (t : State) (caller : ℕ) (row : ConnRow) (b : Bool) → (Uses t (cond b (expired t row) (given t caller row)) → P t.next_want caller) → Rows P t → Rows P (cond b (expired t row) (given t caller row)).state
idle_by P t caller row true p o = o
idle_by P t caller row false p o = made P (record t { conns = t.conns ++ record row { place = Out t.next_want caller } ∷ [] }) (t.next_want + 1) (more_conns P t (record row { place = Out t.next_want caller }) (p refl) o)

want_with : (P : ℕ → ℕ → Type 0) (limits : Limits) (caller host now : ℕ) (p : Option ConnRow × State) → (Uses p.1 (want_by limits caller host now p) → P p.1.next_want caller) → Rows P p.1 → Rows P (want_by limits caller host now p).state
unfolding want_by want_new want_idle
want_with P limits caller host now (None, t) p o = new_by P t caller host (is_free limits t host) (p (uses_new t caller host (is_free limits t host))) o
want_with P limits caller host now (Some row, t) p o = idle_by P t caller row (is_expired limits (since_of row.place) now) p o

newest_by : (P : ℕ → ℕ → Type 0) (s : State) (host : ℕ) (n : Option ℕ) → Rows P s → Rows P (take_stamped_for s host n).1
newest_by P s host None o = o
newest_by P s host (Some n) o = less_conns P s (rests_for_since_stamp host n) o

next_by : (P : ℕ → ℕ → Type 0) (limits : Limits) (s : State) (caller host now : ℕ) (n : Option ℕ) → (Uses s (want_by limits caller host now (take_stamped_for s host n)) → P s.next_want caller) → Uses (take_stamped_for s host n).1 (want_by limits caller host now (take_stamped_for s host n)) → P (take_stamped_for s host n).1.next_want caller
next_by P limits s caller host now None p = p
next_by P limits s caller host now (Some n) p = p

pub want_rows : (P : ℕ → ℕ → Type 0) (limits : Limits) (s : State) (caller host now : ℕ) → (Uses s (want_step limits s caller host now) → P s.next_want caller) → Rows P s → Rows P (want_step limits s caller host now).state
unfolding want_step take_newest
want_rows P limits s caller host now p o = want_with P limits caller host now (take_stamped_for s host (newest_stamp s host)) (next_by P limits s caller host now (newest_stamp s host) p) (newest_by P s host (newest_stamp s host) o)

-- a want makes the next want, or nothing
abbrev pub MakesOr : State → Outcome → Type 0
MakesOr s o = ((made_by_reply o.reply ≡ None) × (o.state.next_want ≡ s.next_want)) ⊎ ((made_by_reply o.reply ≡ Some s.next_want) × Uses s o)

new_makes : (s t : State) (caller host : ℕ) (b : Bool) → t.next_want ≡ s.next_want → MakesOr s (cond b (granted t caller host) (waiting t caller host))
new_makes s t caller host true e = inr (ap (λ n. Some n) e, ap (λ n. n + 1) e)
new_makes s t caller host false e = inr (ap (λ n. Some n) e, ap (λ n. n + 1) e)

idle_makes : (s t : State) (caller : ℕ) (row : ConnRow) (b : Bool) → t.next_want ≡ s.next_want → MakesOr s (cond b (expired t row) (given t caller row))
idle_makes s t caller row true e = inl (refl, e)
idle_makes s t caller row false e = inr (ap (λ n. Some n) e, ap (λ n. n + 1) e)

makes_by : (limits : Limits) (s : State) (caller host now : ℕ) (p : Option ConnRow × State) → p.1.next_want ≡ s.next_want → MakesOr s (want_by limits caller host now p)
unfolding want_by want_new want_idle
makes_by limits s caller host now (None, t) e = new_makes s t caller host (is_free limits t host) e
makes_by limits s caller host now (Some row, t) e = idle_makes s t caller row (is_expired limits (since_of row.place) now) e

number_by : (s : State) (host : ℕ) (n : Option ℕ) → (take_stamped_for s host n).1.next_want ≡ s.next_want
number_by s host None = refl
number_by s host (Some n) = refl

pub makes_or : (limits : Limits) (s : State) (caller host now : ℕ) → MakesOr s (want_step limits s caller host now)
unfolding want_step take_newest
makes_or limits s caller host now = makes_by limits s caller host now (take_stamped_for s host (newest_stamp s host)) (number_by s host (newest_stamp s host))
