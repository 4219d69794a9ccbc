-- A want goes on while others call: its row stays, is granted where it waited, or the want is served; a dial goes on.
use Rattle.std.proofs.Common.{◌≡◌, ℕ, ◌+◌, ◌≤◌, ◌==◌, ◌&&◌, ◌⊎◌, inl, inr, Bool, true, false, List, [], ◌∷◌, ◌++◌, Option, Some, None, refl, ap, sym, ◌∙◌, subst, cond, eqb-true, eq-eqb, nat_lt, arith}
use Rattle.std.specs.List.{find, count_by, sum_by}
use Rattle.gw_pool.specs.declared.limits.Limits.{Limits}
use Rattle.gw_pool.specs.declared.entry.Call.{Call}
use Rattle.gw_pool.specs.declared.entry.Call.TheVariants as call
use Rattle.gw_pool.specs.declared.entry.Reply.TheVariants as reply
use Rattle.gw_pool.specs.declared.rows.Stage.{Stage}
use Rattle.gw_pool.specs.declared.rows.Stage.TheVariants.{Waiting, Granted, Dialing}
use Rattle.gw_pool.specs.declared.rows.Place.TheVariants.{Out, Idle}
use Rattle.gw_pool.specs.declared.rows.WantRow.{WantRow}
use Rattle.gw_pool.specs.declared.rows.ConnRow.{ConnRow}
use Rattle.gw_pool.specs.declared.rows.DialRow.{DialRow}
use Rattle.gw_pool.specs.Places.{is_granted, is_waiting, since_of}
use Rattle.gw_pool.specs.State.{State, remove_first, least_want, least_waiting, wants_host, waits_for, waits_as, wants_as, wants_it, dials_for, is_with, has_number, is_free, is_expired, rests, rests_for, rests_for_since_stamp, take_stamped, take_oldest, take_newest, oldest_stamp}
use Rattle.gw_pool.specs.Offer.{Offered, grant_to, grant, evict, evict_row, rest, freed, served, offer_to, offer_conn}
use Rattle.gw_pool.specs.Machine.{Outcome, replied, step, want_new, want_idle, want_by, want_step, start_row, dialed_conn, dialed_to, dialed_row, failed_to, failed_row, cancel_row, cancel_conn, back_row, drop_row}
use Rattle.gw_pool.specs.Owner.{IsOwned}
use Rattle.gw_pool.specs.Ties.{Among, con_of, one}
use Rattle.gw_pool.proofs.Edits.{found_passes}
use Rattle.gw_pool.proofs.Room.{Picked, picked, and_both, sum_left}
use Rattle.gw_pool.proofs.Owns.{among_left, found_among}
use Rattle.gw_pool.proofs.Finds.{and_left, and_right, is_found, Newest, newest}
use Rattle.gw_pool.proofs.Least.{stays_or_is}
use Rattle.gw_pool.proofs.Outs.{was_there, is_last, freed_conns, served_conns}
use Rattle.gw_pool.proofs.SoundOffers.{Once, same_row, removed_is}
use Rattle.gw_pool.proofs.RowSteps.{granted, waiting, expired, given}
use Rattle.gw_pool.proofs.Weights.{want_found, dial_found, oldest_keeps, drop_dials, back_dials, cancel_conn_dials, cancel_dials, failed_dials, dialed_dials}
use Rattle.gw_pool.proofs.TieCalls.{start_dials}
use Rattle.gw_pool.proofs.TieWant.{want_dials}
use Rattle.gw_pool.proofs.Inverts.{want_was, start_was, dialed_was, failed_was, cancel_was, back_was, drop_was, expire_was, close_was, IdleWas, CancelRowWas, CancelConnWas}

-- where the want of a row is after a step
pub data Goes (r : WantRow) (t : State) : Type 0 where
  Stays : Among r t.wants → Goes r t
  IsGranted : is_waiting r.stage ≡ true → Among (record r { stage = Granted }) t.wants → Goes r t
  ByConn : (row : ConnRow) → row.host ≡ r.host → Among row t.conns → row.place ≡ Out r.want r.caller → Goes r t

-- by equal wants and connections
pub goes_at : (r : WantRow) (s t : State) → t.wants ≡ s.wants → t.conns ≡ s.conns → Goes r s → Goes r t
goes_at r s t w c (Stays m) = Stays (rw w m)
goes_at r s t w c (IsGranted e m) = IsGranted e (rw w m)
goes_at r s t w c (ByConn row h m p) = ByConn row h (rw c m) p

-- a place is granted
grant_row : (t : State) (host : ℕ) (r row : WantRow) → Once t.wants → Among r t.wants → Picked (waits_for host) t.wants row → Goes r (grant_to t (Some row)).1
unfolding grant_to
grant_row t host r row once m p =
    let waits : is_waiting row.stage ≡ true = and_right (row.host == host) (is_waiting row.stage) p.passes in
    let found = is_found (waits_as row.host row.want) t.wants row p.among
    (and_both ((row.host == row.host) && is_waiting row.stage) (row.want == row.want)
    (and_both (row.host == row.host) (is_waiting row.stage) (eq-eqb row.host row.host refl) waits)
    (eq-eqb row.want row.want refl)) in
    let passes = found_passes (waits_as row.host row.want) t.wants found.0 found.1 in
    let number : found.0.want ≡ row.want = eqb-true found.0.want row.want (and_right ((found.0.host == row.host) && is_waiting found.0.stage) (found.0.want == row.want) passes) in
    elim (stays_or_is (waits_as row.host row.want) r found.0 t.wants m found.1) [
      | inl left ↦ Stays (was_there r (record row { stage = Granted }) (remove_first (waits_as row.host row.want) t.wants) left)
      | inr e ↦ (let same : row ≡ r = same_row row.want row r t.wants (once row.want) p.among m refl (ap (λ (x : WantRow). x.want) e ∙ number) in
          IsGranted (ap (λ (x : WantRow). is_waiting x.stage) (sym same) ∙ waits)
          (subst (λ (x : WantRow). Among (record x { stage = Granted }) (remove_first (waits_as row.host row.want) t.wants ++ record row { stage = Granted } ∷ [])) same
          (is_last (record row { stage = Granted }) (remove_first (waits_as row.host row.want) t.wants))))
    ]

grant_picked : (t : State) (host : ℕ) (r : WantRow) (o : Option WantRow) → ((x : WantRow) → o ≡ Some x → Picked (waits_for host) t.wants x) → Once t.wants → Among r t.wants → Goes r (grant_to t o).1
unfolding grant_to
grant_picked t host r None p once m = Stays m
grant_picked t host r (Some row) p once m = grant_row t host r row once m (p row refl)

grant_if : (t : State) (host : ℕ) (r : WantRow) (b : Bool) → Once t.wants → Among r t.wants → Goes r (cond b (grant_to t (least_waiting t host)) (None, t)).1
unfolding least_waiting
grant_if t host r true once m = grant_picked t host r (least_waiting t host) (λ x e. picked (waits_for host) t.wants x e) once m
grant_if t host r false once m = Stays m

pub grant_goes : (limits : Limits) (t : State) (host : ℕ) (r : WantRow) → Once t.wants → Among r t.wants → Goes r (grant limits t host).1
unfolding grant
grant_goes limits t host r once m = grant_if t host r (is_free limits t host) once m

freed_if : (limits : Limits) (t : State) (want r : WantRow) (b : Bool) → Once t.wants → Among r t.wants → Goes r (cond b (grant limits t want.host) (None, t)).1
freed_if limits t want r true once m = grant_goes limits t want.host r once m
freed_if limits t want r false once m = Stays m

freed_goes : (limits : Limits) (t : State) (want r : WantRow) → Once t.wants → Among r t.wants → Goes r (freed limits t want).1
unfolding freed
freed_goes limits t want r once m = freed_if limits t want r (is_granted want.stage) once m

-- a connection is offered
oldest_by : (s : State) (n : Option ℕ) → (take_stamped s n).1.wants ≡ s.wants
oldest_by s None = refl
oldest_by s (Some n) = refl

oldest_wants : (s : State) → (take_oldest s).1.wants ≡ s.wants
unfolding take_oldest
oldest_wants s = oldest_by s (oldest_stamp s)

evicted_wants : (p : Option ConnRow × State) → (evict_row p).state.wants ≡ p.1.wants
evicted_wants (None, t) = refl
evicted_wants (Some row, t) = refl

evict_if : (s : State) (b : Bool) (e : Offered) → e.state ≡ s → (cond b (evict_row (take_oldest s)) e).state.wants ≡ s.wants
evict_if s true e q = evicted_wants (take_oldest s) ∙ oldest_wants s
evict_if s false e q = ap (λ (x : State). x.wants) q

evict_wants : (limits : Limits) (s : State) → (evict limits s).state.wants ≡ s.wants
unfolding evict
evict_wants limits s = evict_if s (nat_lt limits.idle_total (count_by rests s.conns)) _ refl

rest_if : (limits : Limits) (s t : State) (b : Bool) (e : Offered) → e.state ≡ s → t.wants ≡ s.wants → (cond b (evict limits t) e).state.wants ≡ s.wants
rest_if limits s t true e q w = evict_wants limits t ∙ w
rest_if limits s t false e q w = ap (λ (x : State). x.wants) q

rest_wants : (limits : Limits) (s : State) (row : ConnRow) (now : ℕ) → (rest limits s row now).state.wants ≡ s.wants
unfolding rest
rest_wants limits s row now = rest_if limits s _ (nat_lt (count_by (rests_for row.host) s.conns) limits.idle_per_host) _ refl refl

once_left : (test : WantRow → Bool) (xs : List WantRow) → Once xs → Once (remove_first test xs)
once_left test xs once w = omega (arith, sum_left (λ (r : WantRow). one w r.want) test xs, once w)

served_goes : (want : ℕ) (p : Option ℕ × State) (r : WantRow) → Goes r p.1 → Goes r (served want p).state
served_goes want (next, u) r g = g

offer_some : (limits : Limits) (t : State) (row : ConnRow) (host : ℕ) (r want : WantRow) → row.host ≡ host → Picked (wants_host host) t.wants want → Once t.wants → Among r t.wants
    → Goes r (freed limits (record t { wants = remove_first (wants_as want.host want.want) t.wants; conns = t.conns ++ record row { place = Out want.want want.caller } ∷ [] }) want).1
offer_some limits t row host r want h p once m =
    let u = record t { wants = remove_first (wants_as want.host want.want) t.wants; conns = t.conns ++ record row { place = Out want.want want.caller } ∷ [] } in
    elim (stays_or_is (wants_as want.host want.want) r want t.wants m (removed_is t want once p.among)) [
      | inl left ↦ freed_goes limits u want r (once_left (wants_as want.host want.want) t.wants once) left
      | inr e ↦ ByConn (record row { place = Out want.want want.caller })
          (h ∙ sym (eqb-true want.host host p.passes) ∙ ap (λ (x : WantRow). x.host) (sym e))
          (rw (freed_conns limits u want) (is_last (record row { place = Out want.want want.caller }) t.conns))
          (ap (λ (x : WantRow). Out x.want x.caller) (sym e))
    ]

offer_by : (limits : Limits) (t : State) (row : ConnRow) (now host : ℕ) (r : WantRow) (o : Option WantRow) → row.host ≡ host → ((x : WantRow) → o ≡ Some x → Picked (wants_host host) t.wants x) → Once t.wants → Among r t.wants → Goes r (offer_to limits t row now o).state
unfolding offer_to
offer_by limits t row now host r None h p once m = Stays (rw (rest_wants limits t row now) m)
offer_by limits t row now host r (Some want) h p once m =
    let u = record t { wants = remove_first (wants_as want.host want.want) t.wants; conns = t.conns ++ record row { place = Out want.want want.caller } ∷ [] } in
    served_goes want.want (freed limits u want) r (offer_some limits t row host r want h (p want refl) once m)

pub offer_goes : (limits : Limits) (t : State) (row : ConnRow) (now : ℕ) (r : WantRow) → Once t.wants → Among r t.wants → Goes r (offer_conn limits t row now).state
unfolding offer_conn least_want
offer_goes limits t row now r once m = offer_by limits t (record row { reused = true }) now row.host r (least_want t row.host) refl (λ x e. picked (wants_host row.host) t.wants x e) once m

-- a want is made
new_wants : (r : WantRow) (s : State) (caller host : ℕ) (b : Bool) → Among r s.wants → Among r (cond b (granted s caller host) (waiting s caller host)).state.wants
new_wants r s caller host true m = was_there r (record { want = s.next_want; host = host; caller = caller; stage = Granted }) s.wants m
new_wants r s caller host false m = was_there r (record { want = s.next_want; host = host; caller = caller; stage = Waiting }) s.wants m

idle_wants : (r : WantRow) (t : State) (caller : ℕ) (row : ConnRow) (b : Bool) → Among r t.wants → Among r (cond b (expired t row) (given t caller row)).state.wants
idle_wants r t caller row true m = m
idle_wants r t caller row false m = m

want_with : (limits : Limits) (s : State) (caller host now : ℕ) (r : WantRow) (o : Option ConnRow) (t : State) → Newest s host o t → Among r s.wants → Among r (want_by limits caller host now (o, t)).state.wants
unfolding want_by want_new want_idle
want_with limits s caller host now r None t n m = let same = n.state in rw same (new_wants r s caller host (is_free limits s host) m)
want_with limits s caller host now r (Some row) t n m = let same = n.state in rw same (idle_wants r (record s { conns = remove_first (rests_for_since_stamp host n.stamp) s.conns }) caller row (is_expired limits (since_of row.place) now) m)

want_keeps : (limits : Limits) (s : State) (caller host now : ℕ) (r : WantRow) → Among r s.wants → Among r (want_step limits s caller host now).state.wants
unfolding want_step
want_keeps limits s caller host now r m = want_with limits s caller host now r (take_newest s host).0 (take_newest s host).1 (newest s host) m

-- a call of a want's own caller removes its row, and no other's
other_row : (by : ℕ → ℕ) (s : State) (d c w : ℕ) (r f : WantRow) → IsOwned by s → Among r s.wants → r.caller ≡ c → find (wants_it w) s.wants ≡ Some f → by w ≡ d → (d ≡ c → ⊥) → r ≡ f → ⊥
other_row by s d c w r f own m mine found theirs ne e =
    ne (sym theirs ∙ ap by (sym (eqb-true f.want w (found_passes (wants_it w) s.wants f found)) ∙ ap (λ (x : WantRow). x.want) (sym e)) ∙ sym (own.wants r m).1 ∙ mine)

left_there : (by : ℕ → ℕ) (s : State) (d c w : ℕ) (r f : WantRow) → IsOwned by s → Among r s.wants → r.caller ≡ c → find (wants_it w) s.wants ≡ Some f → by w ≡ d → (d ≡ c → ⊥) → Among r (remove_first (wants_it w) s.wants)
left_there by s d c w r f own m mine found theirs ne = elim (stays_or_is (wants_it w) r f s.wants m found) [ inl left ↦ left | inr e ↦ absurd (other_row by s d c w r f own m mine found theirs ne e) ]

start_goes : (by : ℕ → ℕ) (s : State) (d c : ℕ) (r row : WantRow) → IsOwned by s → Among r s.wants → r.caller ≡ c → find (wants_it row.want) s.wants ≡ Some row → row.caller ≡ d → (d ≡ c → ⊥) → Goes r (start_row s row).state
unfolding start_row
start_goes by s d c r row own m mine found theirs ne =
    Stays (was_there r (record row { stage = Dialing }) (remove_first (wants_it row.want) s.wants)
    (left_there by s d c row.want r row own m mine found (sym (own.wants row (found_among (wants_it row.want) row s.wants found)).1 ∙ theirs) ne))

dialed_by : (limits : Limits) (by : ℕ → ℕ) (s t : State) (d c link now : ℕ) (r : WantRow) (dial : DialRow) (o : Option WantRow) → t.wants ≡ s.wants → IsOwned by s → Once s.wants → Among r s.wants → r.caller ≡ c → find (wants_it dial.want) s.wants ≡ o → by dial.want ≡ d → (d ≡ c → ⊥) → Goes r (dialed_to limits t dial link now o).state
unfolding dialed_to
dialed_by limits by s t d c link now r dial (Some row) e own once m mine found theirs ne = Stays (rw e (left_there by s d c dial.want r row own m mine found theirs ne))
dialed_by limits by s t d c link now r dial None e own once m mine found theirs ne = offer_goes limits (record t { next_conn = t.next_conn + 1 }) (dialed_conn t dial link) now r (rw e once) (rw e m)

failed_by : (limits : Limits) (by : ℕ → ℕ) (s t : State) (d c : ℕ) (r : WantRow) (dial : DialRow) (o : Option WantRow) → t.wants ≡ s.wants → IsOwned by s → Once s.wants → Among r s.wants → r.caller ≡ c → find (wants_it dial.want) s.wants ≡ o → by dial.want ≡ d → (d ≡ c → ⊥) → Goes r (failed_to limits t dial o).state
unfolding failed_to
failed_by limits by s t d c r dial (Some row) e own once m mine found theirs ne =
    grant_goes limits (record t { wants = remove_first (wants_it dial.want) t.wants }) dial.host r (rw e (once_left (wants_it dial.want) s.wants once)) (rw e (left_there by s d c dial.want r row own m mine found theirs ne))
failed_by limits by s t d c r dial None e own once m mine found theirs ne = grant_goes limits t dial.host r (rw e once) (rw e m)

gone_by : (limits : Limits) (t : State) (host : ℕ) (r : WantRow) (b : Bool) → Once t.wants → Among r t.wants → Goes r (cond {A = Outcome} b (replied reply.Gone None (grant limits t host)) (record { reply = reply.Gone None; gone = None; state = t })).state
gone_by limits t host r true once m = grant_goes limits t host r once m
gone_by limits t host r false once m = Stays m

cancel_goes : (limits : Limits) (by : ℕ → ℕ) (s : State) (d c : ℕ) (r row : WantRow) → IsOwned by s → Once s.wants → Among r s.wants → r.caller ≡ c → find (wants_it row.want) s.wants ≡ Some row → row.caller ≡ d → (d ≡ c → ⊥) → Goes r (cancel_row limits s row).state
unfolding cancel_row
cancel_goes limits by s d c r row own once m mine found theirs ne =
    gone_by limits (record s { wants = remove_first (wants_it row.want) s.wants }) row.host r (is_granted row.stage) (once_left (wants_it row.want) s.wants once)
    (left_there by s d c row.want r row own m mine found (sym (own.wants row (found_among (wants_it row.want) row s.wants found)).1 ∙ theirs) ne)

cancel_conn_goes : (limits : Limits) (s : State) (want now : ℕ) (row : ConnRow) (r : WantRow) → Once s.wants → Among r s.wants → Goes r (cancel_conn limits s want row now).state
unfolding cancel_conn
cancel_conn_goes limits s want now row r once m = offer_goes limits (record s { conns = remove_first (is_with want) s.conns }) row now r once m

back_goes : (limits : Limits) (s : State) (now : ℕ) (row : ConnRow) (r : WantRow) → Once s.wants → Among r s.wants → Goes r (back_row limits s row now).state
unfolding back_row
back_goes limits s now row r once m = offer_goes limits (record s { conns = remove_first (has_number row.conn) s.conns }) row now r once m

drop_goes : (limits : Limits) (s : State) (row : ConnRow) (r : WantRow) → Once s.wants → Among r s.wants → Goes r (drop_row limits s row).state
unfolding drop_row
drop_goes limits s row r once m = grant_goes limits (record s { conns = remove_first (has_number row.conn) s.conns }) row.host r once m

dialed_goes : (limits : Limits) (by : ℕ → ℕ) (s : State) (d c link now : ℕ) (r : WantRow) (dial : DialRow) → IsOwned by s → Once s.wants → Among r s.wants → r.caller ≡ c → by dial.want ≡ d → (d ≡ c → ⊥) → Goes r (dialed_row limits s dial link now).state
unfolding dialed_row
dialed_goes limits by s d c link now r dial own once m mine theirs ne = dialed_by limits by s (record s { dials = remove_first (dials_for dial.want) s.dials }) d c link now r dial (find (wants_it dial.want) s.wants) refl own once m mine refl theirs ne

failed_goes : (limits : Limits) (by : ℕ → ℕ) (s : State) (d c : ℕ) (r : WantRow) (dial : DialRow) → IsOwned by s → Once s.wants → Among r s.wants → r.caller ≡ c → by dial.want ≡ d → (d ≡ c → ⊥) → Goes r (failed_row limits s dial).state
unfolding failed_row
failed_goes limits by s d c r dial own once m mine theirs ne = failed_by limits by s (record s { dials = remove_first (dials_for dial.want) s.dials }) d c r dial (find (wants_it dial.want) s.wants) refl own once m mine refl theirs ne

on : (r : WantRow) (o p : Outcome) → o ≡ p → Goes r p.state → Goes r o.state
on r o p e g = rw e g

idle_goes : (s : State) (o : Outcome) (r : WantRow) → IdleWas s o → Among r s.wants → Goes r o.state
idle_goes s o r was m = let same = was.same in Stays (rw (same, oldest_wants s) m)

cancelled : (limits : Limits) (by : ℕ → ℕ) (s : State) (d c w now : ℕ) (o : Outcome) (r : WantRow) → CancelRowWas limits s d w o ⊎ CancelConnWas limits s d w now o → IsOwned by s → Once s.wants → (d ≡ c → ⊥) → r.caller ≡ c → Among r s.wants → Goes r o.state
cancelled limits by s d c w now o r (inl was) own once ne mine m = on r o _ was.same (cancel_goes limits by s d c r was.row own once m mine (want_found w s was.row was.found) was.by ne)
cancelled limits by s d c w now o r (inr was) own once ne mine m = on r o _ was.same (cancel_conn_goes limits s w now was.row r once m)

-- the step of another caller
pub other_step : (limits : Limits) (by : ℕ → ℕ) (s : State) (d c : ℕ) (asked : Call) (o : Outcome) (r : WantRow) → step limits s d asked ≡ Some o → IsOwned by s → Once s.wants → (d ≡ c → ⊥) → r.caller ≡ c → Among r s.wants → Goes r o.state
other_step limits by s d c (call.Want host now) o r f own once ne mine m = on r o _ (want_was limits s d host now o f) (Stays (want_keeps limits s d host now r m))
other_step limits by s d c (call.Start w) o r f own once ne mine m = let was = start_was limits s d w o f in on r o _ was.same (start_goes by s d c r was.row own m mine (want_found w s was.row was.found) was.by ne)
other_step limits by s d c (call.Dialed w link now) o r f own once ne mine m = let was = dialed_was limits s d w link now o f in on r o _ was.same (dialed_goes limits by s d c link now r was.row own once m mine (sym (own.dials was.row (found_among (dials_for w) was.row s.dials was.found)).1 ∙ was.by) ne)
other_step limits by s d c (call.DialFailed w) o r f own once ne mine m = let was = failed_was limits s d w o f in on r o _ was.same (failed_goes limits by s d c r was.row own once m mine (sym (own.dials was.row (found_among (dials_for w) was.row s.dials was.found)).1 ∙ was.by) ne)
other_step limits by s d c (call.Cancel w now) o r f own once ne mine m = cancelled limits by s d c w now o r (cancel_was limits s d w now o f) own once ne mine m
other_step limits by s d c (call.GiveBack conn now) o r f own once ne mine m = let was = back_was limits s d conn now o f in on r o _ was.same (back_goes limits s now was.row r once m)
other_step limits by s d c (call.Drop conn) o r f own once ne mine m = let was = drop_was limits s d conn o f in on r o _ was.same (drop_goes limits s was.row r once m)
other_step limits by s d c (call.Expire now) o r f own once ne mine m = idle_goes s o r (expire_was limits s d now o f) m
other_step limits by s d c call.CloseIdle o r f own once ne mine m = idle_goes s o r (close_was limits s d o f) m

-- a dial goes on while others call
dial_left : (s t : State) (d c w : ℕ) (r f : DialRow) → t.dials ≡ remove_first (dials_for f.want) s.dials → find (dials_for w) s.dials ≡ Some f → f.caller ≡ d → (d ≡ c → ⊥) → r.caller ≡ c → Among r s.dials → Among r t.dials
dial_left s t d c w r f e found by ne mine m = elim (stays_or_is (dials_for f.want) r f s.dials m (dial_found w s f found)) [
  | inl left ↦ rw e left
  | inr same ↦ absurd (ne (sym by ∙ ap (λ (x : DialRow). x.caller) (sym same) ∙ mine))
]

dials_on : (r : DialRow) (s : State) (o p : Outcome) → o ≡ p → p.state.dials ≡ s.dials → Among r s.dials → Among r o.state.dials
dials_on r s o p e d m = rw (e, d) m

dial_on : (r : DialRow) (o p : Outcome) → o ≡ p → Among r p.state.dials → Among r o.state.dials
dial_on r o p e m = rw e m

cancel_dial : (limits : Limits) (s : State) (d w now : ℕ) (o : Outcome) (r : DialRow) → CancelRowWas limits s d w o ⊎ CancelConnWas limits s d w now o → Among r s.dials → Among r o.state.dials
cancel_dial limits s d w now o r (inl was) m = dials_on r s o _ was.same (cancel_dials limits s was.row) m
cancel_dial limits s d w now o r (inr was) m = dials_on r s o _ was.same (cancel_conn_dials limits s w now was.row) m

pub other_dial : (limits : Limits) (s : State) (d c : ℕ) (asked : Call) (o : Outcome) (r : DialRow) → step limits s d asked ≡ Some o → (d ≡ c → ⊥) → r.caller ≡ c → Among r s.dials → Among r o.state.dials
other_dial limits s d c (call.Want host now) o r f ne mine m = dials_on r s o _ (want_was limits s d host now o f) (want_dials limits s d host now) m
other_dial limits s d c (call.Start w) o r f ne mine m = let was = start_was limits s d w o f in dial_on r o _ was.same (rw (start_dials s was.row) (was_there r (record { want = was.row.want; host = was.row.host; caller = was.row.caller }) s.dials m))
other_dial limits s d c (call.Dialed w link now) o r f ne mine m = let was = dialed_was limits s d w link now o f in dial_on r o _ was.same (dial_left s (dialed_row limits s was.row link now).state d c w r was.row (dialed_dials limits s was.row link now) was.found was.by ne mine m)
other_dial limits s d c (call.DialFailed w) o r f ne mine m = let was = failed_was limits s d w o f in dial_on r o _ was.same (dial_left s (failed_row limits s was.row).state d c w r was.row (failed_dials limits s was.row) was.found was.by ne mine m)
other_dial limits s d c (call.Cancel w now) o r f ne mine m = cancel_dial limits s d w now o r (cancel_was limits s d w now o f) m
other_dial limits s d c (call.GiveBack conn now) o r f ne mine m = let was = back_was limits s d conn now o f in dials_on r s o _ was.same (back_dials limits s was.row now) m
other_dial limits s d c (call.Drop conn) o r f ne mine m = let was = drop_was limits s d conn o f in dials_on r s o _ was.same (drop_dials limits s was.row) m
other_dial limits s d c (call.Expire now) o r f ne mine m = let was = expire_was limits s d now o f in dials_on r s o _ was.same (oldest_keeps (con_of 0) s).dials m
other_dial limits s d c call.CloseIdle o r f ne mine m = let was = close_was limits s d o f in dials_on r s o _ was.same (oldest_keeps (con_of 0) s).dials m
