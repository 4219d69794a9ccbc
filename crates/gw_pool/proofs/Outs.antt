-- Where a connection is: it stays out to its want until it is taken back; a dialed one is somewhere.
use Rattle.std.proofs.Common.{◌≡◌, ℕ, ◌+◌, ◌<◌, ◌≤◌, ◌==◌, ◌||◌, ◌⊎◌, inl, inr, Bool, true, false, List, [], ◌∷◌, ◌++◌, Option, Some, None, refl, ap, sym, ◌∙◌, arith, cond, nat_lt, ltb-true, eq-eqb, eqb-true, subst}
use Rattle.std.specs.List.{find, sum_by, count_by, list_any}
use Rattle.std.proofs.lemmas.List.Sums.{sum_by-cons}
use Rattle.std.proofs.lemmas.List.Folds.{list_any-append}
use Rattle.gw_pool.specs.declared.limits.Limits.{Limits}
use Rattle.gw_pool.specs.declared.entry.Entry.{Entry}
use Rattle.gw_pool.specs.declared.entry.Call.{Call}
use Rattle.gw_pool.specs.declared.entry.Call.TheVariants as call
use Rattle.gw_pool.specs.declared.entry.Reply.TheVariants as reply
use Rattle.gw_pool.specs.declared.rows.Stage.TheVariants.{Waiting, Granted}
use Rattle.gw_pool.specs.declared.rows.Place.{Place}
use Rattle.gw_pool.specs.declared.rows.Place.TheVariants.{Out, Idle}
use Rattle.gw_pool.specs.declared.rows.WantRow.{WantRow}
use Rattle.gw_pool.specs.declared.rows.ConnRow.{ConnRow}
use Rattle.gw_pool.specs.declared.rows.DialRow.{DialRow}
use Rattle.gw_pool.specs.Places.{is_granted, since_of, is_out_to, is_idle}
use Rattle.gw_pool.specs.State.{State, empty, remove_first, least_want, least_waiting, rests_since_stamp, wants_as, wants_it, dials_for, is_with, has_number, is_free, is_expired, rests, rests_for, rests_for_since_stamp, take_oldest, take_newest}
use Rattle.gw_pool.specs.Offer.{Offered, grant_to, grant, evict, evict_row, rest, freed, served, offer_to, offer_conn}
use Rattle.gw_pool.specs.Machine.{Outcome, replied, step, want_new, want_idle, want_by, want_step, start_row, dialed_conn, dialed_to, dialed_row, failed_to, failed_row, cancel_row, cancel_conn, back_row, drop_row}
use Rattle.gw_pool.specs.History.{IsLegal, LegalFrom, after, after_from, moved}
use Rattle.gw_pool.proofs.Edits.{found_passes}
use Rattle.gw_pool.proofs.Ties.{one_same}
use Rattle.gw_pool.proofs.Inverts.{want_was, start_was, dialed_was, failed_was, cancel_was, back_was, drop_was, expire_was, close_was, CancelRowWas, CancelConnWas, IdleWas}
use Rattle.gw_pool.specs.Laws.{offered_to, served_want, moved_conn, is_number, serves, puts_out, takes_out, takes_back}
use Rattle.gw_pool.specs.Ties.{Among, one, con_of}
use Rattle.gw_pool.proofs.Owns.{found_among}
use Rattle.gw_pool.proofs.Finds.{and_left, and_right, is_found, oldest_out, oldest_none, Newest, newest}
use Rattle.gw_pool.proofs.Weights.{weight, conn_weight, conn_found}
use Rattle.gw_pool.proofs.Numbers.{Numbers, step_numbers, empty_numbers}
use Rattle.gw_pool.proofs.Least.{stays_or_is, served_to, rest_to}
use Rattle.gw_pool.proofs.Walk.{along, legal_split, after_split, steps}

-- grants leave connections where they are
grant_to_conns : (s : State) (o : Option WantRow) → (grant_to s o).1.conns ≡ s.conns
unfolding grant_to
grant_to_conns s None = refl
grant_to_conns s (Some row) = refl

grant_if : (s : State) (host : ℕ) (b : Bool) → (cond b (grant_to s (least_waiting s host)) (None, s)).1.conns ≡ s.conns
grant_if s host true = grant_to_conns s (least_waiting s host)
grant_if s host false = refl

pub grant_conns : (limits : Limits) (s : State) (host : ℕ) → (grant limits s host).1.conns ≡ s.conns
unfolding grant
grant_conns limits s host = grant_if s host (is_free limits s host)

freed_if : (limits : Limits) (s : State) (host : ℕ) (b : Bool) → (cond b (grant limits s host) (None, s)).1.conns ≡ s.conns
freed_if limits s host true = grant_conns limits s host
freed_if limits s host false = refl

pub freed_conns : (limits : Limits) (s : State) (want : WantRow) → (freed limits s want).1.conns ≡ s.conns
unfolding freed
freed_conns limits s want = freed_if limits s want.host (is_granted want.stage)

pub served_conns : (want : ℕ) (p : Option ℕ × State) → (served want p).state.conns ≡ p.1.conns
served_conns want (next, u) = refl

-- a row that is out stays among the rows
pub was_there : {X : Type 0} (r y : X) (xs : List X) → Among r xs → Among r (xs ++ y ∷ [])
was_there r y [] m = absurd m
was_there r y (x ∷ xs) (inl e) = inl e
was_there r y (x ∷ xs) (inr m) = inr (was_there r y xs m)

pub is_last : {X : Type 0} (y : X) (xs : List X) → Among y (xs ++ y ∷ [])
is_last y [] = inl refl
is_last y (x ∷ xs) = inr (is_last y xs)

not_idle : (w : ℕ) (place : Place) → is_out_to w place ≡ true → is_idle place ≡ true → ⊥
not_idle w (Out v c) o i = cc
not_idle w (Idle n t) o i = cc

out_of_idle : (w : ℕ) (r row : ConnRow) → is_with w r ≡ true → rests row ≡ true → r ≡ row → ⊥
out_of_idle w r row o i e = not_idle w r.place o (let at : rests r ≡ true = ap rests e ∙ i in at)

-- an idle row goes
idle_gone : (w : ℕ) (r row : ConnRow) (p : ConnRow → Bool) (xs : List ConnRow) → is_with w r ≡ true → find p xs ≡ Some row → rests row ≡ true → Among r xs → Among r (remove_first p xs)
idle_gone w r row p xs o f i m = elim (stays_or_is p r row xs m f) [ inl n ↦ n | inr e ↦ absurd (out_of_idle w r row o i e) ]

evict_taken : (w : ℕ) (r : ConnRow) (s : State) (p : Option ConnRow × State) (t : ℕ) → take_oldest s ≡ p → t < count_by rests s.conns → is_with w r ≡ true → Among r s.conns → Among r (evict_row p).state.conns
evict_taken w r s (None, u) t e l o m = absurd (omega (arith, oldest_none s (ap (λ (p : Option ConnRow × State). p.0) e), l))
evict_taken w r s (Some row, u) t e l o m =
    let out = oldest_out s row (ap (λ (p : Option ConnRow × State). p.0) e) in
    let now : u ≡ record s { conns = remove_first (rests_since_stamp out.stamp) s.conns } = sym (ap (λ (p : Option ConnRow × State). p.1) e) ∙ out.state in
    rw now (idle_gone w r row (rests_since_stamp out.stamp) s.conns o out.found out.idle m)

evict_by : (w : ℕ) (r : ConnRow) (s : State) (t : ℕ) (b : Bool) (o : Offered) → nat_lt t (count_by rests s.conns) ≡ b → o.state ≡ s → is_with w r ≡ true → Among r s.conns → Among r (cond b (evict_row (take_oldest s)) o).state.conns
evict_by w r s t true o e f q m = evict_taken w r s (take_oldest s) t refl (ltb-true t (count_by rests s.conns) e) q m
evict_by w r s t false o e f q m = rw f m

evict_keeps : (w : ℕ) (limits : Limits) (s : State) (r : ConnRow) → is_with w r ≡ true → Among r s.conns → Among r (evict limits s).state.conns
unfolding evict
evict_keeps w limits s r o m = evict_by w r s limits.idle_total (nat_lt limits.idle_total (count_by rests s.conns)) _ refl refl o m

rest_by : (w : ℕ) (limits : Limits) (s t : State) (r : ConnRow) (b : Bool) (o : Offered) → o.state ≡ s → is_with w r ≡ true → Among r s.conns → Among r t.conns → Among r (cond b (evict limits t) o).state.conns
rest_by w limits s t r true o e q m n = evict_keeps w limits t r q n
rest_by w limits s t r false o e q m n = rw e m

rest_keeps : (w : ℕ) (limits : Limits) (s : State) (row r : ConnRow) (now : ℕ) → is_with w r ≡ true → Among r s.conns → Among r (rest limits s row now).state.conns
unfolding rest
rest_keeps w limits s row r now o m = rest_by w limits s _ r (nat_lt (count_by (rests_for row.host) s.conns) limits.idle_per_host) _ refl o m (was_there r (record row { place = Idle s.next_stamp now }) s.conns m)

offer_by : (w : ℕ) (limits : Limits) (s : State) (row r : ConnRow) (now : ℕ) (o : Option WantRow) → is_with w r ≡ true → Among r s.conns → Among r (offer_to limits s row now o).state.conns
unfolding offer_to
offer_by w limits s row r now None q m = rest_keeps w limits s row r now q m
offer_by w limits s row r now (Some want) q m =
    let t = record s { wants = remove_first (wants_as want.host want.want) s.wants; conns = s.conns ++ record row { place = Out want.want want.caller } ∷ [] } in
    rw (served_conns want.want (freed limits t want), freed_conns limits t want) (was_there r (record row { place = Out want.want want.caller }) s.conns m)

pub offer_keeps : (w : ℕ) (limits : Limits) (s : State) (row r : ConnRow) (now : ℕ) → is_with w r ≡ true → Among r s.conns → Among r (offer_conn limits s row now).state.conns
unfolding offer_conn
offer_keeps w limits s row r now q m = offer_by w limits s (record row { reused = true }) r now (least_want s row.host) q m

-- a connection is out to a want
pub record Held (c w : ℕ) (s : State) : Type 0 where
  pub row : ConnRow
  pub there : Among row s.conns
  pub number : row.conn ≡ c
  pub out : is_with w row ≡ true

held : (c w : ℕ) (s t : State) → (h : Held c w s) → Among h.row t.conns → Held c w t
held c w s t h m = record { row = h.row; there = m; number = h.number; out = h.out }

along_conns : (r : ConnRow) (s t : State) → t.conns ≡ s.conns → Among r s.conns → Among r t.conns
along_conns r s t e m = rw e m

start_conns : (s : State) (row : WantRow) → (start_row s row).state.conns ≡ s.conns
unfolding start_row
start_conns s row = refl

failed_to_conns : (limits : Limits) (s : State) (dial : DialRow) (o : Option WantRow) → (failed_to limits s dial o).state.conns ≡ s.conns
unfolding failed_to
failed_to_conns limits s dial (Some row) = grant_conns limits (record s { wants = remove_first (wants_it dial.want) s.wants }) dial.host
failed_to_conns limits s dial None = grant_conns limits s dial.host

failed_conns : (limits : Limits) (s : State) (dial : DialRow) → (failed_row limits s dial).state.conns ≡ s.conns
unfolding failed_row
failed_conns limits s dial = failed_to_conns limits (record s { dials = remove_first (dials_for dial.want) s.dials }) dial (find (wants_it dial.want) s.wants)

gone_conns : (limits : Limits) (s t : State) (host : ℕ) (b : Bool) → t.conns ≡ s.conns → (cond {A = Outcome} b (replied reply.Gone None (grant limits t host)) (record { reply = reply.Gone None; gone = None; state = t })).state.conns ≡ s.conns
gone_conns limits s t host true e = grant_conns limits t host ∙ e
gone_conns limits s t host false e = e

cancel_conns : (limits : Limits) (s : State) (row : WantRow) → (cancel_row limits s row).state.conns ≡ s.conns
unfolding cancel_row
cancel_conns limits s row = gone_conns limits s (record s { wants = remove_first (wants_it row.want) s.wants }) row.host (is_granted row.stage) refl

drop_conns : (limits : Limits) (s : State) (row : ConnRow) → (drop_row limits s row).state.conns ≡ remove_first (has_number row.conn) s.conns
unfolding drop_row
drop_conns limits s row = grant_conns limits (record s { conns = remove_first (has_number row.conn) s.conns }) row.host

dialed_by : (w : ℕ) (limits : Limits) (s : State) (dial : DialRow) (link now : ℕ) (r : ConnRow) (o : Option WantRow) → is_with w r ≡ true → Among r s.conns → Among r (dialed_to limits s dial link now o).state.conns
unfolding dialed_to
dialed_by w limits s dial link now r (Some row) q m = was_there r (dialed_conn s dial link) s.conns m
dialed_by w limits s dial link now r None q m = offer_keeps w limits (record s { next_conn = s.next_conn + 1 }) (dialed_conn s dial link) r now q m

pub dialed_keeps : (w : ℕ) (limits : Limits) (s : State) (dial : DialRow) (link now : ℕ) (r : ConnRow) → is_with w r ≡ true → Among r s.conns → Among r (dialed_row limits s dial link now).state.conns
unfolding dialed_row
dialed_keeps w limits s dial link now r q m = dialed_by w limits (record s { dials = remove_first (dials_for dial.want) s.dials }) dial link now r (find (wants_it dial.want) s.wants) q m

-- wants
new_keeps : (r : ConnRow) (s : State) (caller host : ℕ) (b : Bool) → Among r s.conns → Among r (cond {A = Outcome} b (record { reply = reply.Granted s.next_want; gone = None; state = record s { wants = s.wants ++ (record { want = s.next_want; host = host; caller = caller; stage = Granted }) ∷ []; next_want = s.next_want + 1 } }) (record { reply = reply.Waiting s.next_want; gone = None; state = record s { wants = s.wants ++ (record { want = s.next_want; host = host; caller = caller; stage = Waiting }) ∷ []; next_want = s.next_want + 1 } })).state.conns
new_keeps r s caller host true m = m
new_keeps r s caller host false m = m

idle_keeps : (r : ConnRow) (s : State) (caller : ℕ) (row : ConnRow) (rest : List ConnRow) (b : Bool) → Among r rest → Among r (cond {A = Outcome} b (record { reply = reply.Expired row.conn; gone = Some row; state = record s { conns = rest } }) (record { reply = reply.Given s.next_want row.conn; gone = None; state = record s { conns = rest ++ record row { place = Out s.next_want caller } ∷ []; next_want = s.next_want + 1 } })).state.conns
idle_keeps r s caller row rest true m = m
idle_keeps r s caller row rest false m = was_there r (record row { place = Out s.next_want caller }) rest m

want_with : (w : ℕ) (limits : Limits) (s : State) (caller host now : ℕ) (r : ConnRow) (o : Option ConnRow) (t : State) → Newest s host o t → is_with w r ≡ true → Among r s.conns → Among r (want_by limits caller host now (o, t)).state.conns
unfolding want_by want_new want_idle
want_with w limits s caller host now r None t n q m = let same = n.state in rw same (new_keeps r s caller host (is_free limits s host) m)
want_with w limits s caller host now r (Some row) t n q m = let same = n.state in rw same (idle_keeps r s caller row (remove_first (rests_for_since_stamp host n.stamp) s.conns) (is_expired limits (since_of row.place) now) (idle_gone w r row (rests_for_since_stamp host n.stamp) s.conns q n.found n.idle m))

want_keeps : (w : ℕ) (limits : Limits) (s : State) (caller host now : ℕ) (r : ConnRow) → is_with w r ≡ true → Among r s.conns → Among r (want_step limits s caller host now).state.conns
unfolding want_step
want_keeps w limits s caller host now r q m = want_with w limits s caller host now r (take_newest s host).0 (take_newest s host).1 (newest s host) q m

-- connections that come back
back_keeps : (c w : ℕ) (limits : Limits) (s : State) (row : ConnRow) (now : ℕ) (h : Held c w s) → find (has_number row.conn) s.conns ≡ Some row → (row.conn ≡ c → ⊥) → Among h.row (back_row limits s row now).state.conns
unfolding back_row
back_keeps c w limits s row now h f n = offer_keeps w limits (record s { conns = remove_first (has_number row.conn) s.conns }) row h.row now h.out
    (elim (stays_or_is (has_number row.conn) h.row row s.conns h.there f) [ inl m ↦ m | inr e ↦ absurd (n (sym (ap (λ (r : ConnRow). r.conn) e) ∙ h.number)) ])

drop_keeps : (c w : ℕ) (limits : Limits) (s : State) (row : ConnRow) (h : Held c w s) → find (has_number row.conn) s.conns ≡ Some row → (row.conn ≡ c → ⊥) → Among h.row (drop_row limits s row).state.conns
drop_keeps c w limits s row h f n = rw (drop_conns limits s row) (elim (stays_or_is (has_number row.conn) h.row row s.conns h.there f) [ inl m ↦ m | inr e ↦ absurd (n (sym (ap (λ (r : ConnRow). r.conn) e) ∙ h.number)) ])

out_same : (w v : ℕ) (place : Place) → is_out_to w place ≡ true → is_out_to v place ≡ true → v ≡ w
out_same w v (Out u c) a b = sym (eqb-true u v b) ∙ eqb-true u w a
out_same w v (Idle n t) a b = absurd (cc)

cancel_conn_keeps : (c w : ℕ) (limits : Limits) (s : State) (want now : ℕ) (row : ConnRow) (h : Held c w s) → find (is_with want) s.conns ≡ Some row → (want ≡ w → ⊥) → Among h.row (cancel_conn limits s want row now).state.conns
unfolding cancel_conn
cancel_conn_keeps c w limits s want now row h f n = offer_keeps w limits (record s { conns = remove_first (is_with want) s.conns }) row h.row now h.out
    (elim (stays_or_is (is_with want) h.row row s.conns h.there f) [
      | inl m ↦ m
      | inr e ↦ absurd (n (out_same w want row.place (let at : is_with w row ≡ true = ap (is_with w) (sym e) ∙ h.out in at) (found_passes (is_with want) s.conns row f)))
    ])

not_same : (a b : ℕ) → (a == b) ≡ false → a ≡ b → ⊥
not_same a b e s = let bad : true ≡ false = sym (eq-eqb a b s) ∙ e in cc

on : (r : ConnRow) (o p : Outcome) → o ≡ p → Among r p.state.conns → Among r o.state.conns
on r o p e m = rw e m

cancel_step : (c w : ℕ) (limits : Limits) (s : State) (caller want now : ℕ) (o : Outcome) → CancelRowWas limits s caller want o ⊎ CancelConnWas limits s caller want now o → (want ≡ w → ⊥) → (h : Held c w s) → Among h.row o.state.conns
cancel_step c w limits s caller want now o (inl was) n h = on h.row o _ was.same (along_conns h.row s (cancel_row limits s was.row).state (cancel_conns limits s was.row) h.there)
cancel_step c w limits s caller want now o (inr was) n h = on h.row o _ was.same (cancel_conn_keeps c w limits s want now was.row h was.found n)

idle_step : (c w : ℕ) (s : State) (o : Outcome) → IdleWas s o → (h : Held c w s) → Among h.row o.state.conns
idle_step c w s o was h =
    let out = oldest_out s was.row was.found in
    let now = out.state in
    on h.row o _ was.same (rw now (idle_gone w h.row was.row (rests_since_stamp out.stamp) s.conns h.out out.found out.idle h.there))

number_is : (conn : ℕ) (s : State) (row : ConnRow) → find (has_number conn) s.conns ≡ Some row → row.conn ≡ conn
number_is conn s row f = eqb-true row.conn conn (found_passes (has_number conn) s.conns row f)

pub keeps : (c w : ℕ) (limits : Limits) (s : State) (caller : ℕ) (asked : Call) (o : Outcome) → step limits s caller asked ≡ Some o → takes_out c w asked ≡ false → (h : Held c w s) → Among h.row o.state.conns
keeps c w limits s caller (call.Want host now) o e t h = on h.row o _ (want_was limits s caller host now o e) (want_keeps w limits s caller host now h.row h.out h.there)
keeps c w limits s caller (call.Start want) o e t h = let was = start_was limits s caller want o e in on h.row o _ was.same (along_conns h.row s (start_row s was.row).state (start_conns s was.row) h.there)
keeps c w limits s caller (call.Dialed want link now) o e t h = let was = dialed_was limits s caller want link now o e in on h.row o _ was.same (dialed_keeps w limits s was.row link now h.row h.out h.there)
keeps c w limits s caller (call.DialFailed want) o e t h = let was = failed_was limits s caller want o e in on h.row o _ was.same (along_conns h.row s (failed_row limits s was.row).state (failed_conns limits s was.row) h.there)
keeps c w limits s caller (call.Cancel want now) o e t h = cancel_step c w limits s caller want now o (cancel_was limits s caller want now o e) (not_same want w t) h
keeps c w limits s caller (call.GiveBack conn now) o e t h =
    let was = back_was limits s caller conn now o e in
    on h.row o _ was.same (back_keeps c w limits s was.row now h (conn_found conn s was.row was.found) (λ same. not_same conn c t (sym (number_is conn s was.row was.found) ∙ same)))
keeps c w limits s caller (call.Drop conn) o e t h =
    let was = drop_was limits s caller conn o e in
    on h.row o _ was.same (drop_keeps c w limits s was.row h (conn_found conn s was.row was.found) (λ same. not_same conn c t (sym (number_is conn s was.row was.found) ∙ same)))
keeps c w limits s caller (call.Expire now) o e t h = idle_step c w s o (expire_was limits s caller now o e) h
keeps c w limits s caller call.CloseIdle o e t h = idle_step c w s o (close_was limits s caller o e) h

-- a connection that was put out is held
offer_holds_by : (limits : Limits) (s : State) (row : ConnRow) (now w : ℕ) (o : Option WantRow) → offered_to (rest limits s row now).offer ≡ None → offered_to (offer_to limits s row now o).offer ≡ Some w → Held row.conn w (offer_to limits s row now o).state
unfolding offer_to
offer_holds_by limits s row now w None n e = absurd (let bad = sym n ∙ e in cc)
offer_holds_by limits s row now w (Some want) n e =
    let t = record s { wants = remove_first (wants_as want.host want.want) s.wants; conns = s.conns ++ record row { place = Out want.want want.caller } ∷ [] } in
    let new : ConnRow = record row { place = Out want.want want.caller } in
    let same : want.want ≡ w = served_to want.want w (freed limits t want) e in
    record {
      row = new;
      there = rw (served_conns want.want (freed limits t want), freed_conns limits t want) (is_last new s.conns);
      number = refl;
      out = eq-eqb want.want w same;
    }

offer_holds : (limits : Limits) (s : State) (row : ConnRow) (now w : ℕ) → offered_to (offer_conn limits s row now).offer ≡ Some w → Held row.conn w (offer_conn limits s row now).state
unfolding offer_conn
offer_holds limits s row now w e = offer_holds_by limits s (record row { reused = true }) now w (least_want s row.host) (rest_to limits s (record row { reused = true }) now) e

-- what an entry says: its connection and its want
abbrev Says : ℕ → ℕ → Call → Outcome → Type 0
Says c w asked o = (moved_conn asked o.reply ≡ Some c) × (served_want asked o.reply ≡ Some w)

said_on : (c w : ℕ) (asked : Call) (o p : Outcome) → o ≡ p → Says c w asked o → Says c w asked p
said_on c w asked o p e k = rw (sym e) k

held_on : (c w : ℕ) (o p : Outcome) → o ≡ p → Held c w p.state → Held c w o.state
held_on c w o p e k = rw e k

number_along : (a b w : ℕ) (s : State) → Some a ≡ Some b → Held a w s → Held b w s
number_along a b w s e k = let P : ℕ → Type 0 = λ n. Held n w s in let same : a ≡ b = cc in subst P same k

new_says : (c w : ℕ) (s : State) (caller host now : ℕ) (b : Bool) → Says c w (call.Want host now) (cond {A = Outcome} b (record { reply = reply.Granted s.next_want; gone = None; state = record s { wants = s.wants ++ (record { want = s.next_want; host = host; caller = caller; stage = Granted }) ∷ []; next_want = s.next_want + 1 } }) (record { reply = reply.Waiting s.next_want; gone = None; state = record s { wants = s.wants ++ (record { want = s.next_want; host = host; caller = caller; stage = Waiting }) ∷ []; next_want = s.next_want + 1 } })) → ⊥
new_says c w s caller host now true k = (let bad = k.0 in cc)
new_says c w s caller host now false k = (let bad = k.0 in cc)

idle_holds : (c w : ℕ) (s : State) (caller host now : ℕ) (row : ConnRow) (rest : List ConnRow) (b : Bool) → Says c w (call.Want host now) (cond {A = Outcome} b (record { reply = reply.Expired row.conn; gone = Some row; state = record s { conns = rest } }) (record { reply = reply.Given s.next_want row.conn; gone = None; state = record s { conns = rest ++ record row { place = Out s.next_want caller } ∷ []; next_want = s.next_want + 1 } }))
    → Held c w (cond {A = Outcome} b (record { reply = reply.Expired row.conn; gone = Some row; state = record s { conns = rest } }) (record { reply = reply.Given s.next_want row.conn; gone = None; state = record s { conns = rest ++ record row { place = Out s.next_want caller } ∷ []; next_want = s.next_want + 1 } })).state × (row.conn ≡ c)
idle_holds c w s caller host now row rest true k = absurd (let bad = k.0 in cc)
idle_holds c w s caller host now row rest false k =
    let conn : row.conn ≡ c = (let e = k.0 in cc) in
    let want : s.next_want ≡ w = (let e = k.1 in cc) in
    (record { row = record row { place = Out s.next_want caller }; there = is_last (record row { place = Out s.next_want caller }) rest; number = conn; out = eq-eqb s.next_want w want }, conn)

want_holds_by : (c w : ℕ) (limits : Limits) (s : State) (caller host now : ℕ) (o : Option ConnRow) (t : State) → Newest s host o t → Says c w (call.Want host now) (want_by limits caller host now (o, t)) → Held c w (want_by limits caller host now (o, t)).state
unfolding want_by want_new want_idle
want_holds_by c w limits s caller host now None t n k = absurd (new_says c w t caller host now (is_free limits t host) k)
want_holds_by c w limits s caller host now (Some row) t n k = (idle_holds c w t caller host now row t.conns (is_expired limits (since_of row.place) now) k).0

want_holds : (c w : ℕ) (limits : Limits) (s : State) (caller host now : ℕ) → Says c w (call.Want host now) (want_step limits s caller host now) → Held c w (want_step limits s caller host now).state
unfolding want_step
want_holds c w limits s caller host now k = want_holds_by c w limits s caller host now (take_newest s host).0 (take_newest s host).1 (newest s host) k

dialed_holds_by : (c w : ℕ) (limits : Limits) (s : State) (dial : DialRow) (want link now : ℕ) (o : Option WantRow) → dial.want ≡ want → Says c w (call.Dialed want link now) (dialed_to limits s dial link now o) → Held c w (dialed_to limits s dial link now o).state
unfolding dialed_to dialed_conn
dialed_holds_by c w limits s dial want link now (Some row) d k =
    let new : ConnRow = record { conn = s.next_conn; host = dial.host; link = link; reused = false; place = Out dial.want dial.caller } in
    let is_want : want ≡ w = (let e = k.1 in cc) in
    record { row = new; there = is_last new s.conns; number = (let e = k.0 in cc); out = eq-eqb dial.want w (d ∙ is_want) }
dialed_holds_by c w limits s dial want link now None d k =
    number_along s.next_conn c w _ k.0 (offer_holds limits (record s { next_conn = s.next_conn + 1 }) (dialed_conn s dial link) now w k.1)

dialed_holds : (c w : ℕ) (limits : Limits) (s : State) (dial : DialRow) (want link now : ℕ) → dial.want ≡ want → Says c w (call.Dialed want link now) (dialed_row limits s dial link now) → Held c w (dialed_row limits s dial link now).state
unfolding dialed_row
dialed_holds c w limits s dial want link now d k = dialed_holds_by c w limits (record s { dials = remove_first (dials_for dial.want) s.dials }) dial want link now (find (wants_it dial.want) s.wants) d k

back_holds : (c w : ℕ) (limits : Limits) (s : State) (row : ConnRow) (conn now : ℕ) → row.conn ≡ conn → Says c w (call.GiveBack conn now) (back_row limits s row now) → Held c w (back_row limits s row now).state
unfolding back_row
back_holds c w limits s row conn now e k = number_along row.conn c w _ (ap (λ n. Some n) e ∙ k.0) (offer_holds limits (record s { conns = remove_first (has_number row.conn) s.conns }) row now w k.1)

cancel_conn_holds : (c w : ℕ) (limits : Limits) (s : State) (want now : ℕ) (row : ConnRow) → Says c w (call.Cancel want now) (cancel_conn limits s want row now) → Held c w (cancel_conn limits s want row now).state
unfolding cancel_conn
cancel_conn_holds c w limits s want now row k = number_along row.conn c w _ k.0 (offer_holds limits (record s { conns = remove_first (is_with want) s.conns }) row now w k.1)

-- entries that put no connection out
start_says : (asked : Call) (s : State) (row : WantRow) → moved_conn asked (start_row s row).reply ≡ None
unfolding start_row
start_says asked s row = refl

failed_to_says : (asked : Call) (limits : Limits) (s : State) (dial : DialRow) (o : Option WantRow) → moved_conn asked (failed_to limits s dial o).reply ≡ None
unfolding failed_to
failed_to_says asked limits s dial (Some row) = refl
failed_to_says asked limits s dial None = refl

failed_says : (asked : Call) (limits : Limits) (s : State) (dial : DialRow) → moved_conn asked (failed_row limits s dial).reply ≡ None
unfolding failed_row
failed_says asked limits s dial = failed_to_says asked limits (record s { dials = remove_first (dials_for dial.want) s.dials }) dial (find (wants_it dial.want) s.wants)

gone_says : (asked : Call) (b : Bool) (p : Option ℕ × State) (t : State) → moved_conn asked (cond {A = Outcome} b (replied reply.Gone None p) (record { reply = reply.Gone None; gone = None; state = t })).reply ≡ None
gone_says asked true p t = refl
gone_says asked false p t = refl

cancel_says : (asked : Call) (limits : Limits) (s : State) (row : WantRow) → moved_conn asked (cancel_row limits s row).reply ≡ None
unfolding cancel_row
cancel_says asked limits s row = gone_says asked (is_granted row.stage) _ _

drop_says : (asked : Call) (limits : Limits) (s : State) (row : ConnRow) → moved_conn asked (drop_row limits s row).reply ≡ None
unfolding drop_row
drop_says asked limits s row = refl

says_none : (c w : ℕ) (asked : Call) (o p : Outcome) → o ≡ p → moved_conn asked p.reply ≡ None → Says c w asked o → ⊥
says_none c w asked o p e n k = let bad : None ≡ Some c = sym n ∙ ap (λ (x : Outcome). moved_conn asked x.reply) (sym e) ∙ k.0 in cc

cancel_holds : (c w : ℕ) (limits : Limits) (s : State) (caller want now : ℕ) (o : Outcome) → CancelRowWas limits s caller want o ⊎ CancelConnWas limits s caller want now o → Says c w (call.Cancel want now) o → Held c w o.state
cancel_holds c w limits s caller want now o (inl was) k = absurd (says_none c w (call.Cancel want now) o _ was.same (cancel_says (call.Cancel want now) limits s was.row) k)
cancel_holds c w limits s caller want now o (inr was) k = held_on c w o _ was.same (cancel_conn_holds c w limits s want now was.row (said_on c w (call.Cancel want now) o _ was.same k))

holds : (c w : ℕ) (limits : Limits) (s : State) (caller : ℕ) (asked : Call) (o : Outcome) → step limits s caller asked ≡ Some o → Says c w asked o → Held c w o.state
holds c w limits s caller (call.Want host now) o e k = let same = want_was limits s caller host now o e in held_on c w o _ same (want_holds c w limits s caller host now (said_on c w (call.Want host now) o _ same k))
holds c w limits s caller (call.Start want) o e k = let was = start_was limits s caller want o e in absurd (says_none c w (call.Start want) o _ was.same (start_says (call.Start want) s was.row) k)
holds c w limits s caller (call.Dialed want link now) o e k =
    let was = dialed_was limits s caller want link now o e in
    held_on c w o _ was.same (dialed_holds c w limits s was.row want link now (eqb-true was.row.want want (found_passes (dials_for want) s.dials was.row was.found)) (said_on c w (call.Dialed want link now) o _ was.same k))
holds c w limits s caller (call.DialFailed want) o e k = let was = failed_was limits s caller want o e in absurd (says_none c w (call.DialFailed want) o _ was.same (failed_says (call.DialFailed want) limits s was.row) k)
holds c w limits s caller (call.Cancel want now) o e k = cancel_holds c w limits s caller want now o (cancel_was limits s caller want now o e) k
holds c w limits s caller (call.GiveBack conn now) o e k =
    let was = back_was limits s caller conn now o e in
    held_on c w o _ was.same (back_holds c w limits s was.row conn now (number_is conn s was.row was.found) (said_on c w (call.GiveBack conn now) o _ was.same k))
holds c w limits s caller (call.Drop conn) o e k = let was = drop_was limits s caller conn o e in absurd (says_none c w (call.Drop conn) o _ was.same (drop_says (call.Drop conn) limits s was.row) k)
holds c w limits s caller (call.Expire now) o e k = let was = expire_was limits s caller now o e in absurd (says_none c w (call.Expire now) o _ was.same refl k)
holds c w limits s caller call.CloseIdle o e k = let was = close_was limits s caller o e in absurd (says_none c w call.CloseIdle o _ was.same refl k)

-- a connection stands in one row
one_among : (n : ℕ) (a : ConnRow) (xs : List ConnRow) → Among a xs → a.conn ≡ n → 1 ≤ sum_by (conn_weight (con_of n)) xs
one_among n a [] m e = absurd m
one_among n a (x ∷ xs) (inl same) e = let here : one n x.conn ≡ 1 = ap (λ (r : ConnRow). one n r.conn) same ∙ ap (λ k. one n k) e ∙ one_same n in omega (arith, sum_by-cons (conn_weight (con_of n)) x xs, here)
one_among n a (x ∷ xs) (inr m) e = omega (arith, sum_by-cons (conn_weight (con_of n)) x xs, one_among n a xs m e)

same_row : (n : ℕ) (a b : ConnRow) (xs : List ConnRow) → sum_by (conn_weight (con_of n)) xs ≤ 1 → Among a xs → Among b xs → a.conn ≡ n → b.conn ≡ n → a ≡ b
same_row n a b [] l m k e f = absurd m
same_row n a b (x ∷ xs) l (inl p) (inl q) e f = sym p ∙ q
same_row n a b (x ∷ xs) l (inl p) (inr k) e f = absurd (let here : one n x.conn ≡ 1 = ap (λ (r : ConnRow). one n r.conn) p ∙ ap (λ k. one n k) e ∙ one_same n in omega (arith, sum_by-cons (conn_weight (con_of n)) x xs, here, one_among n b xs k f, l))
same_row n a b (x ∷ xs) l (inr m) (inl q) e f = absurd (let here : one n x.conn ≡ 1 = ap (λ (r : ConnRow). one n r.conn) q ∙ ap (λ k. one n k) f ∙ one_same n in omega (arith, sum_by-cons (conn_weight (con_of n)) x xs, here, one_among n a xs m e, l))
same_row n a b (x ∷ xs) l (inr m) (inr k) e f = same_row n a b xs (omega (arith, sum_by-cons (conn_weight (con_of n)) x xs, l)) m k e f

few_conns : (n : ℕ) (s : State) → sum_by (conn_weight (con_of n)) s.conns ≤ weight (con_of n) s
unfolding weight
few_conns n s = omega arith

pub unique : (n : ℕ) (s : State) (a b : ConnRow) → Numbers s → Among a s.conns → Among b s.conns → a.conn ≡ n → b.conn ≡ n → a ≡ b
unique n s a b k m l e f = same_row n a b s.conns (omega (arith, few_conns n s, k.con n)) m l e f

not_new : (c w : ℕ) (s : State) → Numbers s → Held c w s → s.next_conn ≡ c → ⊥
not_new c w s k h e = omega (arith, one_among c h.row s.conns h.there h.number, few_conns c s, k.con_new c (omega (arith, e)))

-- a connection that is held isn't put out, unless the entry takes it back
want_not_by : (c w v : ℕ) (limits : Limits) (s : State) (caller host now : ℕ) (o : Option ConnRow) (t : State) → Newest s host o t → Numbers s → Held c w s → Says c v (call.Want host now) (want_by limits caller host now (o, t)) → ⊥
unfolding want_by want_new want_idle
want_not_by c w v limits s caller host now None t n k h q = new_says c v t caller host now (is_free limits t host) q
want_not_by c w v limits s caller host now (Some row) t n k h q =
    let number = (idle_holds c v t caller host now row t.conns (is_expired limits (since_of row.place) now) q).1 in
    out_of_idle w h.row row h.out n.idle (unique c s h.row row k h.there (found_among (rests_for_since_stamp host n.stamp) row s.conns n.found) h.number number)

want_not : (c w v : ℕ) (limits : Limits) (s : State) (caller host now : ℕ) → Numbers s → Held c w s → Says c v (call.Want host now) (want_step limits s caller host now) → ⊥
unfolding want_step
want_not c w v limits s caller host now k h q = want_not_by c w v limits s caller host now (take_newest s host).0 (take_newest s host).1 (newest s host) k h q

dialed_not_by : (c v : ℕ) (limits : Limits) (s : State) (dial : DialRow) (want link now : ℕ) (o : Option WantRow) → Says c v (call.Dialed want link now) (dialed_to limits s dial link now o) → s.next_conn ≡ c
unfolding dialed_to
dialed_not_by c v limits s dial want link now (Some row) q = (let e = q.0 in cc)
dialed_not_by c v limits s dial want link now None q = (let e = q.0 in cc)

dialed_not : (c v : ℕ) (limits : Limits) (s : State) (dial : DialRow) (want link now : ℕ) → Says c v (call.Dialed want link now) (dialed_row limits s dial link now) → s.next_conn ≡ c
unfolding dialed_row
dialed_not c v limits s dial want link now q = dialed_not_by c v limits (record s { dials = remove_first (dials_for dial.want) s.dials }) dial want link now (find (wants_it dial.want) s.wants) q

cancel_conn_not : (c w v : ℕ) (limits : Limits) (s : State) (want now : ℕ) (row : ConnRow) → find (is_with want) s.conns ≡ Some row → Numbers s → Held c w s → (want ≡ w → ⊥) → Says c v (call.Cancel want now) (cancel_conn limits s want row now) → ⊥
unfolding cancel_conn
cancel_conn_not c w v limits s want now row f k h n q =
    let number : row.conn ≡ c = (let e = q.0 in cc) in
    let same = unique c s h.row row k h.there (found_among (is_with want) row s.conns f) h.number number in
    n (out_same w want row.place (let at : is_with w row ≡ true = ap (is_with w) (sym same) ∙ h.out in at) (found_passes (is_with want) s.conns row f))

back_not : (c v : ℕ) (limits : Limits) (s : State) (row : ConnRow) (conn now : ℕ) → Says c v (call.GiveBack conn now) (back_row limits s row now) → conn ≡ c
unfolding back_row
back_not c v limits s row conn now q = (let e = q.0 in cc)

cancel_not : (c w v : ℕ) (limits : Limits) (s : State) (caller want now : ℕ) (o : Outcome) → CancelRowWas limits s caller want o ⊎ CancelConnWas limits s caller want now o → Numbers s → Held c w s → (want ≡ w → ⊥) → Says c v (call.Cancel want now) o → ⊥
cancel_not c w v limits s caller want now o (inl was) k h n q = says_none c v (call.Cancel want now) o _ was.same (cancel_says (call.Cancel want now) limits s was.row) q
cancel_not c w v limits s caller want now o (inr was) k h n q = cancel_conn_not c w v limits s want now was.row was.found k h n (said_on c v (call.Cancel want now) o _ was.same q)

puts_not : (c w v : ℕ) (limits : Limits) (s : State) (caller : ℕ) (asked : Call) (o : Outcome) → step limits s caller asked ≡ Some o → Numbers s → Held c w s → takes_out c w asked ≡ false → Says c v asked o → ⊥
puts_not c w v limits s caller (call.Want host now) o e k h t q = want_not c w v limits s caller host now k h (said_on c v (call.Want host now) o _ (want_was limits s caller host now o e) q)
puts_not c w v limits s caller (call.Start want) o e k h t q = let was = start_was limits s caller want o e in says_none c v (call.Start want) o _ was.same (start_says (call.Start want) s was.row) q
puts_not c w v limits s caller (call.Dialed want link now) o e k h t q = let was = dialed_was limits s caller want link now o e in not_new c w s k h (dialed_not c v limits s was.row want link now (said_on c v (call.Dialed want link now) o _ was.same q))
puts_not c w v limits s caller (call.DialFailed want) o e k h t q = let was = failed_was limits s caller want o e in says_none c v (call.DialFailed want) o _ was.same (failed_says (call.DialFailed want) limits s was.row) q
puts_not c w v limits s caller (call.Cancel want now) o e k h t q = cancel_not c w v limits s caller want now o (cancel_was limits s caller want now o e) k h (not_same want w t) q
puts_not c w v limits s caller (call.GiveBack conn now) o e k h t q = let was = back_was limits s caller conn now o e in not_same conn c t (back_not c v limits s was.row conn now (said_on c v (call.GiveBack conn now) o _ was.same q))
puts_not c w v limits s caller (call.Drop conn) o e k h t q = let was = drop_was limits s caller conn o e in says_none c v (call.Drop conn) o _ was.same (drop_says (call.Drop conn) limits s was.row) q
puts_not c w v limits s caller (call.Expire now) o e k h t q = let was = expire_was limits s caller now o e in says_none c v (call.Expire now) o _ was.same refl q
puts_not c w v limits s caller call.CloseIdle o e k h t q = let was = close_was limits s caller o e in says_none c v call.CloseIdle o _ was.same refl q

-- along the entries between
pub or_false : (a b : Bool) → (a || b) ≡ false → (a ≡ false) × (b ≡ false)
or_false true b e = absurd (cc)
or_false false b e = (refl, e)

abbrev Stands : ℕ → ℕ → State → Type 0
Stands c w s = Numbers s × Held c w s

stands_along : (c w : ℕ) (limits : Limits) (s : State) (h : List Entry) → LegalFrom limits s h → list_any (takes_back c w) h ≡ false → Stands c w s → Stands c w (after_from limits s h)
stands_along c w limits s [] l t k = k
stands_along c w limits s (e ∷ h) l t k =
    let st = steps limits s e l.0 in
    let two = or_false (takes_back c w e) (list_any (takes_back c w) h) t in
    let next : Stands c w st.outcome.state = (step_numbers limits s e.caller e.call st.outcome st.fits k.0, held c w s st.outcome.state k.1 (keeps c w limits s e.caller e.call st.outcome st.fits two.0 k.1)) in
    stands_along c w limits (moved limits s e) h l.1 two.1 (subst (Stands c w) (sym st.state) next)

number_named : (n : ℕ) (o : Option ℕ) → is_number n o ≡ true → o ≡ Some n
number_named n None e = absurd (cc)
number_named n (Some m) e = ap (λ k. Some k) (eqb-true m n e)

says_of : (c w : ℕ) (e : Entry) (o : Outcome) → o.reply ≡ e.reply → puts_out c w e ≡ true → Says c w e.call o
says_of c w e o r p = (
  ap (λ x. moved_conn e.call x) r ∙ number_named c (moved_conn e.call e.reply) (and_left (is_number c (moved_conn e.call e.reply)) (serves w e) p),
  ap (λ x. served_want e.call x) r ∙ number_named w (served_want e.call e.reply) (and_right (is_number c (moved_conn e.call e.reply)) (serves w e) p),
)

taken_from : (limits : Limits) (s : State) (between later : List Entry) (first second : Entry) (c w v : ℕ) → Numbers s → LegalFrom limits s (first ∷ (between ++ second ∷ later)) → puts_out c w first ≡ true → puts_out c v second ≡ true → list_any (takes_back c w) between ≡ false → takes_back c w second ≡ false → ⊥
taken_from limits s between later first second c w v k l p q free last_free =
    let one_step = steps limits s first l.0 in
    let put : Stands c w one_step.outcome.state = (step_numbers limits s first.caller first.call one_step.outcome one_step.fits k, holds c w limits s first.caller first.call one_step.outcome one_step.fits (says_of c w first one_step.outcome one_step.reply p)) in
    let two = legal_split limits (moved limits s first) between (second ∷ later) l.1 in
    let still : Stands c w (after_from limits (moved limits s first) between) = stands_along c w limits (moved limits s first) between two.0 free (subst (Stands c w) (sym one_step.state) put) in
    let next = steps limits (after_from limits (moved limits s first) between) second two.1.0 in
    puts_not c w v limits (after_from limits (moved limits s first) between) second.caller second.call next.outcome next.fits still.0 still.1 last_free (says_of c v second next.outcome next.reply q)

taken_by : (limits : Limits) (s : State) (between later : List Entry) (first second : Entry) (c w v : ℕ) (a b : Bool) → list_any (takes_back c w) between ≡ a → takes_back c w second ≡ b → Numbers s → LegalFrom limits s (first ∷ (between ++ second ∷ later)) → puts_out c w first ≡ true → puts_out c v second ≡ true → (a || (b || false)) ≡ true
taken_by limits s between later first second c w v true b e f k l p q = refl
taken_by limits s between later first second c w v false true e f k l p q = refl
taken_by limits s between later first second c w v false false e f k l p q = absurd (taken_from limits s between later first second c w v k l p q e f)

pub conns_are_taken_back : (limits : Limits) (before between later : List Entry) (first second : Entry) (c w v : ℕ) → IsLegal limits (before ++ first ∷ (between ++ second ∷ later)) → puts_out c w first ≡ true → puts_out c v second ≡ true → list_any (takes_back c w) (between ++ second ∷ []) ≡ true
unfolding IsLegal
conns_are_taken_back limits before between later first second c w v l p q =
    let two = legal_split limits empty before (first ∷ (between ++ second ∷ later)) l in
    list_any-append (takes_back c w) between (second ∷ [])
    ∙ taken_by limits (after_from limits empty before) between later first second c w v (list_any (takes_back c w) between) (takes_back c w second) refl refl
    (along limits Numbers (λ s e o f r k. step_numbers limits s e.caller e.call o f k) empty before two.0 empty_numbers) two.1 p q

-- a row that is out stays as it is
abbrev Keeping : ConnRow → State → Type 0
Keeping row s = Numbers s × Among row s.conns

row_along : (w : ℕ) (limits : Limits) (s : State) (row : ConnRow) (h : List Entry) → is_with w row ≡ true → LegalFrom limits s h → list_any (takes_back row.conn w) h ≡ false → Keeping row s → Keeping row (after_from limits s h)
row_along w limits s row [] o l t k = k
row_along w limits s row (e ∷ h) o l t k =
    let st = steps limits s e l.0 in
    let two = or_false (takes_back row.conn w e) (list_any (takes_back row.conn w) h) t in
    let here : Held row.conn w s = record { row = row; there = k.1; number = refl; out = o } in
    let next : Keeping row st.outcome.state = (step_numbers limits s e.caller e.call st.outcome st.fits k.0, keeps row.conn w limits s e.caller e.call st.outcome st.fits two.0 here) in
    row_along w limits (moved limits s e) row h o l.1 two.1 (subst (Keeping row) (sym st.state) next)

found_row : (s : State) (row : ConnRow) → Keeping row s → find (has_number row.conn) s.conns ≡ Some row
found_row s row k =
    let found = is_found (has_number row.conn) s.conns row k.1 (eq-eqb row.conn row.conn refl) in
    let number : found.0.conn ≡ row.conn = number_is row.conn s found.0 found.1 in
    found.1 ∙ ap (λ r. Some r) (unique row.conn s found.0 row k.0 (found_among (has_number row.conn) found.0 s.conns found.1) k.1 number refl)

pub out_conns_stay : (limits : Limits) (before between : List Entry) (row : ConnRow) (w : ℕ) → IsLegal limits (before ++ between) → find (has_number row.conn) (after limits before).conns ≡ Some row → is_with w row ≡ true → list_any (takes_back row.conn w) between ≡ false → find (has_number row.conn) (after limits (before ++ between)).conns ≡ Some row
unfolding IsLegal after
out_conns_stay limits before between row w l f o t =
    let two = legal_split limits empty before between l in
    let numbers = along limits Numbers (λ s e x g r k. step_numbers limits s e.caller e.call x g k) empty before two.0 empty_numbers in
    let same = after_split limits empty before between in
    rw same (found_row (after_from limits (after_from limits empty before) between) row (row_along w limits (after_from limits empty before) row between o two.1 t (numbers, found_among (has_number row.conn) row (after_from limits empty before).conns f)))
