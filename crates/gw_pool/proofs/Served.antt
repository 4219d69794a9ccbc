-- A want is served once at most, and one that ended has no row.
use Rattle.std.proofs.Common.{◌≡◌, ℕ, ◌+◌, ◌<◌, ◌≤◌, ◌==◌, ◌||◌, ◌⊎◌, inl, inr, Bool, true, false, List, [], ◌∷◌, ◌++◌, Option, Some, None, refl, ap, sym, ◌∙◌, arith, cond, nat_lt, ltb-true, ltb-false, eq-eqb, eqb-true, subst}
use Rattle.std.specs.List.{find, sum_by, count_by, list_any}
use Rattle.std.proofs.lemmas.List.Sums.{sum_by-cons, sum_by_push}
use Rattle.std.proofs.lemmas.List.Folds.{list_any-append}
use Rattle.gw_pool.specs.declared.limits.Limits.{Limits}
use Rattle.gw_pool.specs.declared.entry.Entry.{Entry}
use Rattle.gw_pool.specs.declared.entry.Call.{Call}
use Rattle.gw_pool.specs.declared.entry.Call.TheVariants as call
use Rattle.gw_pool.specs.declared.entry.Reply.TheVariants as reply
use Rattle.gw_pool.specs.declared.rows.Stage.{Stage}
use Rattle.gw_pool.specs.declared.rows.Stage.TheVariants.{Waiting, Granted, Dialing}
use Rattle.gw_pool.specs.declared.rows.Place.{Place}
use Rattle.gw_pool.specs.declared.rows.Place.TheVariants.{Out, Idle}
use Rattle.gw_pool.specs.declared.rows.WantRow.{WantRow}
use Rattle.gw_pool.specs.declared.rows.ConnRow.{ConnRow}
use Rattle.gw_pool.specs.declared.rows.DialRow.{DialRow}
use Rattle.gw_pool.specs.Places.{is_granted, since_of}
use Rattle.gw_pool.specs.State.{State, empty, remove_first, least_want, wants_host, wants_as, wants_it, dials_for, is_with, has_number, is_free, is_expired, rests, rests_for, rests_for_since_stamp, take_oldest, take_newest}
use Rattle.gw_pool.specs.Offer.{Offered, evict, evict_row, rest, freed, served, offer_to, offer_conn}
use Rattle.gw_pool.specs.Machine.{Outcome, replied, step, want_new, want_idle, want_by, want_step, start_row, dialed_conn, dialed_to, dialed_row, failed_to, failed_row, cancel_row, cancel_conn, back_row, drop_row}
use Rattle.gw_pool.specs.Laws.{offered_to, served_want, is_number, serves, gives_up, ends}
use Rattle.gw_pool.specs.Ties.{Among, Weigh, one, bit, occ_of, dia_of}
use Rattle.gw_pool.specs.History.{IsLegal, after}
use Rattle.gw_pool.proofs.Edits.{found_passes}
use Rattle.gw_pool.proofs.Room.{Picked, picked, lost, removed, sum_left, and_both}
use Rattle.gw_pool.proofs.Ties.{decide, one_same, one_other}
use Rattle.gw_pool.proofs.Shelves.{out_at}
use Rattle.gw_pool.proofs.Finds.{and_right, Newest, newest}
use Rattle.gw_pool.proofs.Weights.{Lessens, weight, want_weight, conn_weight, stage_weight, place_weight, freed_keeps, rest_keeps, offer_keeps, grant_keeps, start_less, failed_less, cancel_less, drop_less, cancel_conn_less, oldest_keeps, without_want, without_dial, dial_found}
use Rattle.gw_pool.proofs.Numbers.{Numbers, step_numbers, empty_numbers, weaken}
use Rattle.gw_pool.proofs.Inverts.{want_was, start_was, dialed_was, failed_was, cancel_was, back_was, drop_was, expire_was, close_was, CancelRowWas, CancelConnWas}
use Rattle.gw_pool.proofs.Walk.{walk}

-- how many want rows a want has
pub row_start : (k w : ℕ) → one k w + 0 ≤ one k w
row_start k w = omega arith

pub row_serve : (k w : ℕ) → 0 ≤ one k w
row_serve k w = omega arith

abbrev pub row_of : ℕ → Weigh
row_of k = record { want = one k; dialing = one k; dial = λ _. 0; conn = λ _. 0; out = λ _. 0; start = row_start k; serve = row_serve k }

abbrev pub rows : ℕ → State → ℕ
rows w s = weight (row_of w) s

stage_is : (w : ℕ) (stage : Stage) (n : ℕ) → stage_weight (row_of w) stage n ≡ one w n
stage_is w Waiting n = refl
stage_is w Granted n = refl
stage_is w Dialing n = refl

-- what an offer serves loses its row
offer_bit : ℕ → Offered → ℕ
offer_bit w o = bit (is_number w (offered_to o.offer))

evict_none : (p : Option ConnRow × State) → offered_to (evict_row p).offer ≡ None
evict_none (None, s) = refl
evict_none (Some row, s) = refl

evict_by : (b : Bool) (p : Option ConnRow × State) (o : Offered) → offered_to o.offer ≡ None → offered_to (cond b (evict_row p) o).offer ≡ None
evict_by true p o e = evict_none p
evict_by false p o e = e

either : (b : Bool) (o p : Offered) → offered_to o.offer ≡ None → offered_to p.offer ≡ None → offered_to (cond b o p).offer ≡ None
either true o p e f = e
either false o p e f = f

evict_serves : (limits : Limits) (s : State) → offered_to (evict limits s).offer ≡ None
unfolding evict
evict_serves limits s = evict_by (nat_lt limits.idle_total (count_by rests s.conns)) (take_oldest s) _ refl

rest_serves : (limits : Limits) (s : State) (row : ConnRow) (now : ℕ) → offered_to (rest limits s row now).offer ≡ None
unfolding rest
rest_serves limits s row now = either (nat_lt (count_by (rests_for row.host) s.conns) limits.idle_per_host) _ _ (evict_serves limits _) refl

as_weight : (w host want : ℕ) (row : WantRow) → wants_as host want row ≡ true → one w want ≤ want_weight (row_of w) row
as_weight w host want row h =
    let same : row.want ≡ want = eqb-true row.want want (and_right (row.host == host) (row.want == want) h) in
    omega (arith, stage_is w row.stage row.want, ap (λ n. one w n) same)

given : (w : ℕ) (s : State) (row : ConnRow) (want : WantRow) → Among want s.wants → rows w (record s { wants = remove_first (wants_as want.host want.want) s.wants; conns = s.conns ++ record row { place = Out want.want want.caller } ∷ [] }) + one w want.want ≤ rows w s
unfolding weight
given w s row want m =
    let less = lost (want_weight (row_of w)) (wants_as want.host want.want) (one w want.want) s.wants want (as_weight w want.host want.want)
    (and_both (want.host == want.host) (want.want == want.want) (eq-eqb want.host want.host refl) (eq-eqb want.want want.want refl)) m in
    omega (arith, less, sum_by_push (conn_weight (row_of w)) s.conns (record row { place = Out want.want want.caller }))

served_bit : (w want : ℕ) (p : Option ℕ × State) (n : ℕ) → rows w p.1 + one w want ≤ n → offer_bit w (served want p) + rows w (served want p).state ≤ n
unfolding offer_bit
served_bit w want (next, u) n l = omega (arith, l)

offer_by : (w : ℕ) (limits : Limits) (s : State) (row : ConnRow) (now host : ℕ) (o : Option WantRow) → ((r : WantRow) → o ≡ Some r → Picked (wants_host host) s.wants r) → offer_bit w (offer_to limits s row now o) + rows w (offer_to limits s row now o).state ≤ rows w s
unfolding offer_to offer_bit
offer_by w limits s row now host None k = omega (arith, ap (λ o. bit (is_number w o)) (rest_serves limits s row now), (rest_keeps (row_of w) limits s row now).weight)
offer_by w limits s row now host (Some want) k =
    let t = record s { wants = remove_first (wants_as want.host want.want) s.wants; conns = s.conns ++ record row { place = Out want.want want.caller } ∷ [] } in
    served_bit w want.want (freed limits t want) (rows w s) (omega (arith, given w s row want (k want refl).among, (freed_keeps (row_of w) limits t want).weight))

offer_serves : (w : ℕ) (limits : Limits) (s : State) (row : ConnRow) (now : ℕ) → offer_bit w (offer_conn limits s row now) + rows w (offer_conn limits s row now).state ≤ rows w s
unfolding offer_conn least_want
offer_serves w limits s row now = offer_by w limits s (record row { reused = true }) now row.host (least_want s row.host) (λ r e. picked (wants_host row.host) s.wants r e)

-- what a step serves loses its row, or had none since its number is new
abbrev served_bits : ℕ → Call → Outcome → ℕ
served_bits w asked o = bit (is_number w (served_want asked o.reply))

abbrev Serving : ℕ → State → Call → Outcome → Type 0
Serving w s asked o =
    ((served_bits w asked o + rows w o.state ≤ rows w s) × (o.state.next_want ≡ s.next_want))
    ⊎ ((served_bits w asked o + rows w o.state ≤ rows w s + one w s.next_want) × (o.state.next_want ≡ s.next_want + 1))

-- rows of connections weigh nothing
same_rows : (w : ℕ) (s t : State) → t.wants ≡ s.wants → t.dials ≡ s.dials → t.conns ≡ s.conns → rows w t ≡ rows w s
unfolding weight
same_rows w s t a b c = rw (a, b, c) refl

gone_rows : (w : ℕ) (s : State) (test : ConnRow → Bool) → rows w (record s { conns = remove_first test s.conns }) ≤ rows w s
unfolding weight
gone_rows w s test = omega (arith, sum_left (conn_weight (row_of w)) test s.conns)

pushed_rows : (w : ℕ) (s : State) (row : WantRow) → rows w (record s { wants = s.wants ++ row ∷ []; next_want = s.next_want + 1 }) ≡ rows w s + one w row.want
unfolding weight
pushed_rows w s row = omega (arith, sum_by_push (want_weight (row_of w)) s.wants row, stage_is w row.stage row.want)

out_rows : (w : ℕ) (s : State) (row : ConnRow) (want caller n m : ℕ) → rows w (record s { conns = s.conns ++ record row { place = Out want caller } ∷ []; next_want = n; next_conn = m }) ≡ rows w s
unfolding weight
out_rows w s row want caller n m = omega (arith, sum_by_push (conn_weight (row_of w)) s.conns (record row { place = Out want caller }))

-- a want
new_by : (w : ℕ) (s : State) (caller host now : ℕ) (b : Bool) → Serving w s (call.Want host now) (cond {A = Outcome} b (record { reply = reply.Granted s.next_want; gone = None; state = record s { wants = s.wants ++ (record { want = s.next_want; host = host; caller = caller; stage = Granted }) ∷ []; next_want = s.next_want + 1 } }) (record { reply = reply.Waiting s.next_want; gone = None; state = record s { wants = s.wants ++ (record { want = s.next_want; host = host; caller = caller; stage = Waiting }) ∷ []; next_want = s.next_want + 1 } }))
new_by w s caller host now true = inr (omega (arith, pushed_rows w s (record { want = s.next_want; host = host; caller = caller; stage = Granted })), refl)
new_by w s caller host now false = inr (omega (arith, pushed_rows w s (record { want = s.next_want; host = host; caller = caller; stage = Waiting })), refl)

idle_by : (w : ℕ) (s : State) (test : ConnRow → Bool) (caller host now : ℕ) (row : ConnRow) (b : Bool) → Serving w s (call.Want host now) (cond {A = Outcome} b (record { reply = reply.Expired row.conn; gone = Some row; state = record s { conns = remove_first test s.conns } }) (record { reply = reply.Given s.next_want row.conn; gone = None; state = record s { conns = remove_first test s.conns ++ record row { place = Out s.next_want caller } ∷ []; next_want = s.next_want + 1 } }))
idle_by w s test caller host now row true = inl (omega (arith, gone_rows w s test), refl)
idle_by w s test caller host now row false =
    let t = record s { conns = remove_first test s.conns } in
    inr (omega (arith, gone_rows w s test, out_rows w t row s.next_want caller (s.next_want + 1) s.next_conn), refl)

want_with : (w : ℕ) (limits : Limits) (s : State) (caller host now : ℕ) (o : Option ConnRow) (t : State) → Newest s host o t → Serving w s (call.Want host now) (want_by limits caller host now (o, t))
unfolding want_by want_new want_idle
want_with w limits s caller host now None t n = let same = n.state in rw same (new_by w s caller host now (is_free limits s host))
want_with w limits s caller host now (Some row) t n = let same = n.state in rw same (idle_by w s (rests_for_since_stamp host n.stamp) caller host now row (is_expired limits (since_of row.place) now))

want_serves : (w : ℕ) (limits : Limits) (s : State) (caller host now : ℕ) → Serving w s (call.Want host now) (want_step limits s caller host now)
unfolding want_step
want_serves w limits s caller host now = want_with w limits s caller host now (take_newest s host).0 (take_newest s host).1 (newest s host)

-- a dial that gave a connection
dialed_by : (w : ℕ) (limits : Limits) (s : State) (dial : DialRow) (want link now : ℕ) (o : Option WantRow) → dial.want ≡ want → find (wants_it dial.want) s.wants ≡ o → Serving w s (call.Dialed want link now) (dialed_to limits s dial link now o)
unfolding dialed_to dialed_conn offer_bit
dialed_by w limits s dial want link now (Some row) e f =
    let t = record s { wants = remove_first (wants_it dial.want) s.wants } in
    let new : ConnRow = record { conn = s.next_conn; host = dial.host; link = link; reused = false; place = Out dial.want dial.caller } in
    let same : row.want ≡ dial.want = eqb-true row.want dial.want (found_passes (wants_it dial.want) s.wants row f) in
    inl (omega (arith, without_want (row_of w) s row (wants_it dial.want) f, stage_is w row.stage row.want, ap (λ n. one w n) (same ∙ e), out_rows w t new dial.want dial.caller s.next_want (s.next_conn + 1)), refl)
dialed_by w limits s dial want link now None e f =
    let t = record s { next_conn = s.next_conn + 1 } in
    inl (omega (arith, offer_serves w limits t (dialed_conn s dial link) now, same_rows w s t refl refl refl), (offer_keeps (row_of w) limits t (dialed_conn s dial link) now).next_want)

dialed_serves : (w : ℕ) (limits : Limits) (s : State) (dial : DialRow) (want link now : ℕ) → dial.want ≡ want → find (dials_for dial.want) s.dials ≡ Some dial → Serving w s (call.Dialed want link now) (dialed_row limits s dial link now)
unfolding dialed_row
dialed_serves w limits s dial want link now e f =
    let t = record s { dials = remove_first (dials_for dial.want) s.dials } in
    let less : rows w t ≤ rows w s = omega (arith, without_dial (row_of w) s dial (dials_for dial.want) f) in
    elim (dialed_by w limits t dial want link now (find (wants_it dial.want) s.wants) e refl) [
      | inl k ↦ inl (omega (arith, k.0, less), k.1)
      | inr k ↦ inr (omega (arith, k.0, less), k.1)
    ]

-- connections that come back
back_serves : (w : ℕ) (limits : Limits) (s : State) (row : ConnRow) (conn now : ℕ) → Serving w s (call.GiveBack conn now) (back_row limits s row now)
unfolding back_row offer_bit
back_serves w limits s row conn now =
    let t = record s { conns = remove_first (has_number row.conn) s.conns } in
    inl (omega (arith, offer_serves w limits t row now, gone_rows w s (has_number row.conn)), (offer_keeps (row_of w) limits t row now).next_want)

cancel_conn_serves : (w : ℕ) (limits : Limits) (s : State) (want now : ℕ) (row : ConnRow) → Serving w s (call.Cancel want now) (cancel_conn limits s want row now)
unfolding cancel_conn offer_bit
cancel_conn_serves w limits s want now row =
    let t = record s { conns = remove_first (is_with want) s.conns } in
    inl (omega (arith, offer_serves w limits t row now, gone_rows w s (is_with want)), (offer_keeps (row_of w) limits t row now).next_want)

-- a step that serves none
none_serves : (w : ℕ) (s : State) (asked : Call) (o p : Outcome) → o ≡ p → served_want asked p.reply ≡ None → Lessens (row_of w) s p.state 0 → Serving w s asked o
none_serves w s asked o p e n l = rw e (inl (omega (arith, l.weight, ap (λ x. bit (is_number w x)) n), l.next_want))

on : (w : ℕ) (s : State) (asked : Call) (o p : Outcome) → o ≡ p → Serving w s asked p → Serving w s asked o
on w s asked o p e k = rw e k

start_none : (asked : Call) (s : State) (row : WantRow) → served_want asked (start_row s row).reply ≡ None
unfolding start_row
start_none asked s row = refl

failed_to_none : (asked : Call) (limits : Limits) (s : State) (dial : DialRow) (o : Option WantRow) → served_want asked (failed_to limits s dial o).reply ≡ None
unfolding failed_to
failed_to_none asked limits s dial (Some row) = refl
failed_to_none asked limits s dial None = refl

failed_none : (asked : Call) (limits : Limits) (s : State) (row : DialRow) → served_want asked (failed_row limits s row).reply ≡ None
unfolding failed_row
failed_none asked limits s row = failed_to_none asked limits (record s { dials = remove_first (dials_for row.want) s.dials }) row (find (wants_it row.want) s.wants)

gone_none : (asked : Call) (b : Bool) (p : Option ℕ × State) (t : State) → served_want asked (cond {A = Outcome} b (replied reply.Gone None p) (record { reply = reply.Gone None; gone = None; state = t })).reply ≡ None
gone_none asked true p t = refl
gone_none asked false p t = refl

cancel_none : (asked : Call) (limits : Limits) (s : State) (row : WantRow) → served_want asked (cancel_row limits s row).reply ≡ None
unfolding cancel_row
cancel_none asked limits s row = gone_none asked (is_granted row.stage) _ _

drop_none : (asked : Call) (limits : Limits) (s : State) (row : ConnRow) → served_want asked (drop_row limits s row).reply ≡ None
unfolding drop_row
drop_none asked limits s row = refl

oldest_less : (g : Weigh) (s : State) → Lessens g s (take_oldest s).1 0
oldest_less g s = let k = oldest_keeps g s in record { weight = omega (arith, k.weight); next_want = k.next_want; next_conn = k.next_conn }

cancel_step : (w : ℕ) (limits : Limits) (s : State) (caller want now : ℕ) (o : Outcome) → CancelRowWas limits s caller want o ⊎ CancelConnWas limits s caller want now o → Serving w s (call.Cancel want now) o
cancel_step w limits s caller want now o (inl was) = none_serves w s (call.Cancel want now) o _ was.same (cancel_none (call.Cancel want now) limits s was.row) (weaken (row_of w) s _ (want_weight (row_of w) was.row) (cancel_less (row_of w) limits s want was.row was.found))
cancel_step w limits s caller want now o (inr was) = on w s (call.Cancel want now) o _ was.same (cancel_conn_serves w limits s want now was.row)

pub step_serves : (w : ℕ) (limits : Limits) (s : State) (caller : ℕ) (asked : Call) (o : Outcome) → step limits s caller asked ≡ Some o → Serving w s asked o
step_serves w limits s caller (call.Want host now) o e = on w s (call.Want host now) o _ (want_was limits s caller host now o e) (want_serves w limits s caller host now)
step_serves w limits s caller (call.Start want) o e = let was = start_was limits s caller want o e in none_serves w s (call.Start want) o _ was.same (start_none (call.Start want) s was.row) (start_less (row_of w) s want was.row was.found was.granted)
step_serves w limits s caller (call.Dialed want link now) o e =
    let was = dialed_was limits s caller want link now o e in
    on w s (call.Dialed want link now) o _ was.same (dialed_serves w limits s was.row want link now (eqb-true was.row.want want (found_passes (dials_for want) s.dials was.row was.found)) (dial_found want s was.row was.found))
step_serves w limits s caller (call.DialFailed want) o e = let was = failed_was limits s caller want o e in none_serves w s (call.DialFailed want) o _ was.same (failed_none (call.DialFailed want) limits s was.row) (weaken (row_of w) s _ 0 (failed_less (row_of w) limits s want was.row was.found))
step_serves w limits s caller (call.Cancel want now) o e = cancel_step w limits s caller want now o (cancel_was limits s caller want now o e)
step_serves w limits s caller (call.GiveBack conn now) o e = let was = back_was limits s caller conn now o e in on w s (call.GiveBack conn now) o _ was.same (back_serves w limits s was.row conn now)
step_serves w limits s caller (call.Drop conn) o e = let was = drop_was limits s caller conn o e in none_serves w s (call.Drop conn) o _ was.same (drop_none (call.Drop conn) limits s was.row) (weaken (row_of w) s _ (conn_weight (row_of w) was.row) (drop_less (row_of w) limits s conn was.row was.found))
step_serves w limits s caller (call.Expire now) o e = let was = expire_was limits s caller now o e in none_serves w s (call.Expire now) o _ was.same refl (oldest_less (row_of w) s)
step_serves w limits s caller call.CloseIdle o e = let was = close_was limits s caller o e in none_serves w s call.CloseIdle o _ was.same refl (oldest_less (row_of w) s)

-- a call that gives a want up leaves it no row
abbrev Ended : ℕ → State → State → Type 0
Ended w s t = (rows w t ≡ 0) × (w < s.next_want)

below_by : (a b : ℕ) (c : Bool) → nat_lt a b ≡ c → (a < b) ⊎ (b ≤ a)
below_by a b true e = inl (ltb-true a b e)
below_by a b false e = inr (ltb-false a b e)

pub below : (a b : ℕ) → (a < b) ⊎ (b ≤ a)
below a b = below_by a b (nat_lt a b) refl

few_rows_by : (w : ℕ) (stage : Stage) (n : ℕ) → stage_weight (row_of w) stage n ≡ stage_weight (occ_of w) stage n
few_rows_by w Waiting n = refl
few_rows_by w Granted n = refl
few_rows_by w Dialing n = refl

few_rows : (w : ℕ) (xs : List WantRow) → sum_by (want_weight (row_of w)) xs ≡ sum_by (want_weight (occ_of w)) xs
few_rows w [] = refl
few_rows w (x ∷ xs) = omega (arith, sum_by-cons (want_weight (row_of w)) x xs, sum_by-cons (want_weight (occ_of w)) x xs, few_rows_by w x.stage x.want, few_rows w xs)

none_at : (w : ℕ) (place : Place) → place_weight (row_of w) place ≡ 0
none_at w (Out want caller) = refl
none_at w (Idle stamp since) = refl

none_of : (w : ℕ) (xs : List ConnRow) → sum_by (conn_weight (row_of w)) xs ≡ 0
none_of w [] = refl
none_of w (x ∷ xs) = omega (arith, sum_by-cons (conn_weight (row_of w)) x xs, none_at w x.place, none_of w xs)

none_dials : (w : ℕ) (xs : List DialRow) → sum_by (λ (r : DialRow). (row_of w).dial r.want) xs ≡ 0
none_dials w [] = refl
none_dials w (x ∷ xs) = omega (arith, sum_by-cons (λ (r : DialRow). (row_of w).dial r.want) x xs, none_dials w xs)

pub rows_few : (w : ℕ) (s : State) → rows w s ≤ weight (occ_of w) s
unfolding weight
rows_few w s = omega (arith, few_rows w s.wants, none_of w s.conns, none_dials w s.dials)

-- a want beside which a connection is out has no row
pub with_rows : (w : ℕ) (s : State) (row : ConnRow) → find (is_with w) s.conns ≡ Some row → rows w s + 1 ≤ weight (occ_of w) s
unfolding weight
with_rows w s row f =
    let out = out_at w row (found_passes (is_with w) s.conns row f) in
    let here : place_weight (occ_of w) row.place ≡ 1 = ap (place_weight (occ_of w)) out.1 ∙ one_same w in
    omega (arith, few_rows w s.wants, none_of w s.conns, none_dials w s.dials, removed (conn_weight (occ_of w)) (is_with w) s.conns row f, here)

pub new_number : (w : ℕ) (s : State) → Numbers s → 1 ≤ weight (occ_of w) s → w < s.next_want
new_number w s n l = elim (below w s.next_want) [ inl b ↦ b | inr a ↦ absurd (omega (arith, l, n.occ_new w a)) ]

pub row_here : (w : ℕ) (s : State) (row : WantRow) → find (wants_it w) s.wants ≡ Some row → want_weight (row_of w) row ≡ 1
row_here w s row f = stage_is w row.stage row.want ∙ ap (λ n. one w n) (eqb-true row.want w (found_passes (wants_it w) s.wants row f)) ∙ one_same w

pub has_row : (w : ℕ) (s : State) (row : WantRow) → find (wants_it w) s.wants ≡ Some row → 1 ≤ rows w s
has_row w s row f = omega (arith, without_want (row_of w) s row (wants_it w) f, row_here w s row f)

no_row_by : (w : ℕ) (s : State) (o : Option WantRow) → find (wants_it w) s.wants ≡ o → rows w s ≡ 0 → o ≡ None
no_row_by w s None f z = refl
no_row_by w s (Some row) f z = absurd (omega (arith, has_row w s row f, z))

pub no_row : (w : ℕ) (s : State) → rows w s ≡ 0 → find (wants_it w) s.wants ≡ None
no_row w s z = no_row_by w s (find (wants_it w) s.wants) refl z

no_rows_step : (w : ℕ) (x : WantRow) (xs : List WantRow) (b : Bool) → wants_it w x ≡ b → cond b (Some x) (find (wants_it w) xs) ≡ None → (find (wants_it w) xs ≡ None → sum_by (want_weight (row_of w)) xs ≡ 0) → sum_by (want_weight (row_of w)) (x ∷ xs) ≡ 0
no_rows_step w x xs true p e k = absurd (cc)
no_rows_step w x xs false p e k = omega (arith, sum_by-cons (want_weight (row_of w)) x xs, stage_is w x.stage x.want, ap bit p, k e)

no_rows : (w : ℕ) (xs : List WantRow) → find (wants_it w) xs ≡ None → sum_by (want_weight (row_of w)) xs ≡ 0
no_rows w [] e = refl
no_rows w (x ∷ xs) e = no_rows_step w x xs (wants_it w x) refl e (no_rows w xs)

none_there : (w : ℕ) (s : State) → find (wants_it w) s.wants ≡ None → rows w s ≡ 0
unfolding weight
none_there w s e = omega (arith, no_rows w s.wants e, none_of w s.conns, none_dials w s.dials)

failed_by : (w : ℕ) (limits : Limits) (s : State) (dial : DialRow) (o : Option WantRow) → dial.want ≡ w → find (wants_it dial.want) s.wants ≡ o → rows w s ≤ 1 → rows w (failed_to limits s dial o).state ≡ 0
unfolding failed_to
failed_by w limits s dial (Some row) e f l =
    let t = record s { wants = remove_first (wants_it dial.want) s.wants } in
    let g : find (wants_it w) s.wants ≡ Some row = (let P : ℕ → Type 0 = λ n. find (wants_it n) s.wants ≡ Some row in subst P e f) in
    omega (arith, without_want (row_of w) s row (wants_it dial.want) f, row_here w s row g, (grant_keeps (row_of w) limits t dial.host).weight, l)
failed_by w limits s dial None e f l =
    let g : find (wants_it w) s.wants ≡ None = (let P : ℕ → Type 0 = λ n. find (wants_it n) s.wants ≡ None in subst P e f) in
    omega (arith, none_there w s g, (grant_keeps (row_of w) limits s dial.host).weight)

failed_ends : (w : ℕ) (limits : Limits) (s : State) (dial : DialRow) → dial.want ≡ w → find (dials_for dial.want) s.dials ≡ Some dial → rows w s ≤ 1 → rows w (failed_row limits s dial).state ≡ 0
unfolding failed_row
failed_ends w limits s dial e f l =
    let t = record s { dials = remove_first (dials_for dial.want) s.dials } in
    failed_by w limits t dial (find (wants_it dial.want) s.wants) e refl (omega (arith, without_dial (row_of w) s dial (dials_for dial.want) f, l))

pub dial_number : (w : ℕ) (s : State) (dial : DialRow) → Numbers s → find (dials_for w) s.dials ≡ Some dial → w < s.next_want
dial_number w s dial n f =
    let same : dial.want ≡ w = eqb-true dial.want w (found_passes (dials_for w) s.dials dial f) in
    let heavy : 1 ≤ weight (dia_of w) s = omega (arith, without_dial (dia_of w) s dial (dials_for w) f, ap (λ m. one w m) same ∙ one_same w) in
    elim (below w s.next_want) [ inl b ↦ b | inr a ↦ absurd (omega (arith, heavy, n.dia_new w a)) ]

cancel_ends : (w : ℕ) (limits : Limits) (s : State) (caller now : ℕ) (o : Outcome) → CancelRowWas limits s caller w o ⊎ CancelConnWas limits s caller w now o → Numbers s → Ended w s o.state
cancel_ends w limits s caller now o (inl was) n =
    let same = was.same in
    let less = (cancel_less (row_of w) limits s w was.row was.found).weight in
    (rw same (omega (arith, less, row_here w s was.row was.found, rows_few w s, n.occ w)), new_number w s n (omega (arith, has_row w s was.row was.found, rows_few w s)))
cancel_ends w limits s caller now o (inr was) n =
    let same = was.same in
    let less = (cancel_conn_less (row_of w) limits s w now was.row was.found).weight in
    let out = with_rows w s was.row was.found in
    (rw same (omega (arith, less, out, n.occ w)), new_number w s n (omega (arith, out)))

call_ends : (w : ℕ) (limits : Limits) (s : State) (caller : ℕ) (asked : Call) (o : Outcome) → step limits s caller asked ≡ Some o → gives_up w asked ≡ true → Numbers s → Ended w s o.state
call_ends w limits s caller (call.Want host now) o e g n = absurd (cc)
call_ends w limits s caller (call.Start want) o e g n = absurd (cc)
call_ends w limits s caller (call.Dialed want link now) o e g n = absurd (cc)
call_ends w limits s caller (call.DialFailed want) o e g n =
    let named : want ≡ w = eqb-true want w g in
    let was = failed_was limits s caller want o e in
    let same = was.same in
    let is_want : was.row.want ≡ w = eqb-true was.row.want want (found_passes (dials_for want) s.dials was.row was.found) ∙ named in
    let found : find (dials_for w) s.dials ≡ Some was.row = (let P : ℕ → Type 0 = λ m. find (dials_for m) s.dials ≡ Some was.row in subst P named was.found) in
    (rw same (failed_ends w limits s was.row is_want (dial_found want s was.row was.found) (omega (arith, rows_few w s, n.occ w))), dial_number w s was.row n found)
call_ends w limits s caller (call.Cancel want now) o e g n =
    let named : want ≡ w = eqb-true want w g in
    let P : ℕ → Type 0 = λ m. step limits s caller (call.Cancel m now) ≡ Some o in
    cancel_ends w limits s caller now o (cancel_was limits s caller w now o (subst P named e)) n
call_ends w limits s caller (call.GiveBack conn now) o e g n = absurd (cc)
call_ends w limits s caller (call.Drop conn) o e g n = absurd (cc)
call_ends w limits s caller (call.Expire now) o e g n = absurd (cc)
call_ends w limits s caller call.CloseIdle o e g n = absurd (cc)

-- along a history
record Told (w : ℕ) (h : List Entry) (s : State) : Type 0 where
  numbers : Numbers s
  once : count_by (serves w) h + rows w s ≤ 1
  new : s.next_want ≤ w → count_by (serves w) h + rows w s ≡ 0
  ended : list_any (ends w) h ≡ true → Ended w s s

or_cases : (a b : Bool) → (a || b) ≡ true → (a ≡ true) ⊎ (b ≡ true)
or_cases true b h = inl refl
or_cases false b h = inr h

told_once : (w : ℕ) (h : List Entry) (s : State) (asked : Call) (o : Outcome) → Serving w s asked o → count_by (serves w) h + rows w s ≤ 1 → (s.next_want ≤ w → count_by (serves w) h + rows w s ≡ 0) → count_by (serves w) h + served_bits w asked o + rows w o.state ≤ 1
told_once w h s asked o (inl k) l new = omega (arith, k.0, l)
told_once w h s asked o (inr k) l new = elim (decide w s.next_want) [
  | inl same ↦ omega (arith, k.0, new (omega (arith, same)), ap (λ n. one w n) (sym same) ∙ one_same w)
  | inr other ↦ omega (arith, k.0, l, one_other w s.next_want other)
]

told_new : (w : ℕ) (h : List Entry) (s : State) (asked : Call) (o : Outcome) → Serving w s asked o → (s.next_want ≤ w → count_by (serves w) h + rows w s ≡ 0) → o.state.next_want ≤ w → count_by (serves w) h + served_bits w asked o + rows w o.state ≡ 0
told_new w h s asked o (inl k) new l = omega (arith, k.0, new (omega (arith, k.1, l)))
told_new w h s asked o (inr k) new l = omega (arith, k.0, new (omega (arith, k.1, l)), one_other w s.next_want (λ same. omega (arith, same, k.1, l)))

told_gone : (w : ℕ) (s : State) (asked : Call) (o : Outcome) → Serving w s asked o → rows w s ≡ 0 → w < s.next_want → Ended w o.state o.state
told_gone w s asked o (inl k) z l = (omega (arith, k.0, z), omega (arith, k.1, l))
told_gone w s asked o (inr k) z l = (omega (arith, k.0, z, one_other w s.next_want (λ same. omega (arith, same, l))), omega (arith, k.1, l))

pub not_less : (w : ℕ) (s : State) (asked : Call) (o : Outcome) → Serving w s asked o → s.next_want ≤ o.state.next_want
not_less w s asked o (inl k) = omega (arith, k.1)
not_less w s asked o (inr k) = omega (arith, k.1)

told_step : (w : ℕ) (limits : Limits) (h : List Entry) (s : State) (e : Entry) (o : Outcome) → step limits s e.caller e.call ≡ Some o → o.reply ≡ e.reply → Told w h s → Told w (h ++ e ∷ []) o.state
told_step w limits h s e o f r k =
    let does = step_serves w limits s e.caller e.call o f in
    let here : served_bits w e.call o ≡ bit (serves w e) = ap (λ x. bit (is_number w (served_want e.call x))) r in
    let count : count_by (serves w) (h ++ e ∷ []) ≡ count_by (serves w) h + bit (serves w e) = sum_by_push (λ y. cond (serves w y) 1 0) h e in
    let once = told_once w h s e.call o does k.once k.new in
    let new = told_new w h s e.call o does k.new in
    record {
      numbers = step_numbers limits s e.caller e.call o f k.numbers;
      once = omega (arith, once, here, count);
      new = λ l. omega (arith, new l, here, count);
      ended = λ any. elim (or_cases (list_any (ends w) h) (ends w e || false) (sym (list_any-append (ends w) h (e ∷ [])) ∙ any)) [
        | inl before ↦ (let was = k.ended before in told_gone w s e.call o does was.0 was.1)
        | inr now ↦ elim (or_cases (ends w e) false now) [
          | inl ends_now ↦ elim (or_cases (serves w e) (gives_up w e.call) ends_now) [
            | inl serves_now ↦ (let yes : bit (serves w e) ≡ 1 = ap bit serves_now in
                (omega (arith, once, here, yes), elim (below w o.state.next_want) [ inl b ↦ b | inr a ↦ absurd (omega (arith, new a, here, yes)) ]))
            | inr up ↦ (let end = call_ends w limits s e.caller e.call o f up k.numbers in (end.0, omega (arith, end.1, not_less w s e.call o does)))
          ]
          | inr never ↦ absurd (cc)
        ]
      ];
    }

empty_told : (w : ℕ) → Told w [] empty
unfolding weight
empty_told w = record { numbers = empty_numbers; once = omega arith; new = λ l. refl; ended = λ any. absurd (cc) }

told : (w : ℕ) (limits : Limits) (h : List Entry) → IsLegal limits h → Told w h (after limits h)
told w limits h l = walk limits (Told w) (told_step w limits) (empty_told w) h l

pub wants_are_served_once : (limits : Limits) (h : List Entry) (want : ℕ) → IsLegal limits h → count_by (serves want) h ≤ 1
wants_are_served_once limits h want l = omega (arith, (told want limits h l).once)

pub ended_wants_have_no_row : (limits : Limits) (h : List Entry) (want : ℕ) → IsLegal limits h → list_any (ends want) h ≡ true → find (wants_it want) (after limits h).wants ≡ None
ended_wants_have_no_row limits h want l any = no_row want (after limits h) ((told want limits h l).ended any).0
