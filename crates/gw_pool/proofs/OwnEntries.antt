-- How a want stands behind an entry of its own caller.
use Rattle.std.proofs.Common.{◌≡◌, ℕ, ◌+◌, ◌<◌, ◌≤◌, ◌==◌, ◌⊎◌, inl, inr, Bool, true, false, List, [], ◌∷◌, ◌++◌, Option, Some, None, refl, ap, sym, ◌∙◌, subst, cond, arith, eqb-true, eq-eqb}
use Rattle.std.specs.List.{find, sum_by}
use Rattle.std.proofs.lemmas.List.Sums.{sum_by-cons}
use Rattle.gw_pool.specs.declared.limits.Limits.{Limits}
use Rattle.gw_pool.specs.declared.entry.Entry.{Entry}
use Rattle.gw_pool.specs.declared.entry.Call.{Call}
use Rattle.gw_pool.specs.declared.entry.Call.TheVariants as call
use Rattle.gw_pool.specs.declared.entry.Reply.{Reply}
use Rattle.gw_pool.specs.declared.entry.Reply.TheVariants as reply
use Rattle.gw_pool.specs.declared.rows.Stage.{Stage}
use Rattle.gw_pool.specs.declared.rows.Stage.TheVariants.{Waiting, Granted, Dialing}
use Rattle.gw_pool.specs.declared.rows.Place.TheVariants.{Out}
use Rattle.gw_pool.specs.declared.rows.WantRow.{WantRow}
use Rattle.gw_pool.specs.declared.rows.ConnRow.{ConnRow}
use Rattle.gw_pool.specs.declared.rows.DialRow.{DialRow}
use Rattle.gw_pool.specs.Offer.{grant}
use Rattle.gw_pool.specs.Places.{is_granted, is_dialing, since_of}
use Rattle.gw_pool.specs.State.{State, remove_first, wants_it, dials_for, is_with, is_free, is_expired, rests_for_since_stamp, take_newest}
use Rattle.gw_pool.specs.Machine.{Outcome, replied, step, want_new, want_idle, want_by, want_step, start_row, dialed_conn, dialed_to, dialed_row, failed_to, failed_row}
use Rattle.gw_pool.specs.History.{IsLegal, after}
use Rattle.gw_pool.specs.Keeps.{IsWanted, IsServed, IsOut, IsDialed, Comes, IsOver, StandsNew, StandsDialed, StandsFailed}
use Rattle.gw_pool.specs.Lent.{entry_of}
use Rattle.gw_pool.specs.Ties.{Among, one, occ_of, dia_of}
use Rattle.gw_pool.proofs.Finds.{is_found, Newest, newest}
use Rattle.gw_pool.proofs.GoingOn.{weight_over}
use Rattle.gw_pool.proofs.Inverts.{want_was, start_was, dialed_was, failed_was}
use Rattle.gw_pool.proofs.Least.{with_none}
use Rattle.gw_pool.proofs.Numbers.{Numbers, legal_numbers}
use Rattle.gw_pool.proofs.Outs.{is_last, dialed_keeps, grant_conns}
use Rattle.gw_pool.proofs.Owns.{found_among}
use Rattle.gw_pool.proofs.Edits.{found_passes}
use Rattle.gw_pool.proofs.RowSteps.{granted, waiting, expired, given}
use Rattle.gw_pool.proofs.Served.{dial_number}
use Rattle.gw_pool.proofs.SoundOffers.{once_of, same_row}
use Rattle.gw_pool.proofs.TieCalls.{start_dials}
use Rattle.gw_pool.proofs.Ties.{one_same}
use Rattle.gw_pool.proofs.TieWant.{stage_at}
use Rattle.gw_pool.proofs.Walk.{Last, last}
use Rattle.gw_pool.proofs.Weights.{weight, want_weight, stage_weight, want_found, dial_found, without_want, without_dial, grant_keeps}

-- the row of a want is the one that is found by its number
pub want_row : (s : State) (w : ℕ) (row : WantRow) → Numbers s → Among row s.wants → row.want ≡ w → find (wants_it w) s.wants ≡ Some row
want_row s w row n m e =
    let found = is_found (wants_it w) s.wants row m (eq-eqb row.want w e) in
    found.1 ∙ ap (λ x. Some x) (same_row w found.0 row s.wants (once_of s n w) (found_among (wants_it w) found.0 s.wants found.1) m (eqb-true found.0.want w (found_passes (wants_it w) s.wants found.0 found.1)) e)

one_dial : (w : ℕ) (a : DialRow) (xs : List DialRow) → Among a xs → a.want ≡ w → 1 ≤ sum_by (λ (r : DialRow). one w r.want) xs
one_dial w a [] m e = absurd m
one_dial w a (x ∷ xs) (inl same) e = let here : one w x.want ≡ 1 = ap (λ (r : DialRow). one w r.want) same ∙ ap (λ n. one w n) e ∙ one_same w in omega (arith, sum_by-cons (λ (r : DialRow). one w r.want) x xs, here)
one_dial w a (x ∷ xs) (inr m) e = omega (arith, sum_by-cons (λ (r : DialRow). one w r.want) x xs, one_dial w a xs m e)

same_dial : (w : ℕ) (a b : DialRow) (xs : List DialRow) → sum_by (λ (r : DialRow). one w r.want) xs ≤ 1 → Among a xs → Among b xs → a.want ≡ w → b.want ≡ w → a ≡ b
same_dial w a b [] l m n e f = absurd m
same_dial w a b (x ∷ xs) l (inl p) (inl q) e f = sym p ∙ q
same_dial w a b (x ∷ xs) l (inl p) (inr n) e f = absurd (let here : one w x.want ≡ 1 = ap (λ (r : DialRow). one w r.want) p ∙ ap (λ k. one w k) e ∙ one_same w in omega (arith, sum_by-cons (λ (r : DialRow). one w r.want) x xs, here, one_dial w b xs n f, l))
same_dial w a b (x ∷ xs) l (inr m) (inl q) e f = absurd (let here : one w x.want ≡ 1 = ap (λ (r : DialRow). one w r.want) q ∙ ap (λ k. one w k) f ∙ one_same w in omega (arith, sum_by-cons (λ (r : DialRow). one w r.want) x xs, here, one_dial w a xs m e, l))
same_dial w a b (x ∷ xs) l (inr m) (inr n) e f = same_dial w a b xs (omega (arith, sum_by-cons (λ (r : DialRow). one w r.want) x xs, l)) m n e f

few_dials : (s : State) (w : ℕ) → Numbers s → sum_by (λ (r : DialRow). one w r.want) s.dials ≤ 1
unfolding weight
few_dials s w n = omega (arith, n.dia w)

-- the dial of a want is the one that is found by its number
dial_row : (s : State) (w host caller : ℕ) (dial : DialRow) → Numbers s → IsDialed w host caller s → find (dials_for w) s.dials ≡ Some dial → dial ≡ record { want = w; host = host; caller = caller }
dial_row s w host caller dial n m f =
    same_dial w dial (record { want = w; host = host; caller = caller }) s.dials (few_dials s w n) (found_among (dials_for w) dial s.dials f) m
    (eqb-true dial.want w (found_passes (dials_for w) s.dials dial f)) refl

-- a connection that is out to a want passes the test
pub out_passes : (w c : ℕ) (row : ConnRow) → row.place ≡ Out w c → is_with w row ≡ true
out_passes w c row p = rw p (eq-eqb w w refl)

-- a served want has no row
pub served_alone : (s : State) (w host caller : ℕ) → Numbers s → IsServed w host caller s → find (wants_it w) s.wants ≡ None
served_alone s w host caller n k =
    let found = is_found (is_with w) s.conns k.row k.out.there (out_passes w caller k.row k.out.place) in
    with_none s w found.0 n found.1

-- behind a new want
new_stands : (s : State) (host caller : ℕ) (b : Bool) → StandsNew host caller (cond b (granted s caller host) (waiting s caller host)).reply (cond b (granted s caller host) (waiting s caller host)).state
new_stands s host caller true = record { row = record { want = s.next_want; host = host; caller = caller; stage = Granted }; there = is_last (record { want = s.next_want; host = host; caller = caller; stage = Granted }) s.wants; is_want = refl; is_host = refl; by = refl; stage = refl }
new_stands s host caller false = record { row = record { want = s.next_want; host = host; caller = caller; stage = Waiting }; there = is_last (record { want = s.next_want; host = host; caller = caller; stage = Waiting }) s.wants; is_want = refl; is_host = refl; by = refl; stage = refl }

idle_stands : (t : State) (host caller : ℕ) (row : ConnRow) (b : Bool) → row.host ≡ host → StandsNew host caller (cond b (expired t row) (given t caller row)).reply (cond b (expired t row) (given t caller row)).state
idle_stands t host caller row true h = tt
idle_stands t host caller row false h = (record row { place = Out t.next_want caller }, refl, h, record { there = is_last (record row { place = Out t.next_want caller }) t.conns; place = refl })

want_with : (limits : Limits) (s : State) (caller host now : ℕ) (o : Option ConnRow) (t : State) → Newest s host o t → StandsNew host caller (want_by limits caller host now (o, t)).reply (want_by limits caller host now (o, t)).state
unfolding want_by want_new want_idle
want_with limits s caller host now None t n = new_stands t host caller (is_free limits t host)
want_with limits s caller host now (Some row) t n = idle_stands t host caller row (is_expired limits (since_of row.place) now) n.is_host

want_stands : (limits : Limits) (s : State) (caller host now : ℕ) → StandsNew host caller (want_step limits s caller host now).reply (want_step limits s caller host now).state
unfolding want_step
want_stands limits s caller host now = want_with limits s caller host now (take_newest s host).0 (take_newest s host).1 (newest s host)

-- said of an outcome, it holds of the history's end
at_end : (P : Reply → State → Type 0) (limits : Limits) (before : List Entry) (e : Entry) → (k : Last limits before e) → P k.outcome.reply k.outcome.state → P e.reply (after limits (before ++ e ∷ []))
at_end P limits before e k p = subst (λ t. P e.reply t) (sym k.state) (subst (λ r. P r k.outcome.state) k.reply p)

on : (P : Reply → State → Type 0) (o p : Outcome) → o ≡ p → P p.reply p.state → P o.reply o.state
on P o p e k = subst (λ (x : Outcome). P x.reply x.state) (sym e) k

pub made_stands : (limits : Limits) (before : List Entry) (caller host now : ℕ) (answer : Reply) → IsLegal limits (before ++ entry_of caller (call.Want host now) answer ∷ []) → StandsNew host caller answer (after limits (before ++ entry_of caller (call.Want host now) answer ∷ []))
made_stands limits before caller host now answer l =
    let at = last limits before (entry_of caller (call.Want host now) answer) l in
    at_end (λ r s. StandsNew host caller r s) limits before (entry_of caller (call.Want host now) answer) at
    (on (λ r s. StandsNew host caller r s) at.outcome (want_step limits (after limits before) caller host now) (want_was limits (after limits before) caller host now at.outcome at.fits)
    (want_stands limits (after limits before) caller host now))

-- behind a dial that begins
start_stands : (s : State) (w host caller : ℕ) (row : WantRow) → row.want ≡ w → row.host ≡ host → row.caller ≡ caller → IsWanted is_dialing w host caller (start_row s row).state × IsDialed w host caller (start_row s row).state
unfolding start_row
start_stands s w host caller row a b c = (
  record { row = record row { stage = Dialing }; there = is_last (record row { stage = Dialing }) (remove_first (wants_it row.want) s.wants); is_want = a; is_host = b; by = c; stage = refl },
  rw (← a, ← b, ← c) (is_last (record { want = row.want; host = row.host; caller = row.caller }) s.dials),
)

comes_row : (test : Stage → Bool) (s : State) (w host caller : ℕ) (row : WantRow) → Numbers s → Comes test w host caller s → find (wants_it w) s.wants ≡ Some row → row.host ≡ host
comes_row test s w host caller row n (inl k) f = let same : Some k.row ≡ Some row = sym (want_row s w k.row n k.there k.is_want) ∙ f in let rows : k.row ≡ row = cc in ap (λ (x : WantRow). x.host) (sym rows) ∙ k.is_host
comes_row test s w host caller row n (inr k) f = absurd (let none = served_alone s w host caller n k in cc)

pub started_stands : (limits : Limits) (before : List Entry) (w host caller : ℕ) (test : Stage → Bool) (answer : Reply) → IsLegal limits (before ++ entry_of caller (call.Start w) answer ∷ []) → Comes test w host caller (after limits before)
    → IsWanted is_dialing w host caller (after limits (before ++ entry_of caller (call.Start w) answer ∷ [])) × IsDialed w host caller (after limits (before ++ entry_of caller (call.Start w) answer ∷ []))
started_stands limits before w host caller test answer l k =
    let s = after limits before in
    let at = last limits before (entry_of caller (call.Start w) answer) l in
    let was = start_was limits s caller w at.outcome at.fits in
    at_end (λ r t. IsWanted is_dialing w host caller t × IsDialed w host caller t) limits before (entry_of caller (call.Start w) answer) at
    (on (λ r t. IsWanted is_dialing w host caller t × IsDialed w host caller t) at.outcome (start_row s was.row) was.same
    (start_stands s w host caller was.row (eqb-true was.row.want w (found_passes (wants_it w) s.wants was.row was.found)) (comes_row test s w host caller was.row (legal_numbers limits before at.legal) k was.found) was.by))

-- behind a dial that gave a connection
served_on : (w host caller : ℕ) (s t : State) → ((row : ConnRow) → is_with w row ≡ true → Among row s.conns → Among row t.conns) → IsServed w host caller s → IsServed w host caller t
served_on w host caller s t f k = record { row = k.row; is_host = k.is_host; out = record { there = f k.row (out_passes w caller k.row k.out.place) k.out.there; place = k.out.place } }

kept_stands : (s : State) (w host caller link : ℕ) (dial : DialRow) → dial ≡ record { want = w; host = host; caller = caller } → IsOut w caller (dialed_conn s dial link) (record s { conns = s.conns ++ dialed_conn s dial link ∷ [] }) × ((dialed_conn s dial link).host ≡ host)
unfolding dialed_conn
kept_stands s w host caller link dial e = (record { there = is_last (dialed_conn s dial link) s.conns; place = ap (λ (x : DialRow). Out x.want x.caller) e }, ap (λ (x : DialRow). x.host) e)

dialed_with : (limits : Limits) (s t : State) (w host caller link now : ℕ) (test : Stage → Bool) (dial : DialRow) (o : Option WantRow) → t.conns ≡ s.conns → dial ≡ record { want = w; host = host; caller = caller } → find (wants_it w) s.wants ≡ o → Numbers s → Comes test w host caller s
    → (IsServed w host caller s → IsServed w host caller (dialed_to limits t dial link now o).state) → StandsDialed w host caller link (dialed_to limits t dial link now o).reply (dialed_to limits t dial link now o).state
unfolding dialed_to dialed_conn
dialed_with limits s t w host caller link now test dial (Some row) c e f n k on =
    let stands = kept_stands t w host caller link dial e in (dialed_conn t dial link, refl, stands.1, refl, refl, record { there = stands.0.there; place = stands.0.place })
dialed_with limits s t w host caller link now test dial None c e f n (inl k) on = absurd (let found = want_row s w k.row n k.there k.is_want in cc)
dialed_with limits s t w host caller link now test dial None c e f n (inr k) on = on k

dialed_found : (limits : Limits) (s : State) (w host caller link now : ℕ) (test : Stage → Bool) (dial : DialRow) → dial ≡ record { want = w; host = host; caller = caller } → Numbers s → Comes test w host caller s
    → (IsServed w host caller s → IsServed w host caller (dialed_row limits s dial link now).state) → StandsDialed w host caller link (dialed_row limits s dial link now).reply (dialed_row limits s dial link now).state
unfolding dialed_row
dialed_found limits s w host caller link now test dial e n k on =
    dialed_with limits s (record s { dials = remove_first (dials_for dial.want) s.dials }) w host caller link now test dial (find (wants_it dial.want) s.wants) refl e (ap (λ (x : DialRow). find (wants_it x.want) s.wants) (sym e)) n k on

dialed_as : (limits : Limits) (s : State) (w host caller link now : ℕ) (test : Stage → Bool) (dial : DialRow) → dial ≡ record { want = w; host = host; caller = caller } → Numbers s → Comes test w host caller s
    → StandsDialed w host caller link (dialed_row limits s dial link now).reply (dialed_row limits s dial link now).state
dialed_as limits s w host caller link now test dial e n k = dialed_found limits s w host caller link now test dial e n k (served_on w host caller s (dialed_row limits s dial link now).state (λ row p m. dialed_keeps w limits s dial link now row p m))

pub dialed_stands : (limits : Limits) (before : List Entry) (w host caller link now : ℕ) (test : Stage → Bool) (answer : Reply) → IsLegal limits (before ++ entry_of caller (call.Dialed w link now) answer ∷ []) → Comes test w host caller (after limits before) → IsDialed w host caller (after limits before)
    → StandsDialed w host caller link answer (after limits (before ++ entry_of caller (call.Dialed w link now) answer ∷ []))
dialed_stands limits before w host caller link now test answer l k d =
    let s = after limits before in
    let at = last limits before (entry_of caller (call.Dialed w link now) answer) l in
    let n = legal_numbers limits before at.legal in
    let was = dialed_was limits s caller w link now at.outcome at.fits in
    at_end (λ r t. StandsDialed w host caller link r t) limits before (entry_of caller (call.Dialed w link now) answer) at
    (on (λ r t. StandsDialed w host caller link r t) at.outcome (dialed_row limits s was.row link now) was.same
    (dialed_as limits s w host caller link now test was.row (dial_row s w host caller was.row n d was.found) n k))

-- behind a dial that failed
ended_pair : (w host caller : ℕ) (p : Option ℕ × State) → IsOver w p.1 → StandsFailed w host caller (replied reply.Ended None p).reply (replied reply.Ended None p).state
ended_pair w host caller (next, u) k = k

late_pair : (w host caller : ℕ) (p : Option ℕ × State) → IsServed w host caller p.1 → StandsFailed w host caller (replied reply.Late None p).reply (replied reply.Late None p).state
late_pair w host caller (next, u) k = k

failed_over : (limits : Limits) (t : State) (w v host : ℕ) (row : WantRow) → v ≡ w → find (wants_it v) t.wants ≡ Some row → w < t.next_want → weight (occ_of w) t ≤ 1 → IsOver w (grant limits (record t { wants = remove_first (wants_it v) t.wants }) host).1
failed_over limits t w v host row e f old l =
    let keeps = grant_keeps (occ_of w) limits (record t { wants = remove_first (wants_it v) t.wants }) host in
    let less = without_want (occ_of w) t row (wants_it v) f in
    let here = stage_at w row (eq-eqb row.want w (eqb-true row.want v (found_passes (wants_it v) t.wants row f) ∙ e)) in
    record { none = weight_over w _ (omega (arith, keeps.weight, less, here, l)); made = omega (arith, old, keeps.next_want) }

failed_with : (limits : Limits) (t : State) (w host caller : ℕ) (test : Stage → Bool) (dial : DialRow) (o : Option WantRow) → dial.want ≡ w → find (wants_it dial.want) t.wants ≡ o → w < t.next_want → weight (occ_of w) t ≤ 1
    → (o ≡ None → IsServed w host caller (grant limits t dial.host).1) → StandsFailed w host caller (failed_to limits t dial o).reply (failed_to limits t dial o).state
unfolding failed_to
failed_with limits t w host caller test dial (Some row) e f old l k = ended_pair w host caller (grant limits (record t { wants = remove_first (wants_it dial.want) t.wants }) dial.host) (failed_over limits t w dial.want dial.host row e f old l)
failed_with limits t w host caller test dial None e f old l k = late_pair w host caller (grant limits t dial.host) (k refl)

comes_served : (test : Stage → Bool) (s : State) (w host caller : ℕ) → Numbers s → Comes test w host caller s → find (wants_it w) s.wants ≡ None → IsServed w host caller s
comes_served test s w host caller n (inl k) f = absurd (let found = want_row s w k.row n k.there k.is_want in cc)
comes_served test s w host caller n (inr k) f = k

failed_as : (limits : Limits) (s : State) (w host caller : ℕ) (test : Stage → Bool) (dial : DialRow) → find (dials_for w) s.dials ≡ Some dial → dial.want ≡ w → Numbers s → Comes test w host caller s
    → StandsFailed w host caller (failed_row limits s dial).reply (failed_row limits s dial).state
unfolding failed_row
failed_as limits s w host caller test dial f e n k =
    let t = record s { dials = remove_first (dials_for dial.want) s.dials } in
    let less = without_dial (occ_of w) s dial (dials_for dial.want) (dial_found w s dial f) in
    failed_with limits t w host caller test dial (find (wants_it dial.want) s.wants) e refl (dial_number w s dial n f) (omega (arith, less, n.occ w))
    (λ none. served_on w host caller s (grant limits t dial.host).1 (λ row p m. rw (grant_conns limits t dial.host) m)
    (comes_served test s w host caller n k (ap (λ v. find (wants_it v) s.wants) (sym e) ∙ none)))

pub failed_stands : (limits : Limits) (before : List Entry) (w host caller : ℕ) (test : Stage → Bool) (answer : Reply) → IsLegal limits (before ++ entry_of caller (call.DialFailed w) answer ∷ []) → Comes test w host caller (after limits before)
    → StandsFailed w host caller answer (after limits (before ++ entry_of caller (call.DialFailed w) answer ∷ []))
failed_stands limits before w host caller test answer l k =
    let s = after limits before in
    let at = last limits before (entry_of caller (call.DialFailed w) answer) l in
    let n = legal_numbers limits before at.legal in
    let was = failed_was limits s caller w at.outcome at.fits in
    at_end (λ r t. StandsFailed w host caller r t) limits before (entry_of caller (call.DialFailed w) answer) at
    (on (λ r t. StandsFailed w host caller r t) at.outcome (failed_row limits s was.row) was.same
    (failed_as limits s w host caller test was.row was.found (eqb-true was.row.want w (found_passes (dials_for w) s.dials was.row was.found)) n k))
