-- The limits hold in each legal state, no connection is idle beside a want, and no want waits beside a free place.
use Rattle.std.proofs.Common.{◌≡◌, ℕ, ◌+◌, ◌<◌, ◌≤◌, ◌==◌, ◌⊎◌, inl, inr, Bool, true, false, List, [], ◌∷◌, ◌++◌, Option, Some, None, refl, ap, sym, ◌∙◌, arith, cond, eqb-true, subst}
use Rattle.std.specs.List.{find, count_by}
use Rattle.gw_pool.specs.declared.limits.Limits.{Limits}
use Rattle.gw_pool.specs.declared.entry.Entry.{Entry}
use Rattle.gw_pool.specs.declared.entry.Call.{Call}
use Rattle.gw_pool.specs.declared.entry.Call.TheVariants as call
use Rattle.gw_pool.specs.declared.entry.Reply.TheVariants as reply
use Rattle.gw_pool.specs.declared.rows.Stage.{Stage}
use Rattle.gw_pool.specs.declared.rows.Stage.TheVariants.{Waiting, Granted, Dialing}
use Rattle.gw_pool.specs.declared.rows.Place.TheVariants.{Out}
use Rattle.gw_pool.specs.declared.rows.WantRow.{WantRow}
use Rattle.gw_pool.specs.declared.rows.ConnRow.{ConnRow}
use Rattle.gw_pool.specs.declared.rows.DialRow.{DialRow}
use Rattle.gw_pool.specs.Places.{is_granted, is_waiting, since_of}
use Rattle.gw_pool.specs.State.{State, empty, remove_first, used, is_free, is_expired, wants_host, waits_for, wants_it, may_dial, dials_for, dials_host, is_with, has_number, rests, rests_for, rests_since_stamp, rests_for_since_stamp, take_newest}
use Rattle.gw_pool.specs.Offer.{grant}
use Rattle.gw_pool.specs.Machine.{Outcome, replied, step, want_new, want_idle, want_by, want_step, start_row, dialed_conn, dialed_to, dialed_row, failed_to, failed_row, cancel_row, cancel_conn, back_row, drop_row}
use Rattle.gw_pool.specs.Ties.{one}
use Rattle.gw_pool.specs.History.{IsLegal, after}
use Rattle.gw_pool.proofs.Edits.{found_passes}
use Rattle.gw_pool.proofs.Ties.{decide, one_same, one_other}
use Rattle.gw_pool.proofs.Room.{removed}
use Rattle.gw_pool.proofs.Finds.{oldest_out, Newest, newest}
use Rattle.gw_pool.proofs.Weights.{weight, want_weight, stage_weight, want_found, conn_found, dial_found}
use Rattle.gw_pool.proofs.Ties.{dia_of}
use Rattle.gw_pool.proofs.Numbers.{Numbers, step_numbers, empty_numbers}
use Rattle.gw_pool.proofs.Walk.{legal_along}
use Rattle.gw_pool.proofs.Inverts.{want_was, start_was, dialed_was, failed_was, cancel_was, back_was, drop_was, expire_was, close_was, CancelRowWas, CancelConnWas, IdleWas}
use Rattle.gw_pool.proofs.Sound.{uses, waits, idles, none, at, Sound, shift, conn_gone, idle_gone, conn_out, free_is, is_free_at, grant_sound, left, more, and_yes, and_no}
use Rattle.gw_pool.proofs.SoundOffers.{Once, once_of, numbered, want_gone, want_gone_granted, offer_sound}

-- a dial's row is taken out: its place is held back
dial_gone : (limits : Limits) (s : State) (test : DialRow → Bool) (row : DialRow) → find test s.dials ≡ Some row → Sound limits none s → Sound limits (at row.host) (record s { dials = remove_first test s.dials })
dial_gone limits s test row f k = shift limits none (at row.host) s (record s { dials = remove_first test s.dials }) k (record {
  uses = λ h. omega (arith, left (dials_host h) test s.dials row f);
  waits = λ h. omega arith;
  wanted = λ h. omega arith;
  idles = λ h. omega arith;
  resting = omega arith;
})

-- start
start_sound : (limits : Limits) (s : State) (row : WantRow) → find (wants_it row.want) s.wants ≡ Some row → is_granted row.stage ≡ true → Sound limits none s → Sound limits none (start_row s row).state
unfolding start_row
start_sound limits s row f g k =
    let gone = remove_first (wants_it row.want) s.wants in
    let now : WantRow = record row { stage = Dialing } in
    let dial : DialRow = record { want = row.want; host = row.host; caller = row.caller } in
    shift limits none none s (record s { wants = gone ++ now ∷ []; dials = s.dials ++ dial ∷ [] }) k (record {
      uses = λ h. omega (arith, left (may_dial h) (wants_it row.want) s.wants row f, and_yes (row.host == h) (is_granted row.stage) g, more (may_dial h) gone now, and_no (row.host == h) false refl, more (dials_host h) s.dials dial);
      waits = λ h. omega (arith, left (waits_for h) (wants_it row.want) s.wants row f, more (waits_for h) gone now, and_no (row.host == h) false refl);
      wanted = λ h. omega (arith, left (wants_host h) (wants_it row.want) s.wants row f, more (wants_host h) gone now);
      idles = λ h. omega arith;
      resting = omega arith;
    })

-- a want for which a dial runs neither waits nor may dial
stage_by : (w : ℕ) (stage : Stage) (n : ℕ) → n ≡ w → stage_weight (dia_of w) stage n ≤ 0 → (is_granted stage ≡ false) × (is_waiting stage ≡ false)
stage_by w Waiting n e l = absurd (omega (arith, l, ap (λ m. one w m) e ∙ one_same w))
stage_by w Granted n e l = absurd (omega (arith, l, ap (λ m. one w m) e ∙ one_same w))
stage_by w Dialing n e l = (refl, refl)

pub dialing_row : (s : State) (dial : DialRow) (row : WantRow) → Numbers s → find (dials_for dial.want) s.dials ≡ Some dial → find (wants_it dial.want) s.wants ≡ Some row → (is_granted row.stage ≡ false) × (is_waiting row.stage ≡ false)
unfolding weight
dialing_row s dial row k d f =
    let same : row.want ≡ dial.want = eqb-true row.want dial.want (found_passes (wants_it dial.want) s.wants row f) in
    stage_by dial.want row.stage row.want same (omega (
      arith,
      removed (want_weight (dia_of dial.want)) (wants_it dial.want) s.wants row f,
      removed (λ (r : DialRow). one dial.want r.want) (dials_for dial.want) s.dials dial d,
      one_same dial.want,
      k.dia dial.want,
    ))

-- dials that end
failed_want : (limits : Limits) (s : State) (dial : DialRow) (o : Option WantRow) → find (wants_it dial.want) s.wants ≡ o → ((row : WantRow) → o ≡ Some row → is_granted row.stage ≡ false) → Sound limits (at dial.host) s → Sound limits none (failed_to limits s dial o).state
unfolding failed_to
failed_want limits s dial (Some row) e g k = grant_sound limits dial.host (record s { wants = remove_first (wants_it dial.want) s.wants }) (want_gone limits (at dial.host) s (wants_it dial.want) row e (g row refl) k)
failed_want limits s dial None e g k = grant_sound limits dial.host s k

failed_sound : (limits : Limits) (s : State) (dial : DialRow) → find (dials_for dial.want) s.dials ≡ Some dial → Numbers s → Sound limits none s → Sound limits none (failed_row limits s dial).state
unfolding failed_row
failed_sound limits s dial d n k =
    failed_want limits (record s { dials = remove_first (dials_for dial.want) s.dials }) dial (find (wants_it dial.want) s.wants) refl
    (λ row e. (dialing_row s dial row n d e).0) (dial_gone limits s (dials_for dial.want) dial d k)

dialed_want : (limits : Limits) (s : State) (dial : DialRow) (link now : ℕ) (o : Option WantRow) → find (wants_it dial.want) s.wants ≡ o → ((row : WantRow) → o ≡ Some row → is_granted row.stage ≡ false) → Once s.wants → Sound limits (at dial.host) s → Sound limits none (dialed_to limits s dial link now o).state
unfolding dialed_to dialed_conn
dialed_want limits s dial link now (Some row) e g u k =
    let t = record s { wants = remove_first (wants_it dial.want) s.wants } in
    let new : ConnRow = record { conn = s.next_conn; host = dial.host; link = link; reused = false; place = Out dial.want dial.caller } in
    numbered limits none (record t { conns = t.conns ++ new ∷ [] }) s.next_want (s.next_conn + 1) s.next_stamp
    (conn_out limits dial.host t new refl refl (want_gone limits (at dial.host) s (wants_it dial.want) row e (g row refl) k))
dialed_want limits s dial link now None e g u k = offer_sound limits (record s { next_conn = s.next_conn + 1 }) (dialed_conn s dial link) now u (numbered limits (at dial.host) s s.next_want (s.next_conn + 1) s.next_stamp k)

dialed_sound : (limits : Limits) (s : State) (dial : DialRow) (link now : ℕ) → find (dials_for dial.want) s.dials ≡ Some dial → Numbers s → Sound limits none s → Sound limits none (dialed_row limits s dial link now).state
unfolding dialed_row
dialed_sound limits s dial link now d n k =
    dialed_want limits (record s { dials = remove_first (dials_for dial.want) s.dials }) dial link now (find (wants_it dial.want) s.wants) refl
    (λ row e. (dialing_row s dial row n d e).0) (once_of s n) (dial_gone limits s (dials_for dial.want) dial d k)

-- cancels
cancelled : (limits : Limits) (s : State) (row : WantRow) (b : Bool) → is_granted row.stage ≡ b → find (wants_it row.want) s.wants ≡ Some row → Sound limits none s → Sound limits none (cond {A = Outcome} b (replied reply.Gone None (grant limits (record s { wants = remove_first (wants_it row.want) s.wants }) row.host)) (record { reply = reply.Gone None; gone = None; state = record s { wants = remove_first (wants_it row.want) s.wants } })).state
cancelled limits s row true g f k = grant_sound limits row.host (record s { wants = remove_first (wants_it row.want) s.wants }) (want_gone_granted limits s (wants_it row.want) row f g k)
cancelled limits s row false g f k = want_gone limits none s (wants_it row.want) row f g k

cancel_sound : (limits : Limits) (s : State) (row : WantRow) → find (wants_it row.want) s.wants ≡ Some row → Sound limits none s → Sound limits none (cancel_row limits s row).state
unfolding cancel_row
cancel_sound limits s row f k = cancelled limits s row (is_granted row.stage) refl f k

cancel_conn_sound : (limits : Limits) (s : State) (want now : ℕ) (row : ConnRow) → find (is_with want) s.conns ≡ Some row → Numbers s → Sound limits none s → Sound limits none (cancel_conn limits s want row now).state
unfolding cancel_conn
cancel_conn_sound limits s want now row f n k = offer_sound limits (record s { conns = remove_first (is_with want) s.conns }) row now (once_of s n) (conn_gone limits s (is_with want) row f k)

back_sound : (limits : Limits) (s : State) (row : ConnRow) (now : ℕ) → find (has_number row.conn) s.conns ≡ Some row → Numbers s → Sound limits none s → Sound limits none (back_row limits s row now).state
unfolding back_row
back_sound limits s row now f n k = offer_sound limits (record s { conns = remove_first (has_number row.conn) s.conns }) row now (once_of s n) (conn_gone limits s (has_number row.conn) row f k)

drop_sound : (limits : Limits) (s : State) (row : ConnRow) → find (has_number row.conn) s.conns ≡ Some row → Sound limits none s → Sound limits none (drop_row limits s row).state
unfolding drop_row
drop_sound limits s row f k = grant_sound limits row.host (record s { conns = remove_first (has_number row.conn) s.conns }) (conn_gone limits s (has_number row.conn) row f k)

-- wants
no_free : (limits : Limits) (s : State) (h : ℕ) → is_free limits s h ≡ false → (limits.conns_per_host ≡ 0) ⊎ (uses s h + 1 ≤ limits.conns_per_host) → ⊥
no_free limits s h e c = let bad : true ≡ false = sym (is_free_at limits s h c) ∙ e in cc

new_by : (limits : Limits) (s : State) (caller host : ℕ) (b : Bool) → is_free limits s host ≡ b → idles s host ≡ 0 → Sound limits none s → Sound limits none (cond {A = Outcome} b (record { reply = reply.Granted s.next_want; gone = None; state = record s { wants = s.wants ++ (record { want = s.next_want; host = host; caller = caller; stage = Granted }) ∷ []; next_want = s.next_want + 1 } }) (record { reply = reply.Waiting s.next_want; gone = None; state = record s { wants = s.wants ++ (record { want = s.next_want; host = host; caller = caller; stage = Waiting }) ∷ []; next_want = s.next_want + 1 } })).state
new_by limits s caller host true e i k =
    let row : WantRow = record { want = s.next_want; host = host; caller = caller; stage = Granted } in
    let t = record s { wants = s.wants ++ row ∷ []; next_want = s.next_want + 1 } in
    let used_by : (h : ℕ) → uses t h ≡ uses s h + one h host = λ h. omega (arith, more (may_dial h) s.wants row, and_yes (host == h) true refl) in
    let wait : (h : ℕ) → waits t h ≡ waits s h = λ h. omega (arith, more (waits_for h) s.wants row, and_no (host == h) false refl) in
    record {
      places = λ h. elim (decide h host) [
        | inl same ↦ (let Q : ℕ → Type 0 = λ n. (limits.conns_per_host ≡ 0) ⊎ (uses t n + 0 ≤ limits.conns_per_host) in subst Q (sym same) (elim (free_is limits s host e) [ inl z ↦ inl z | inr l ↦ inr (omega (arith, l, used_by host, one_same host)) ]))
        | inr other ↦ elim (k.places h) [ inl z ↦ inl z | inr l ↦ inr (omega (arith, l, used_by h, one_other h host other)) ]
      ];
      full = λ h c. elim c [ inl z ↦ omega (arith, wait h, k.full h (inl z)) | inr l ↦ omega (arith, wait h, k.full h (inr (omega (arith, l, used_by h)))) ];
      quiet = λ h p. elim (decide h host) [
        | inl same ↦ absurd (let Q : ℕ → Type 0 = λ n. 0 < idles s n in let q : 0 < idles s host = subst Q same p in omega (arith, q, i))
        | inr other ↦ omega (arith, more (wants_host h) s.wants row, one_other h host other, k.quiet h p)
      ];
      per_host = k.per_host;
      total = k.total;
    }
new_by limits s caller host false e i k =
    let row : WantRow = record { want = s.next_want; host = host; caller = caller; stage = Waiting } in
    let t = record s { wants = s.wants ++ row ∷ []; next_want = s.next_want + 1 } in
    let used_by : (h : ℕ) → uses t h ≡ uses s h = λ h. omega (arith, more (may_dial h) s.wants row, and_no (host == h) false refl) in
    let wait : (h : ℕ) → waits t h ≡ waits s h + one h host = λ h. omega (arith, more (waits_for h) s.wants row, and_yes (host == h) true refl) in
    record {
      places = λ h. elim (k.places h) [ inl z ↦ inl z | inr l ↦ inr (omega (arith, l, used_by h)) ];
      full = λ h c. elim (decide h host) [
        | inl same ↦ absurd (no_free limits s host e (let Q : ℕ → Type 0 = λ n. (limits.conns_per_host ≡ 0) ⊎ (uses s n + 1 ≤ limits.conns_per_host) in subst Q same (elim c [ inl z ↦ inl z | inr l ↦ inr (omega (arith, l, used_by h)) ])))
        | inr other ↦ elim c [ inl z ↦ omega (arith, wait h, one_other h host other, k.full h (inl z)) | inr l ↦ omega (arith, wait h, one_other h host other, k.full h (inr (omega (arith, l, used_by h)))) ]
      ];
      quiet = λ h p. elim (decide h host) [
        | inl same ↦ absurd (let Q : ℕ → Type 0 = λ n. 0 < idles s n in let q : 0 < idles s host = subst Q same p in omega (arith, q, i))
        | inr other ↦ omega (arith, more (wants_host h) s.wants row, one_other h host other, k.quiet h p)
      ];
      per_host = k.per_host;
      total = k.total;
    }

idle_by : (limits : Limits) (s : State) (test : ConnRow → Bool) (caller : ℕ) (row : ConnRow) (b : Bool) → find test s.conns ≡ Some row → rests row ≡ true → Sound limits none s
    → Sound limits none (cond {A = Outcome} b (record { reply = reply.Expired row.conn; gone = Some row; state = record s { conns = remove_first test s.conns } }) (record { reply = reply.Given s.next_want row.conn; gone = None; state = record s { conns = remove_first test s.conns ++ record row { place = Out s.next_want caller } ∷ []; next_want = s.next_want + 1 } })).state
idle_by limits s test caller row true f i k = idle_gone limits s test row f i k
idle_by limits s test caller row false f i k =
    let t = record s { conns = remove_first test s.conns } in
    let new : ConnRow = record row { place = Out s.next_want caller } in
    numbered limits none (record t { conns = t.conns ++ new ∷ [] }) (s.next_want + 1) s.next_conn s.next_stamp (conn_out limits row.host t new refl refl (conn_gone limits s test row f k))

want_with : (limits : Limits) (s : State) (caller host now : ℕ) (o : Option ConnRow) (t : State) → Newest s host o t → Sound limits none s → Sound limits none (want_by limits caller host now (o, t)).state
unfolding want_by want_new want_idle
want_with limits s caller host now None t n k = let same = n.state in rw same (new_by limits s caller host (is_free limits s host) refl n.none k)
want_with limits s caller host now (Some row) t n k = let same = n.state in rw same (idle_by limits s (rests_for_since_stamp host n.stamp) caller row (is_expired limits (since_of row.place) now) n.found n.idle k)

want_sound : (limits : Limits) (s : State) (caller host now : ℕ) → Sound limits none s → Sound limits none (want_step limits s caller host now).state
unfolding want_step
want_sound limits s caller host now k = want_with limits s caller host now (take_newest s host).0 (take_newest s host).1 (newest s host) k

-- each step
on : (limits : Limits) (o p : Outcome) → o ≡ p → Sound limits none p.state → Sound limits none o.state
on limits o p e k = rw e k

cancel_step : (limits : Limits) (s : State) (caller want now : ℕ) (o : Outcome) → CancelRowWas limits s caller want o ⊎ CancelConnWas limits s caller want now o → Numbers s → Sound limits none s → Sound limits none o.state
cancel_step limits s caller want now o (inl w) n k = on limits o _ w.same (cancel_sound limits s w.row (want_found want s w.row w.found) k)
cancel_step limits s caller want now o (inr w) n k = on limits o _ w.same (cancel_conn_sound limits s want now w.row w.found n k)

idle_step : (limits : Limits) (s : State) (o : Outcome) → IdleWas s o → Sound limits none s → Sound limits none o.state
idle_step limits s o w k =
    let out = oldest_out s w.row w.found in
    let now = out.state in
    on limits o _ w.same (rw now (idle_gone limits s (rests_since_stamp out.stamp) w.row out.found out.idle k))

step_sound : (limits : Limits) (s : State) (caller : ℕ) (asked : Call) (o : Outcome) → step limits s caller asked ≡ Some o → Numbers s → Sound limits none s → Sound limits none o.state
step_sound limits s caller (call.Want host now) o e n k = on limits o _ (want_was limits s caller host now o e) (want_sound limits s caller host now k)
step_sound limits s caller (call.Start want) o e n k = let w = start_was limits s caller want o e in on limits o _ w.same (start_sound limits s w.row (want_found want s w.row w.found) w.granted k)
step_sound limits s caller (call.Dialed want link now) o e n k = let w = dialed_was limits s caller want link now o e in on limits o _ w.same (dialed_sound limits s w.row link now (dial_found want s w.row w.found) n k)
step_sound limits s caller (call.DialFailed want) o e n k = let w = failed_was limits s caller want o e in on limits o _ w.same (failed_sound limits s w.row (dial_found want s w.row w.found) n k)
step_sound limits s caller (call.Cancel want now) o e n k = cancel_step limits s caller want now o (cancel_was limits s caller want now o e) n k
step_sound limits s caller (call.GiveBack conn now) o e n k = let w = back_was limits s caller conn now o e in on limits o _ w.same (back_sound limits s w.row now (conn_found conn s w.row w.found) n k)
step_sound limits s caller (call.Drop conn) o e n k = let w = drop_was limits s caller conn o e in on limits o _ w.same (drop_sound limits s w.row (conn_found conn s w.row w.found) k)
step_sound limits s caller (call.Expire now) o e n k = idle_step limits s o (expire_was limits s caller now o e) k
step_sound limits s caller call.CloseIdle o e n k = idle_step limits s o (close_was limits s caller o e) k

empty_sound : (limits : Limits) → Sound limits none empty
empty_sound limits = record { places = λ h. inr (omega arith); full = λ h c. refl; quiet = λ h p. refl; per_host = λ h. omega arith; total = omega arith }

abbrev Both : Limits → State → Type 0
Both limits s = Numbers s × Sound limits none s

pub legal_sound : (limits : Limits) (h : List Entry) → IsLegal limits h → Sound limits none (after limits h)
legal_sound limits h l =
    (legal_along limits (Both limits) (λ s e o f r k. (step_numbers limits s e.caller e.call o f k.0, step_sound limits s e.caller e.call o f k.0 k.1)) (empty_numbers, empty_sound limits) h l).1

-- for readers
pub places_are_limited : (limits : Limits) (h : List Entry) (host : ℕ) → IsLegal limits h → (limits.conns_per_host ≡ 0) ⊎ (used (after limits h) host ≤ limits.conns_per_host)
unfolding used
places_are_limited limits h host l = elim ((legal_sound limits h l).places host) [ inl z ↦ inl z | inr m ↦ inr (omega (arith, m)) ]

pub idle_are_limited : (limits : Limits) (h : List Entry) → IsLegal limits h → count_by rests (after limits h).conns ≤ limits.idle_total
idle_are_limited limits h l = (legal_sound limits h l).total

pub idle_for_host_are_limited : (limits : Limits) (h : List Entry) (host : ℕ) → IsLegal limits h → count_by (rests_for host) (after limits h).conns ≤ limits.idle_per_host
idle_for_host_are_limited limits h host l = (legal_sound limits h l).per_host host

pub none_is_idle : (limits : Limits) (h : List Entry) (host : ℕ) → IsLegal limits h → 0 < count_by (rests_for host) (after limits h).conns → count_by (wants_host host) (after limits h).wants ≡ 0
none_is_idle limits h host l p = (legal_sound limits h l).quiet host p

free_by : (limits : Limits) (s : State) (host : ℕ) (b : Bool) → is_free limits s host ≡ b → Sound limits none s → 0 < waits s host → b ≡ false
free_by limits s host true e k p = absurd (omega (arith, p, k.full host (elim (free_is limits s host e) [ inl z ↦ inl z | inr l ↦ inr (omega (arith, l)) ])))
free_by limits s host false e k p = refl

pub no_place_is_free : (limits : Limits) (h : List Entry) (host : ℕ) → IsLegal limits h → 0 < count_by (waits_for host) (after limits h).wants → is_free limits (after limits h) host ≡ false
no_place_is_free limits h host l p = free_by limits (after limits h) host (is_free limits (after limits h) host) refl (legal_sound limits h l) p
