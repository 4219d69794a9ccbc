-- Weights of rows that no step makes heavier, but by the new numbers: with them a want or a connection stands once at most.
use Rattle.std.proofs.Common.{◌≡◌, ℕ, ◌+◌, ◌≤◌, ◌==◌, ◌&&◌, ◌⊎◌, inl, inr, Bool, true, false, List, [], ◌∷◌, ◌++◌, Option, Some, None, refl, ap, sym, ◌∙◌, arith, cond, nat_lt, eq-eqb, eqb-true, subst}
use Rattle.std.specs.List.{find, sum_by, count_by}
use Rattle.std.proofs.lemmas.List.Sums.{sum_by_push}
use Rattle.gw_pool.specs.declared.limits.Limits.{Limits}
use Rattle.gw_pool.specs.declared.entry.Reply.TheVariants as reply
use Rattle.gw_pool.specs.declared.rows.Stage.{Stage}
use Rattle.gw_pool.specs.declared.rows.Stage.TheVariants.{Waiting, Granted, Dialing}
use Rattle.gw_pool.specs.declared.rows.Place.TheVariants.{Out, Idle}
use Rattle.gw_pool.specs.declared.rows.WantRow.{WantRow}
use Rattle.gw_pool.specs.declared.rows.ConnRow.{ConnRow}
use Rattle.gw_pool.specs.declared.rows.DialRow.{DialRow}
use Rattle.gw_pool.specs.Places.{is_granted, is_waiting, since_of}
use Rattle.gw_pool.specs.State.{State, remove_first, least_want, least_waiting, wants_host, waits_for, waits_as, wants_as, wants_it, dials_for, is_with, has_number, is_free, is_expired, rests, rests_for, rests_for_since_stamp, take_conn, take_stamped, take_stamped_for, take_oldest, take_newest, oldest_stamp, newest_stamp}
use Rattle.gw_pool.specs.Offer.{Offered, grant_to, grant, evict, evict_row, rest, freed, served, offer_to, offer_conn}
use Rattle.gw_pool.specs.Machine.{Outcome, replied, want_new, want_idle, want_by, want_step, start_row, dialed_conn, dialed_to, dialed_row, failed_to, failed_row, cancel_row, cancel_conn, back_row, drop_row}
pub use Rattle.gw_pool.specs.Ties.{Weigh, stage_weight, place_weight, want_weight, conn_weight}
unfoldable pub use Rattle.gw_pool.specs.Ties.{weight}
use Rattle.gw_pool.proofs.Edits.{found_passes}
use Rattle.gw_pool.proofs.Room.{Picked, picked, lost, removed, sum_left, and_both}

pub record Keeps (g : Weigh) (s t : State) (up : ℕ) : Type 0 where
  pub weight : weight g t ≤ weight g s + up
  pub next_want : t.next_want ≡ s.next_want
  pub next_conn : t.next_conn ≡ s.next_conn
  pub dials : t.dials ≡ s.dials

-- the same, with so much less
pub record Lessens (g : Weigh) (s t : State) (down : ℕ) : Type 0 where
  pub weight : weight g t + down ≤ weight g s
  pub next_want : t.next_want ≡ s.next_want
  pub next_conn : t.next_conn ≡ s.next_conn

-- no weight at all
pub nothing : Weigh
nothing = record { want = λ _. 0; dialing = λ _. 0; dial = λ _. 0; conn = λ _. 0; out = λ _. 0; start = λ _. omega arith; serve = λ _. omega arith }

keeps_here : (g : Weigh) (s : State) → Keeps g s s 0
keeps_here g s = record { weight = omega arith; next_want = refl; next_conn = refl; dials = refl }

keeps_then : (g : Weigh) (s t u : State) (up : ℕ) → Keeps g s t up → Keeps g t u 0 → Keeps g s u up
keeps_then g s t u up a b = record { weight = omega (arith, a.weight, b.weight); next_want = b.next_want ∙ a.next_want; next_conn = b.next_conn ∙ a.next_conn; dials = b.dials ∙ a.dials }

and_left : (a b : Bool) → (a && b) ≡ true → a ≡ true
and_left true b h = refl
and_left false b h = h

and_right : (a b : Bool) → (a && b) ≡ true → b ≡ true
and_right true b h = h
and_right false b h = absurd (cc)

waiting_weight : (g : Weigh) (stage : Stage) (w : ℕ) → is_waiting stage ≡ true → stage_weight g stage w ≡ g.want w
waiting_weight g Waiting w h = refl
waiting_weight g Granted w h = absurd (cc)
waiting_weight g Dialing w h = absurd (cc)

granted_weight : (g : Weigh) (stage : Stage) (w : ℕ) → is_granted stage ≡ true → stage_weight g stage w ≡ g.want w
granted_weight g Waiting w h = absurd (cc)
granted_weight g Granted w h = refl
granted_weight g Dialing w h = absurd (cc)

serve_weight : (g : Weigh) (stage : Stage) (w : ℕ) → g.out w ≤ stage_weight g stage w
serve_weight g Waiting w = omega (arith, g.serve w, g.start w)
serve_weight g Granted w = omega (arith, g.serve w, g.start w)
serve_weight g Dialing w = g.serve w

waits_weight : (g : Weigh) (host want : ℕ) (row : WantRow) → waits_as host want row ≡ true → g.want want ≤ want_weight g row
waits_weight g host want row h =
    let same : row.want ≡ want = eqb-true row.want want (and_right ((row.host == host) && is_waiting row.stage) (row.want == want) h) in
    let waits : is_waiting row.stage ≡ true = and_right (row.host == host) (is_waiting row.stage) (and_left ((row.host == host) && is_waiting row.stage) (row.want == want) h) in
    let e : want_weight g row ≡ g.want row.want = waiting_weight g row.stage row.want waits in
    let f : g.want row.want ≡ g.want want = ap g.want same in
    omega (arith, e, f)

wants_weight : (g : Weigh) (host want : ℕ) (row : WantRow) → wants_as host want row ≡ true → g.out want ≤ want_weight g row
wants_weight g host want row h =
    let same : row.want ≡ want = eqb-true row.want want (and_right (row.host == host) (row.want == want) h) in
    let f : g.out row.want ≡ g.out want = ap g.out same in
    omega (arith, f, serve_weight g row.stage row.want)

grant_row : (g : Weigh) (s : State) (host : ℕ) (row : WantRow) → Picked (waits_for host) s.wants row → Keeps g s (grant_to s (Some row)).1 0
unfolding weight grant_to
grant_row g s host row p =
    let less : sum_by (want_weight g) (remove_first (waits_as row.host row.want) s.wants) + g.want row.want ≤ sum_by (want_weight g) s.wants =
    lost (want_weight g) (waits_as row.host row.want) (g.want row.want) s.wants row (waits_weight g row.host row.want)
    (and_both ((row.host == row.host) && is_waiting row.stage) (row.want == row.want)
    (and_both (row.host == row.host) (is_waiting row.stage) (eq-eqb row.host row.host refl) (and_right (row.host == host) (is_waiting row.stage) p.passes))
    (eq-eqb row.want row.want refl))
    p.among
    in record {
      weight = omega (arith, less, sum_by_push (want_weight g) (remove_first (waits_as row.host row.want) s.wants) (record row { stage = Granted }));
      next_want = refl;
      next_conn = refl;
      dials = refl;
    }

grant_picked : (g : Weigh) (s : State) (host : ℕ) (o : Option WantRow) → ((r : WantRow) → o ≡ Some r → Picked (waits_for host) s.wants r) → Keeps g s (grant_to s o).1 0
unfolding grant_to
grant_picked g s host None k = keeps_here g s
grant_picked g s host (Some row) k = grant_row g s host row (k row refl)

grant_if : (g : Weigh) (s : State) (host : ℕ) (b : Bool) → Keeps g s (cond b (grant_to s (least_waiting s host)) (None, s)).1 0
unfolding least_waiting
grant_if g s host true = grant_picked g s host (least_waiting s host) (λ r e. picked (waits_for host) s.wants r e)
grant_if g s host false = keeps_here g s

pub grant_keeps : (g : Weigh) (limits : Limits) (s : State) (host : ℕ) → Keeps g s (grant limits s host).1 0
unfolding grant
grant_keeps g limits s host = grant_if g s host (is_free limits s host)

take_keeps : (g : Weigh) (s : State) (test : ConnRow → Bool) → Keeps g s (take_conn test s).1 0
unfolding weight
take_keeps g s test = record { weight = omega (arith, sum_left (conn_weight g) test s.conns); next_want = refl; next_conn = refl; dials = refl }

oldest_by : (g : Weigh) (s : State) (o : Option ℕ) → Keeps g s (take_stamped s o).1 0
oldest_by g s None = keeps_here g s
oldest_by g s (Some n) = take_keeps g s _

pub oldest_keeps : (g : Weigh) (s : State) → Keeps g s (take_oldest s).1 0
unfolding take_oldest
oldest_keeps g s = oldest_by g s (oldest_stamp s)

evicted : (g : Weigh) (s : State) (p : Option ConnRow × State) → Keeps g s p.1 0 → Keeps g s (evict_row p).state 0
evicted g s (None, t) h = h
evicted g s (Some row, t) h = h

evict_by : (g : Weigh) (s : State) (b : Bool) (o : Offered) → o.state ≡ s → Keeps g s (cond b (evict_row (take_oldest s)) o).state 0
evict_by g s true o e = evicted g s (take_oldest s) (oldest_keeps g s)
evict_by g s false o e = rw e (keeps_here g s)

evict_keeps : (g : Weigh) (limits : Limits) (s : State) → Keeps g s (evict limits s).state 0
unfolding evict
evict_keeps g limits s = evict_by g s (nat_lt limits.idle_total (count_by rests s.conns)) _ refl

rested : (g : Weigh) (s : State) (row : ConnRow) (now : ℕ) → Keeps g s (record s { conns = s.conns ++ record row { place = Idle s.next_stamp now } ∷ []; next_stamp = s.next_stamp + 1 }) (g.conn row.conn)
unfolding weight
rested g s row now = record {
  weight = omega (arith, sum_by_push (conn_weight g) s.conns (record row { place = Idle s.next_stamp now }));
  next_want = refl;
  next_conn = refl;
  dials = refl;
}

up : (g : Weigh) (s t : State) (n : ℕ) → Keeps g s t 0 → Keeps g s t n
up g s t n h = record { weight = omega (arith, h.weight); next_want = h.next_want; next_conn = h.next_conn; dials = h.dials }

rest_by : (g : Weigh) (limits : Limits) (s t : State) (n : ℕ) (b : Bool) (o : Offered) → o.state ≡ s → Keeps g s t n → Keeps g s (cond b (evict limits t) o).state n
rest_by g limits s t n true o e h = keeps_then g s t (evict limits t).state n h (evict_keeps g limits t)
rest_by g limits s t n false o e h = rw e (up g s s n (keeps_here g s))

pub rest_keeps : (g : Weigh) (limits : Limits) (s : State) (row : ConnRow) (now : ℕ) → Keeps g s (rest limits s row now).state (g.conn row.conn)
unfolding rest
rest_keeps g limits s row now = rest_by g limits s _ (g.conn row.conn) (nat_lt (count_by (rests_for row.host) s.conns) limits.idle_per_host) _ refl (rested g s row now)

freed_by : (g : Weigh) (limits : Limits) (s : State) (host : ℕ) (b : Bool) → Keeps g s (cond b (grant limits s host) (None, s)).1 0
freed_by g limits s host true = grant_keeps g limits s host
freed_by g limits s host false = keeps_here g s

pub freed_keeps : (g : Weigh) (limits : Limits) (s : State) (want : WantRow) → Keeps g s (freed limits s want).1 0
unfolding freed
freed_keeps g limits s want = freed_by g limits s want.host (is_granted want.stage)

given : (g : Weigh) (s : State) (row : ConnRow) (want : WantRow) (host : ℕ) → Picked (wants_host host) s.wants want → Keeps g s (record s { wants = remove_first (wants_as want.host want.want) s.wants; conns = s.conns ++ record row { place = Out want.want want.caller } ∷ [] }) (g.conn row.conn)
unfolding weight
given g s row want host p =
    let less = lost (want_weight g) (wants_as want.host want.want) (g.out want.want) s.wants want (wants_weight g want.host want.want)
    (and_both (want.host == want.host) (want.want == want.want) (eq-eqb want.host want.host refl) (eq-eqb want.want want.want refl)) p.among in
    record {
      weight = omega (arith, less, sum_by_push (conn_weight g) s.conns (record row { place = Out want.want want.caller }));
      next_want = refl;
      next_conn = refl;
      dials = refl;
    }

served_by : (g : Weigh) (s t : State) (n : ℕ) (p : Option ℕ × State) (want : ℕ) → Keeps g s t n → Keeps g t p.1 0 → Keeps g s (served want p).state n
served_by g s t n (next, u) want a b = keeps_then g s t u n a b

offer_by : (g : Weigh) (limits : Limits) (s : State) (row : ConnRow) (now host : ℕ) (o : Option WantRow) → ((r : WantRow) → o ≡ Some r → Picked (wants_host host) s.wants r) → Keeps g s (offer_to limits s row now o).state (g.conn row.conn)
unfolding offer_to
offer_by g limits s row now host None k = rest_keeps g limits s row now
offer_by g limits s row now host (Some want) k =
    let t = record s { wants = remove_first (wants_as want.host want.want) s.wants; conns = s.conns ++ record row { place = Out want.want want.caller } ∷ [] } in
    served_by g s t (g.conn row.conn) (freed limits t want) want.want (given g s row want host (k want refl)) (freed_keeps g limits t want)

pub offer_keeps : (g : Weigh) (limits : Limits) (s : State) (row : ConnRow) (now : ℕ) → Keeps g s (offer_conn limits s row now).state (g.conn row.conn)
unfolding offer_conn least_want
offer_keeps g limits s row now = offer_by g limits s (record row { reused = true }) now row.host (least_want s row.host) (λ r e. picked (wants_host row.host) s.wants r e)

-- a want adds nothing, or the weight of a new want, whose number is then used
pub record AddsWant (g : Weigh) (s t : State) : Type 0 where
  pub weight : weight g t ≤ weight g s + g.want s.next_want
  pub next_want : t.next_want ≡ s.next_want + 1
  pub next_conn : t.next_conn ≡ s.next_conn
  pub dials : t.dials ≡ s.dials

abbrev pub AddsAny : Weigh → State → State → Type 0
AddsAny g s t = Keeps g s t 0 ⊎ AddsWant g s t

-- a dial that gave a connection adds the weight of that at most, and loses its own
pub record AddsConn (g : Weigh) (s t : State) (down : ℕ) : Type 0 where
  pub weight : weight g t + down ≤ weight g s + g.conn s.next_conn
  pub next_want : t.next_want ≡ s.next_want
  pub next_conn : t.next_conn ≡ s.next_conn + 1

pub dial_found : (want : ℕ) (s : State) (row : DialRow) → find (dials_for want) s.dials ≡ Some row → find (dials_for row.want) s.dials ≡ Some row
dial_found want s row f = let same : row.want ≡ want = eqb-true row.want want (found_passes (dials_for want) s.dials row f) in
    let P : ℕ → Type 0 = λ n. find (dials_for n) s.dials ≡ Some row in
    subst P (sym same) f

pub want_found : (want : ℕ) (s : State) (row : WantRow) → find (wants_it want) s.wants ≡ Some row → find (wants_it row.want) s.wants ≡ Some row
want_found want s row f = let same : row.want ≡ want = eqb-true row.want want (found_passes (wants_it want) s.wants row f) in
    let P : ℕ → Type 0 = λ n. find (wants_it n) s.wants ≡ Some row in
    subst P (sym same) f

pub conn_found : (conn : ℕ) (s : State) (row : ConnRow) → find (has_number conn) s.conns ≡ Some row → find (has_number row.conn) s.conns ≡ Some row
conn_found conn s row f = let same : row.conn ≡ conn = eqb-true row.conn conn (found_passes (has_number conn) s.conns row f) in
    let P : ℕ → Type 0 = λ n. find (has_number n) s.conns ≡ Some row in
    subst P (sym same) f

pub start_less : (g : Weigh) (s : State) (want : ℕ) (row : WantRow) → find (wants_it want) s.wants ≡ Some row → is_granted row.stage ≡ true → Lessens g s (start_row s row).state 0
unfolding weight start_row
start_less g s want row f h = record {
  weight = omega (
    arith,
    removed (want_weight g) (wants_it row.want) s.wants row (want_found want s row f),
    granted_weight g row.stage row.want h,
    sum_by_push (want_weight g) (remove_first (wants_it row.want) s.wants) (record row { stage = Dialing }),
    sum_by_push (λ (r : DialRow). g.dial r.want) s.dials (record { want = row.want; host = row.host; caller = row.caller }),
    g.start row.want,
  );
  next_want = refl;
  next_conn = refl;
}

pub without_conn : (g : Weigh) (s : State) (row : ConnRow) (test : ConnRow → Bool) → find test s.conns ≡ Some row → weight g (record s { conns = remove_first test s.conns }) + conn_weight g row ≤ weight g s
unfolding weight
without_conn g s row test f = omega (arith, removed (conn_weight g) test s.conns row f)

took_weight : (g : Weigh) (s : State) (row : ConnRow) (test : ConnRow → Bool) → find test s.conns ≡ Some row → weight g (record s { conns = remove_first test s.conns }) + g.conn row.conn ≤ weight g s
took_weight g s row test f = omega (arith, without_conn g s row test f)

pub without_want : (g : Weigh) (s : State) (row : WantRow) (test : WantRow → Bool) → find test s.wants ≡ Some row → weight g (record s { wants = remove_first test s.wants }) + want_weight g row ≤ weight g s
unfolding weight
without_want g s row test f = omega (arith, removed (want_weight g) test s.wants row f)

pub without_dial : (g : Weigh) (s : State) (row : DialRow) (test : DialRow → Bool) → find test s.dials ≡ Some row → weight g (record s { dials = remove_first test s.dials }) + g.dial row.want ≤ weight g s
unfolding weight
without_dial g s row test f = omega (arith, removed (λ (r : DialRow). g.dial r.want) test s.dials row f)

pub drop_less : (g : Weigh) (limits : Limits) (s : State) (conn : ℕ) (row : ConnRow) → find (has_number conn) s.conns ≡ Some row → Lessens g s (drop_row limits s row).state (conn_weight g row)
unfolding drop_row
drop_less g limits s conn row f =
    let t = record s { conns = remove_first (has_number row.conn) s.conns } in
    let last = grant_keeps g limits t row.host in
    record { weight = omega (arith, without_conn g s row (has_number row.conn) (conn_found conn s row f), last.weight); next_want = last.next_want; next_conn = last.next_conn }

pub drop_dials : (limits : Limits) (s : State) (row : ConnRow) → (drop_row limits s row).state.dials ≡ s.dials
unfolding drop_row
drop_dials limits s row = (grant_keeps nothing limits (record s { conns = remove_first (has_number row.conn) s.conns }) row.host).dials

pub back_less : (g : Weigh) (limits : Limits) (s : State) (conn now : ℕ) (row : ConnRow) → find (has_number conn) s.conns ≡ Some row → Lessens g s (back_row limits s row now).state (place_weight g row.place)
unfolding back_row
back_less g limits s conn now row f =
    let t = record s { conns = remove_first (has_number row.conn) s.conns } in
    let last = offer_keeps g limits t row now in
    record { weight = omega (arith, without_conn g s row (has_number row.conn) (conn_found conn s row f), last.weight); next_want = last.next_want; next_conn = last.next_conn }

pub back_dials : (limits : Limits) (s : State) (row : ConnRow) (now : ℕ) → (back_row limits s row now).state.dials ≡ s.dials
unfolding back_row
back_dials limits s row now = (offer_keeps nothing limits (record s { conns = remove_first (has_number row.conn) s.conns }) row now).dials

pub cancel_conn_less : (g : Weigh) (limits : Limits) (s : State) (want now : ℕ) (row : ConnRow) → find (is_with want) s.conns ≡ Some row → Lessens g s (cancel_conn limits s want row now).state (place_weight g row.place)
unfolding cancel_conn
cancel_conn_less g limits s want now row f =
    let t = record s { conns = remove_first (is_with want) s.conns } in
    let last = offer_keeps g limits t row now in
    record { weight = omega (arith, without_conn g s row (is_with want) f, last.weight); next_want = last.next_want; next_conn = last.next_conn }

pub cancel_conn_dials : (limits : Limits) (s : State) (want now : ℕ) (row : ConnRow) → (cancel_conn limits s want row now).state.dials ≡ s.dials
unfolding cancel_conn
cancel_conn_dials limits s want now row = (offer_keeps nothing limits (record s { conns = remove_first (is_with want) s.conns }) row now).dials

cancelled : (g : Weigh) (limits : Limits) (s t : State) (row : WantRow) (b : Bool) → Keeps g s t 0 → Keeps g s (cond {A = Outcome} b (replied reply.Gone None (grant limits t row.host)) (record { reply = reply.Gone None; gone = None; state = t })).state 0
cancelled g limits s t row true h = keeps_then g s t (grant limits t row.host).1 0 h (grant_keeps g limits t row.host)
cancelled g limits s t row false h = h

pub cancel_less : (g : Weigh) (limits : Limits) (s : State) (want : ℕ) (row : WantRow) → find (wants_it want) s.wants ≡ Some row → Lessens g s (cancel_row limits s row).state (want_weight g row)
unfolding cancel_row
cancel_less g limits s want row f =
    let t = record s { wants = remove_first (wants_it row.want) s.wants } in
    let last = cancelled g limits t t row (is_granted row.stage) (keeps_here g t) in
    record { weight = omega (arith, without_want g s row (wants_it row.want) (want_found want s row f), last.weight); next_want = last.next_want; next_conn = last.next_conn }

pub cancel_dials : (limits : Limits) (s : State) (row : WantRow) → (cancel_row limits s row).state.dials ≡ s.dials
unfolding cancel_row
cancel_dials limits s row = let t = record s { wants = remove_first (wants_it row.want) s.wants } in (cancelled nothing limits t t row (is_granted row.stage) (keeps_here nothing t)).dials

failed_by_want : (g : Weigh) (limits : Limits) (s : State) (dial : DialRow) (o : Option WantRow) → o ≡ find (wants_it dial.want) s.wants → Keeps g s (failed_to limits s dial o).state 0
unfolding failed_to
failed_by_want g limits s dial (Some row) e =
    let t = record s { wants = remove_first (wants_it dial.want) s.wants } in
    let last = grant_keeps g limits t dial.host in
    record { weight = omega (arith, without_want g s row (wants_it dial.want) (sym e), last.weight); next_want = last.next_want; next_conn = last.next_conn; dials = last.dials }
failed_by_want g limits s dial None e = grant_keeps g limits s dial.host

pub failed_less : (g : Weigh) (limits : Limits) (s : State) (want : ℕ) (row : DialRow) → find (dials_for want) s.dials ≡ Some row → Lessens g s (failed_row limits s row).state (g.dial row.want)
unfolding failed_row
failed_less g limits s want row f =
    let t = record s { dials = remove_first (dials_for row.want) s.dials } in
    let last = failed_by_want g limits t row (find (wants_it row.want) s.wants) refl in
    record { weight = omega (arith, without_dial g s row (dials_for row.want) (dial_found want s row f), last.weight); next_want = last.next_want; next_conn = last.next_conn }

pub failed_dials : (limits : Limits) (s : State) (row : DialRow) → (failed_row limits s row).state.dials ≡ remove_first (dials_for row.want) s.dials
unfolding failed_row
failed_dials limits s row = (failed_by_want nothing limits (record s { dials = remove_first (dials_for row.want) s.dials }) row (find (wants_it row.want) s.wants) refl).dials

dialed_want : (g : Weigh) (limits : Limits) (s : State) (dial : DialRow) (link now : ℕ) (o : Option WantRow) → o ≡ find (wants_it dial.want) s.wants → AddsConn g s (dialed_to limits s dial link now o).state 0
unfolding dialed_to dialed_conn weight
dialed_want g limits s dial link now (Some row) e =
    let same : row.want ≡ dial.want = eqb-true row.want dial.want (found_passes (wants_it dial.want) s.wants row (sym e)) in
    let out : g.out row.want ≡ g.out dial.want = ap g.out same in
    record {
      weight = omega (arith, without_want g s row (wants_it dial.want) (sym e), serve_weight g row.stage row.want, out, sum_by_push (conn_weight g) s.conns (dialed_conn s dial link));
      next_want = refl;
      next_conn = refl;
    }
dialed_want g limits s dial link now None e =
    let t = record s { next_conn = s.next_conn + 1 } in
    let last = offer_keeps g limits t (dialed_conn s dial link) now in
    record { weight = omega (arith, last.weight); next_want = last.next_want; next_conn = last.next_conn }

dialed_dials_to : (limits : Limits) (s : State) (dial : DialRow) (link now : ℕ) (o : Option WantRow) → (dialed_to limits s dial link now o).state.dials ≡ s.dials
unfolding dialed_to
dialed_dials_to limits s dial link now (Some row) = refl
dialed_dials_to limits s dial link now None = (offer_keeps nothing limits (record s { next_conn = s.next_conn + 1 }) (dialed_conn s dial link) now).dials

pub dialed_adds : (g : Weigh) (limits : Limits) (s : State) (want link now : ℕ) (row : DialRow) → find (dials_for want) s.dials ≡ Some row → AddsConn g s (dialed_row limits s row link now).state (g.dial row.want)
unfolding dialed_row
dialed_adds g limits s want link now row f =
    let t = record s { dials = remove_first (dials_for row.want) s.dials } in
    let last = dialed_want g limits t row link now (find (wants_it row.want) s.wants) refl in
    record { weight = omega (arith, without_dial g s row (dials_for row.want) (dial_found want s row f), last.weight); next_want = last.next_want; next_conn = last.next_conn }

pub dialed_dials : (limits : Limits) (s : State) (row : DialRow) (link now : ℕ) → (dialed_row limits s row link now).state.dials ≡ remove_first (dials_for row.want) s.dials
unfolding dialed_row
dialed_dials limits s row link now = dialed_dials_to limits (record s { dials = remove_first (dials_for row.want) s.dials }) row link now (find (wants_it row.want) s.wants)

new_by : (g : Weigh) (s : State) (caller host : ℕ) (b : Bool) → AddsWant g s (cond {A = Outcome} b (record { reply = reply.Granted s.next_want; gone = None; state = record s { wants = s.wants ++ (record { want = s.next_want; host = host; caller = caller; stage = Granted }) ∷ []; next_want = s.next_want + 1 } }) (record { reply = reply.Waiting s.next_want; gone = None; state = record s { wants = s.wants ++ (record { want = s.next_want; host = host; caller = caller; stage = Waiting }) ∷ []; next_want = s.next_want + 1 } })).state
unfolding weight
new_by g s caller host true = record { weight = omega (arith, sum_by_push (want_weight g) s.wants (record { want = s.next_want; host = host; caller = caller; stage = Granted })); next_want = refl; next_conn = refl; dials = refl }
new_by g s caller host false = record { weight = omega (arith, sum_by_push (want_weight g) s.wants (record { want = s.next_want; host = host; caller = caller; stage = Waiting })); next_want = refl; next_conn = refl; dials = refl }

-- a connection's row that was taken out
pub record Took (g : Weigh) (s : State) (row : ConnRow) (t : State) : Type 0 where
  pub weight : weight g t + g.conn row.conn ≤ weight g s
  pub next_want : t.next_want ≡ s.next_want
  pub next_conn : t.next_conn ≡ s.next_conn
  pub dials : t.dials ≡ s.dials

idle_by : (g : Weigh) (s t : State) (caller now : ℕ) (row : ConnRow) (b : Bool) → Took g s row t → AddsAny g s (cond {A = Outcome} b (record { reply = reply.Expired row.conn; gone = Some row; state = t }) (record { reply = reply.Given t.next_want row.conn; gone = None; state = record t { conns = t.conns ++ record row { place = Out t.next_want caller } ∷ []; next_want = t.next_want + 1 } })).state
unfolding weight
idle_by g s t caller now row true h = inl (record { weight = omega (arith, h.weight); next_want = h.next_want; next_conn = h.next_conn; dials = h.dials })
idle_by g s t caller now row false h =
    let out : g.out t.next_want ≡ g.out s.next_want = ap g.out h.next_want in
    inr (record {
      weight = omega (arith, h.weight, out, serve_weight g Waiting s.next_want, sum_by_push (conn_weight g) t.conns (record row { place = Out t.next_want caller }));
      next_want = ap (λ n. n + 1) h.next_want;
      next_conn = h.next_conn;
      dials = h.dials;
    })

want_with : (g : Weigh) (limits : Limits) (s : State) (caller host now : ℕ) (o : Option ConnRow) (t : State) → (o ≡ None → t ≡ s) → ((r : ConnRow) → o ≡ Some r → Took g s r t) → AddsAny g s (want_by limits caller host now (o, t)).state
unfolding want_by want_new want_idle
want_with g limits s caller host now None t none some = rw (none refl) (inr (new_by g s caller host (is_free limits s host)))
want_with g limits s caller host now (Some row) t none some = idle_by g s t caller now row (is_expired limits (since_of row.place) now) (some row refl)

took_by : (g : Weigh) (s : State) (host : ℕ) (o : Option ℕ) (r : ConnRow) → (take_stamped_for s host o).0 ≡ Some r → Took g s r (take_stamped_for s host o).1
took_by g s host None r e = absurd (cc)
took_by g s host (Some n) r e = record { weight = took_weight g s r (rests_for_since_stamp host n) e; next_want = refl; next_conn = refl; dials = refl }

left_step : {X : Type 0} (b : Bool) (test : X → Bool) (x : X) (xs : List X) → cond b (Some x) (find test xs) ≡ None → (find test xs ≡ None → remove_first test xs ≡ xs) → cond b xs (x ∷ remove_first test xs) ≡ x ∷ xs
left_step true test x xs e k = absurd (cc)
left_step false test x xs e k = ap (λ l. x ∷ l) (k e)

left_same : {X : Type 0} (test : X → Bool) (xs : List X) → find test xs ≡ None → remove_first test xs ≡ xs
left_same test [] e = refl
left_same test (x ∷ xs) e = left_step (test x) test x xs e (left_same test xs)

none_by : (s : State) (host : ℕ) (o : Option ℕ) → (take_stamped_for s host o).0 ≡ None → (take_stamped_for s host o).1 ≡ s
none_by s host None e = refl
none_by s host (Some n) e = ap (λ l. record s { conns = l }) (left_same (rests_for_since_stamp host n) s.conns e)

pub want_adds : (g : Weigh) (limits : Limits) (s : State) (caller host now : ℕ) → AddsAny g s (want_step limits s caller host now).state
unfolding want_step take_newest
want_adds g limits s caller host now =
    want_with g limits s caller host now (take_stamped_for s host (newest_stamp s host)).0 (take_stamped_for s host (newest_stamp s host)).1 (none_by s host (newest_stamp s host)) (took_by g s host (newest_stamp s host))
