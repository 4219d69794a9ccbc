-- Where the connection of a dial is, after the entry that the dial made.
use Rattle.std.proofs.Common.{◌≡◌, ℕ, ◌+◌, ◌<◌, ◌≤◌, ◌==◌, inl, inr, Bool, true, false, List, [], ◌∷◌, ◌++◌, Option, Some, None, refl, ap, sym, ◌∙◌, arith, cond, nat_lt, ltb-true, eq-eqb, ne_eqb, eqb-true}
use Rattle.std.specs.List.{find, sum_by, count_by}
use Rattle.std.proofs.lemmas.List.Sums.{sum_by-cons, sum_by_push}
use Rattle.gw_pool.specs.declared.limits.Limits.{Limits}
use Rattle.gw_pool.specs.declared.entry.Entry.{Entry}
use Rattle.gw_pool.specs.declared.entry.Call.TheVariants as call
use Rattle.gw_pool.specs.declared.rows.Place.TheVariants.{Out, Idle}
use Rattle.gw_pool.specs.declared.rows.WantRow.{WantRow}
use Rattle.gw_pool.specs.declared.rows.ConnRow.{ConnRow}
use Rattle.gw_pool.specs.declared.rows.DialRow.{DialRow}
use Rattle.gw_pool.specs.State.{State, remove_first, least_want, rests_since_stamp, wants_as, wants_it, dials_for, is_with, has_number, rests, rests_for, take_oldest}
use Rattle.gw_pool.specs.Offer.{Offered, evict, evict_row, rest, freed, served, offer_to, offer_conn}
use Rattle.gw_pool.specs.Machine.{Outcome, dialed_conn, dialed_to, dialed_row}
use Rattle.gw_pool.specs.History.{IsLegal, after}
use Rattle.gw_pool.proofs.Edits.{found_passes}
use Rattle.gw_pool.proofs.Ties.{decide, one_same}
use Rattle.gw_pool.proofs.Inverts.{dialed_was}
use Rattle.gw_pool.specs.declared.entry.Reply.{Reply}
use Rattle.gw_pool.specs.declared.entry.Offer.{Offer}
use Rattle.gw_pool.specs.declared.entry.Offer.TheVariants as offer
use Rattle.gw_pool.specs.Laws as laws
use Rattle.gw_pool.specs.Ties.{one, bit, con_of}
use Rattle.gw_pool.proofs.Room.{removed}
use Rattle.gw_pool.proofs.Finds.{oldest_out, oldest_none}
use Rattle.gw_pool.proofs.Numbers.{Numbers, legal_numbers}
use Rattle.gw_pool.specs.Laws.{offered_to, IsOutTo, IsIdleConn, IsGone}
use Rattle.gw_pool.specs.Core.{entry_of}
use Rattle.gw_pool.proofs.Weights.{weight, conn_weight}
use Rattle.gw_pool.proofs.Walk.{last}
use Rattle.gw_pool.proofs.Outs.{freed_conns}

-- a number that is still to come is found nowhere; a row that is pushed is found by its number
numbered : (n : ℕ) (a : ℕ) → (a == n) ≡ true → one n a ≡ 1
numbered n a e = ap bit e

not_there_by : (n : ℕ) (xs : List ConnRow) (o : Option ConnRow) → find (has_number n) xs ≡ o → sum_by (λ (r : ConnRow). one n r.conn) xs ≡ 0 → o ≡ None
not_there_by n xs None f z = refl
not_there_by n xs (Some r) f z = absurd (omega (arith, removed (λ (x : ConnRow). one n x.conn) (has_number n) xs r f, numbered n r.conn (found_passes (has_number n) xs r f), z))

not_there : (n : ℕ) (xs : List ConnRow) → sum_by (λ (r : ConnRow). one n r.conn) xs ≡ 0 → find (has_number n) xs ≡ None
not_there n xs z = not_there_by n xs (find (has_number n) xs) refl z

few : (n : ℕ) (xs : List ConnRow) → sum_by (λ (r : ConnRow). one n r.conn) xs ≤ sum_by (conn_weight (con_of n)) xs
few n [] = omega arith
few n (x ∷ xs) = omega (arith, sum_by-cons (λ (r : ConnRow). one n r.conn) x xs, sum_by-cons (conn_weight (con_of n)) x xs, few n xs)

pub none_yet : (s : State) → Numbers s → sum_by (λ (r : ConnRow). one s.next_conn r.conn) s.conns ≡ 0
unfolding weight
none_yet s k = omega (arith, few s.next_conn s.conns, k.con_new s.next_conn (omega arith))

pushed_by : (n : ℕ) (x y : ConnRow) (xs : List ConnRow) (b : Bool) → has_number n x ≡ b → sum_by (λ (r : ConnRow). one n r.conn) (x ∷ xs) ≡ 0 → (sum_by (λ (r : ConnRow). one n r.conn) xs ≡ 0 → find (has_number n) (xs ++ y ∷ []) ≡ Some y) → cond b (Some x) (find (has_number n) (xs ++ y ∷ [])) ≡ Some y
pushed_by n x y xs true e z k = absurd (omega (arith, sum_by-cons (λ (r : ConnRow). one n r.conn) x xs, numbered n x.conn e, z))
pushed_by n x y xs false e z k = k (omega (arith, sum_by-cons (λ (r : ConnRow). one n r.conn) x xs, z))

here_by : (n : ℕ) (y : ConnRow) (b : Bool) → has_number n y ≡ b → y.conn ≡ n → cond b (Some y) None ≡ Some y
here_by n y true e s = refl
here_by n y false e s = absurd (let bad : true ≡ false = sym (eq-eqb y.conn n s) ∙ e in cc)

pushed : (n : ℕ) (y : ConnRow) (xs : List ConnRow) → y.conn ≡ n → sum_by (λ (r : ConnRow). one n r.conn) xs ≡ 0 → find (has_number n) (xs ++ y ∷ []) ≡ Some y
pushed n y [] s z = here_by n y (has_number n y) refl s
pushed n y (x ∷ xs) s z = pushed_by n x y xs (has_number n x) refl z (λ w. pushed n y xs s w)

-- another row that goes leaves it where it is
other_by : (p q : ConnRow → Bool) (x f : ConnRow) (xs : List ConnRow) (b : Bool) → q x ≡ b → cond b (Some x) (find q xs) ≡ Some f → p f ≡ false → (find q xs ≡ Some f → find p (remove_first q xs) ≡ find p xs) → find p (cond b xs (x ∷ remove_first q xs)) ≡ cond (p x) (Some x) (find p xs)
other_by p q x f xs true e g off k = let same : x ≡ f = cc in let no_pass : p x ≡ false = ap p same ∙ off in rw no_pass refl
other_by p q x f xs false e g off k = ap (λ o. cond (p x) (Some x) o) (k g)

other : (p q : ConnRow → Bool) (f : ConnRow) (xs : List ConnRow) → find q xs ≡ Some f → p f ≡ false → find p (remove_first q xs) ≡ find p xs
other p q f [] g off = refl
other p q f (x ∷ xs) g off = other_by p q x f xs (q x) refl g off (λ h. other p q f xs h off)

-- one that goes itself is gone
gone : (n : ℕ) (q : ConnRow → Bool) (f : ConnRow) (xs : List ConnRow) → find q xs ≡ Some f → f.conn ≡ n → sum_by (λ (r : ConnRow). one n r.conn) xs ≤ 1 → find (has_number n) (remove_first q xs) ≡ None
gone n q f xs g s l = not_there n (remove_first q xs) (omega (arith, removed (λ (r : ConnRow). one n r.conn) q xs f g, ap (λ k. one n k) s ∙ one_same n, l))

-- a row of the pool, after an offer that left it idle
abbrev AfterIdle : State → ConnRow → Offer → Type 0
AfterIdle s row o = laws.Offered s row.conn row.link o

evict_place : (s : State) (row : ConnRow) (p : Option ConnRow × State) (t : ℕ) → take_oldest s ≡ p → t < count_by rests s.conns → find (has_number row.conn) s.conns ≡ Some row → rests row ≡ true → sum_by (λ (r : ConnRow). one row.conn r.conn) s.conns ≤ 1 → AfterIdle (evict_row p).state row (evict_row p).offer
evict_place s row (None, u) t e l f i one_row = absurd (omega (arith, oldest_none s (ap (λ (p : Option ConnRow × State). p.0) e), l))
evict_place s row (Some old, u) t e l f i one_row =
    let out = oldest_out s old (ap (λ (p : Option ConnRow × State). p.0) e) in
    let now : u ≡ record s { conns = remove_first (rests_since_stamp out.stamp) s.conns } = sym (ap (λ (p : Option ConnRow × State). p.1) e) ∙ out.state in
    rw now (elim (decide old.conn row.conn) [
      | inl same ↦ inl (same, gone row.conn (rests_since_stamp out.stamp) old s.conns out.found same one_row)
      | inr apart ↦ inr (apart, record { row = row; found = other (has_number row.conn) (rests_since_stamp out.stamp) old s.conns out.found (ne_eqb old.conn row.conn apart) ∙ f; is_link = refl; idle = i })
    ])

evict_by : (s : State) (row : ConnRow) (t : ℕ) (b : Bool) → nat_lt t (count_by rests s.conns) ≡ b → find (has_number row.conn) s.conns ≡ Some row → rests row ≡ true → sum_by (λ (r : ConnRow). one row.conn r.conn) s.conns ≤ 1
    → AfterIdle (cond {A = Offered} b (evict_row (take_oldest s)) (record { offer = offer.Idle None; gone = None; state = s })).state row (cond {A = Offered} b (evict_row (take_oldest s)) (record { offer = offer.Idle None; gone = None; state = s })).offer
evict_by s row t true e f i l = evict_place s row (take_oldest s) t refl (ltb-true t (count_by rests s.conns) e) f i l
evict_by s row t false e f i l = record { row = row; found = f; is_link = refl; idle = i }

evicted : (limits : Limits) (s : State) (row : ConnRow) → find (has_number row.conn) s.conns ≡ Some row → rests row ≡ true → sum_by (λ (r : ConnRow). one row.conn r.conn) s.conns ≤ 1 → AfterIdle (evict limits s).state row (evict limits s).offer
unfolding evict
evicted limits s row f i l = evict_by s row limits.idle_total (nat_lt limits.idle_total (count_by rests s.conns)) refl f i l

rest_by : (limits : Limits) (s : State) (row : ConnRow) (now : ℕ) (b : Bool) → sum_by (λ (r : ConnRow). one row.conn r.conn) s.conns ≡ 0
    → AfterIdle (cond {A = Offered} b (evict limits (record s { conns = s.conns ++ record row { place = Idle s.next_stamp now } ∷ []; next_stamp = s.next_stamp + 1 })) (record { offer = offer.Closed; gone = Some row; state = s })).state row (cond {A = Offered} b (evict limits (record s { conns = s.conns ++ record row { place = Idle s.next_stamp now } ∷ []; next_stamp = s.next_stamp + 1 })) (record { offer = offer.Closed; gone = Some row; state = s })).offer
rest_by limits s row now true z =
    let new : ConnRow = record row { place = Idle s.next_stamp now } in
    evicted limits (record s { conns = s.conns ++ new ∷ []; next_stamp = s.next_stamp + 1 }) new (pushed row.conn new s.conns refl z) refl
    (omega (arith, sum_by_push (λ (r : ConnRow). one row.conn r.conn) s.conns new, z, one_same row.conn))
rest_by limits s row now false z = not_there row.conn s.conns z

rested : (limits : Limits) (s : State) (row : ConnRow) (now : ℕ) → sum_by (λ (r : ConnRow). one row.conn r.conn) s.conns ≡ 0 → AfterIdle (rest limits s row now).state row (rest limits s row now).offer
unfolding rest
rested limits s row now z = rest_by limits s row now (nat_lt (count_by (rests_for row.host) s.conns) limits.idle_per_host) z

served_place : (want : ℕ) (s : State) (row : ConnRow) (p : Option ℕ × State) → find (has_number row.conn) p.1.conns ≡ Some row → is_with want row ≡ true → AfterIdle (served want p).state row (served want p).offer
served_place want s row (next, u) f o = record { row = row; found = f; is_link = refl; out = o }

offer_by : (limits : Limits) (s : State) (row : ConnRow) (now : ℕ) (o : Option WantRow) → sum_by (λ (r : ConnRow). one row.conn r.conn) s.conns ≡ 0 → AfterIdle (offer_to limits s row now o).state row (offer_to limits s row now o).offer
unfolding offer_to
offer_by limits s row now None z = rested limits s row now z
offer_by limits s row now (Some want) z =
    let new : ConnRow = record row { place = Out want.want want.caller } in
    let t = record s { wants = remove_first (wants_as want.host want.want) s.wants; conns = s.conns ++ new ∷ [] } in
    served_place want.want s new (freed limits t want) (ap (λ l. find (has_number row.conn) l) (freed_conns limits t want) ∙ pushed row.conn new s.conns refl z) (eq-eqb want.want want.want refl)

offered : (limits : Limits) (s : State) (row : ConnRow) (now : ℕ) → sum_by (λ (r : ConnRow). one row.conn r.conn) s.conns ≡ 0 → AfterIdle (offer_conn limits s row now).state row (offer_conn limits s row now).offer
unfolding offer_conn
offered limits s row now z = offer_by limits s (record row { reused = true }) now (least_want s row.host) z

-- the entry of a dial
dialed_by : (limits : Limits) (s : State) (dial : DialRow) (want link now : ℕ) (o : Option WantRow) → dial.want ≡ want → sum_by (λ (r : ConnRow). one s.next_conn r.conn) s.conns ≡ 0 → laws.Dialed (dialed_to limits s dial link now o).state want link (dialed_to limits s dial link now o).reply
unfolding dialed_to dialed_conn
dialed_by limits s dial want link now (Some row) d z =
    let new : ConnRow = record { conn = s.next_conn; host = dial.host; link = link; reused = false; place = Out dial.want dial.caller } in
    record { row = new; found = pushed s.next_conn new s.conns refl z; is_link = refl; out = eq-eqb dial.want want d }
dialed_by limits s dial want link now None d z = offered limits (record s { next_conn = s.next_conn + 1 }) (dialed_conn s dial link) now z

dialed_place : (limits : Limits) (s : State) (dial : DialRow) (want link now : ℕ) → dial.want ≡ want → Numbers s → laws.Dialed (dialed_row limits s dial link now).state want link (dialed_row limits s dial link now).reply
unfolding dialed_row
dialed_place limits s dial want link now d k = dialed_by limits (record s { dials = remove_first (dials_for dial.want) s.dials }) dial want link now (find (wants_it dial.want) s.wants) d (none_yet s k)

along_both : (s t : State) (want link : ℕ) (a b : Reply) → s ≡ t → a ≡ b → laws.Dialed t want link b → laws.Dialed s want link a
along_both s t want link a b e f k = rw (e, f) k

pub dialed_conns_are_somewhere : (limits : Limits) (before : List Entry) (caller want link now : ℕ) (answer : Reply) → IsLegal limits (before ++ entry_of caller (call.Dialed want link now) answer ∷ []) → laws.Dialed (after limits (before ++ entry_of caller (call.Dialed want link now) answer ∷ [])) want link answer
dialed_conns_are_somewhere limits before caller want link now answer l =
    let it = last limits before (entry_of caller (call.Dialed want link now) answer) l in
    let was = dialed_was limits (after limits before) caller want link now it.outcome it.fits in
    let d : was.row.want ≡ want = eqb-true was.row.want want (found_passes (dials_for want) (after limits before).dials was.row was.found) in
    along_both (after limits (before ++ entry_of caller (call.Dialed want link now) answer ∷ [])) (dialed_row limits (after limits before) was.row link now).state want link answer (dialed_row limits (after limits before) was.row link now).reply
    (it.state ∙ ap (λ (o : Outcome). o.state) was.same) (sym it.reply ∙ ap (λ (o : Outcome). o.reply) was.same)
    (dialed_place limits (after limits before) was.row want link now d (legal_numbers limits before it.legal))
