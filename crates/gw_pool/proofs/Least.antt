-- A place goes to the least waiting want of its host, and an offered connection to the least want of its host.
use Rattle.std.proofs.Common.{◌≡◌, ℕ, ◌+◌, ◌<◌, ◌≤◌, ◌==◌, ◌&&◌, ◌⊎◌, inl, inr, Bool, true, false, List, [], ◌∷◌, ◌++◌, Option, Some, None, refl, ap, sym, ◌∙◌, arith, cond, nat_lt, ltb-true, ltb-false, eqb-true, subst}
use Rattle.std.specs.List.{find, count_by, fold, filter}
use Rattle.gw_pool.specs.declared.limits.Limits.{Limits}
use Rattle.gw_pool.specs.declared.entry.Entry.{Entry}
use Rattle.gw_pool.specs.declared.entry.Call.{Call}
use Rattle.gw_pool.specs.declared.entry.Call.TheVariants as call
use Rattle.gw_pool.specs.declared.entry.Reply.TheVariants as reply
use Rattle.gw_pool.specs.declared.rows.Stage.{Stage}
use Rattle.gw_pool.specs.declared.rows.Stage.TheVariants.{Waiting, Granted, Dialing}
use Rattle.gw_pool.specs.declared.rows.Place.TheVariants.{Out}
use Rattle.gw_pool.specs.declared.rows.WantRow.{WantRow}
use Rattle.gw_pool.specs.declared.rows.ConnRow.{ConnRow}
use Rattle.gw_pool.specs.declared.rows.DialRow.{DialRow}
use Rattle.gw_pool.specs.Places.{is_granted, is_waiting}
use Rattle.gw_pool.specs.State.{State, remove_first, least_want, least_waiting, earlier, waits_for, wants_host, wants_as, wants_it, dials_for, is_with, has_number, is_free, rests, rests_for, take_oldest}
use Rattle.gw_pool.specs.Offer.{Offered, grant_to, grant, evict, evict_row, rest, freed, served, offer_to, offer_conn}
use Rattle.gw_pool.specs.Machine.{Outcome, replied, step, dialed_conn, dialed_to, dialed_row, failed_to, failed_row, cancel_row, cancel_conn, back_row, drop_row}
use Rattle.gw_pool.specs.Ties.{Among}
use Rattle.gw_pool.specs.History.{IsLegal, after}
use Rattle.gw_pool.proofs.Inverts.{dialed_was, failed_was, cancel_was, back_was, drop_was, CancelRowWas, CancelConnWas}
use Rattle.std.specs.Option.{option_map}
use Rattle.gw_pool.specs.Laws.{offered_to, next_of_offer, served_want, next_want_of, is_offered, want_host, host_of, IsLeast}
use Rattle.gw_pool.proofs.Room.{picked}
use Rattle.gw_pool.proofs.Owns.{among_left}
use Rattle.gw_pool.proofs.Weights.{dial_found, want_found}
use Rattle.gw_pool.proofs.Finds.{none_picked}
use Rattle.gw_pool.proofs.Numbers.{Numbers, legal_numbers}
use Rattle.gw_pool.proofs.SoundOffers.{Once, once_of, removed_is}
use Rattle.gw_pool.proofs.SoundSteps.{dialing_row}
use Rattle.gw_pool.proofs.Served.{with_rows, no_row}
use Rattle.gw_pool.proofs.Walk.{last}

-- the row that a fold picks is the least
pub record First (a : Option WantRow) (x : WantRow) : Type 0 where
  pub row : WantRow
  pub is : earlier a x ≡ Some row
  pub one : row.want ≤ x.want
  pub other : (b : WantRow) → a ≡ Some b → row.want ≤ b.want

first_by : (best x : WantRow) (t : Bool) → nat_lt x.want best.want ≡ t → earlier (Some best) x ≡ cond t (Some x) (Some best) → First (Some best) x
first_by best x true e f = record { row = x; is = f; one = omega arith; other = λ b g. (let less : x.want < best.want = ltb-true x.want best.want e in let same : best ≡ b = cc in let at : best.want ≡ b.want = ap (λ (r : WantRow). r.want) same in omega (arith, less, at)) }
first_by best x false e f = record { row = best; is = f; one = ltb-false x.want best.want e; other = λ b g. (let same : best ≡ b = cc in let at : best.want ≡ b.want = ap (λ (r : WantRow). r.want) same in omega (arith, at)) }

first : (a : Option WantRow) (x : WantRow) → First a x
first None x = record { row = x; is = refl; one = omega arith; other = λ b g. absurd (cc) }
first (Some best) x = first_by best x (nat_lt x.want best.want) refl refl

abbrev Leads : (WantRow → Bool) → Option WantRow → List WantRow → WantRow → Type 0
Leads t a xs r = ((b : WantRow) → a ≡ Some b → r.want ≤ b.want) × ((y : WantRow) → Among y xs → t y ≡ true → r.want ≤ y.want)

leads_step : (t : WantRow → Bool) (a : Option WantRow) (x : WantRow) (xs : List WantRow) (r : WantRow) (b : Bool) → t x ≡ b → fold earlier a (cond b (x ∷ filter t xs) (filter t xs)) ≡ Some r → ((c : Option WantRow) → fold earlier c (filter t xs) ≡ Some r → Leads t c xs r) → Leads t a (x ∷ xs) r
leads_step t a x xs r true p e k =
    let f = first a x in
    let l = k (earlier a x) e in
    let below : r.want ≤ f.row.want = l.0 f.row f.is in
    (λ b g. omega (arith, below, f.other b g), λ y m q. elim m [ inl same ↦ (let at : x.want ≡ y.want = ap (λ (z : WantRow). z.want) same in omega (arith, below, f.one, at)) | inr more ↦ l.1 y more q ])
leads_step t a x xs r false p e k =
    let l = k a e in
    (l.0, λ y m q. elim m [ inl same ↦ absurd (let bad : t x ≡ true = ap t same ∙ q in cc) | inr more ↦ l.1 y more q ])

leads : (t : WantRow → Bool) (a : Option WantRow) (xs : List WantRow) (r : WantRow) → fold earlier a (filter t xs) ≡ Some r → Leads t a xs r
leads t a [] r e = (λ b g. (let same : r ≡ b = (let both = sym e ∙ g in cc) in let at : r.want ≡ b.want = ap (λ (z : WantRow). z.want) same in omega (arith, at)), λ y m q. absurd m)
leads t a (x ∷ xs) r e = leads_step t a x xs r (t x) refl e (λ c f. leads t c xs r f)

least_is : (t : WantRow → Bool) (xs : List WantRow) (r : WantRow) (w : ℕ) → fold earlier None (filter t xs) ≡ Some r → r.want ≡ w → IsLeast t xs w
least_is t xs r w e same =
    let p = picked t xs r e in
    record { row = r; there = p.among; passes = p.passes; is_want = same; least = λ y m q. omega (arith, same, (leads t None xs r e).1 y m q) }

-- rows that fail the test change nothing
stays_step : {X : Type 0} (p : X → Bool) (r x f : X) (xs : List X) (b : Bool) → cond b (Some x) (find p xs) ≡ Some f → (x ≡ r) ⊎ Among r xs → (find p xs ≡ Some f → Among r xs → Among r (remove_first p xs) ⊎ (r ≡ f)) → Among r (cond b xs (x ∷ remove_first p xs)) ⊎ (r ≡ f)
stays_step p r x f xs true e (inl same) k = inr (let is : x ≡ f = cc in sym same ∙ is)
stays_step p r x f xs true e (inr m) k = inl m
stays_step p r x f xs false e (inl same) k = inl (inl same)
stays_step p r x f xs false e (inr m) k = elim (k e m) [ inl n ↦ inl (inr n) | inr s ↦ inr s ]

pub stays_or_is : {X : Type 0} (p : X → Bool) (r f : X) (xs : List X) → Among r xs → find p xs ≡ Some f → Among r (remove_first p xs) ⊎ (r ≡ f)
stays_or_is p r f [] m e = absurd m
stays_or_is p r f (x ∷ xs) m e = stays_step p r x f xs (p x) e m (λ g n. stays_or_is p r f xs n g)

least_more : (t p : WantRow → Bool) (xs : List WantRow) (f : WantRow) (w : ℕ) → find p xs ≡ Some f → t f ≡ false → IsLeast t (remove_first p xs) w → IsLeast t xs w
least_more t p xs f w e off l = record {
  row = l.row;
  there = among_left p l.row xs l.there;
  passes = l.passes;
  is_want = l.is_want;
  least = λ y m q. elim (stays_or_is p y f xs m e) [ inl n ↦ l.least y n q | inr same ↦ absurd (let bad : t f ≡ true = ap t (sym same) ∙ q in cc) ];
}

-- grants
off : (a b : Bool) → b ≡ false → (a && b) ≡ false
off true b e = e
off false b e = refl

granted_off : (stage : Stage) → is_granted stage ≡ true → is_waiting stage ≡ false
granted_off Waiting e = absurd (cc)
granted_off Granted e = refl
granted_off Dialing e = absurd (cc)

grant_some : (s : State) (h w : ℕ) (o : Option WantRow) → fold earlier None (filter (waits_for h) s.wants) ≡ o → (grant_to s o).0 ≡ Some w → IsLeast (waits_for h) s.wants w
unfolding grant_to
grant_some s h w None e f = absurd (cc)
grant_some s h w (Some row) e f = least_is (waits_for h) s.wants row w e (let both : Some row.want ≡ Some w = f in cc)

grant_if : (s : State) (h w : ℕ) (b : Bool) → (cond b (grant_to s (least_waiting s h)) (None, s)).0 ≡ Some w → IsLeast (waits_for h) s.wants w
unfolding least_waiting
grant_if s h w true f = grant_some s h w (least_waiting s h) refl f
grant_if s h w false f = absurd (cc)

grant_least : (limits : Limits) (s : State) (h w : ℕ) → (grant limits s h).0 ≡ Some w → IsLeast (waits_for h) s.wants w
unfolding grant
grant_least limits s h w f = grant_if s h w (is_free limits s h) f

-- offers
no_next : (p : Option ConnRow × State) → next_of_offer (evict_row p).offer ≡ None
no_next (None, s) = refl
no_next (Some row, s) = refl

no_next_by : (b : Bool) (p : Option ConnRow × State) (o : Offered) → next_of_offer o.offer ≡ None → next_of_offer (cond b (evict_row p) o).offer ≡ None
no_next_by true p o e = no_next p
no_next_by false p o e = e

no_next_if : (b : Bool) (o p : Offered) → next_of_offer o.offer ≡ None → next_of_offer p.offer ≡ None → next_of_offer (cond b o p).offer ≡ None
no_next_if true o p e f = e
no_next_if false o p e f = f

evict_next : (limits : Limits) (s : State) → next_of_offer (evict limits s).offer ≡ None
unfolding evict
evict_next limits s = no_next_by (nat_lt limits.idle_total (count_by rests s.conns)) (take_oldest s) _ refl

rest_next : (limits : Limits) (s : State) (row : ConnRow) (now : ℕ) → next_of_offer (rest limits s row now).offer ≡ None
unfolding rest
rest_next limits s row now = no_next_if (nat_lt (count_by (rests_for row.host) s.conns) limits.idle_per_host) _ _ (evict_next limits _) refl

no_served : (p : Option ConnRow × State) → offered_to (evict_row p).offer ≡ None
no_served (None, s) = refl
no_served (Some row, s) = refl

no_served_by : (b : Bool) (p : Option ConnRow × State) (o : Offered) → offered_to o.offer ≡ None → offered_to (cond b (evict_row p) o).offer ≡ None
no_served_by true p o e = no_served p
no_served_by false p o e = e

no_served_if : (b : Bool) (o p : Offered) → offered_to o.offer ≡ None → offered_to p.offer ≡ None → offered_to (cond b o p).offer ≡ None
no_served_if true o p e f = e
no_served_if false o p e f = f

evict_to : (limits : Limits) (s : State) → offered_to (evict limits s).offer ≡ None
unfolding evict
evict_to limits s = no_served_by (nat_lt limits.idle_total (count_by rests s.conns)) (take_oldest s) _ refl

pub rest_to : (limits : Limits) (s : State) (row : ConnRow) (now : ℕ) → offered_to (rest limits s row now).offer ≡ None
unfolding rest
rest_to limits s row now = no_served_if (nat_lt (count_by (rests_for row.host) s.conns) limits.idle_per_host) _ _ (evict_to limits _) refl

freed_if : (limits : Limits) (s t : State) (want : WantRow) (host w : ℕ) (b : Bool) → is_granted want.stage ≡ b → want.host ≡ host → t.wants ≡ remove_first (wants_as want.host want.want) s.wants → find (wants_as want.host want.want) s.wants ≡ Some want → (cond b (grant limits t want.host) (None, t)).0 ≡ Some w → IsLeast (waits_for host) s.wants w
freed_if limits s t want host w true g e wants f n =
    let P : ℕ → Type 0 = λ m. IsLeast (waits_for m) s.wants w in
    let Q : List WantRow → Type 0 = λ l. IsLeast (waits_for want.host) l w in
    subst P e (least_more (waits_for want.host) (wants_as want.host want.want) s.wants want w f (off (want.host == want.host) (is_waiting want.stage) (granted_off want.stage g)) (subst Q wants (grant_least limits t want.host w n)))
freed_if limits s t want host w false g e wants f n = absurd (cc)

served_next : (want w : ℕ) (p : Option ℕ × State) → next_of_offer (served want p).offer ≡ Some w → p.0 ≡ Some w
served_next want w (next, u) e = e

pub served_to : (want w : ℕ) (p : Option ℕ × State) → offered_to (served want p).offer ≡ Some w → want ≡ w
served_to want w (next, u) e = cc

offer_next_by : (limits : Limits) (s : State) (row : ConnRow) (now w : ℕ) (o : Option WantRow) → least_want s row.host ≡ o → Once s.wants → next_of_offer (offer_to limits s row now o).offer ≡ Some w → IsLeast (waits_for row.host) s.wants w
unfolding offer_to least_want freed
offer_next_by limits s row now w None e u n = absurd (let bad = sym (rest_next limits s row now) ∙ n in cc)
offer_next_by limits s row now w (Some want) e u n =
    let p = picked (wants_host row.host) s.wants want e in
    let t = record s { wants = remove_first (wants_as want.host want.want) s.wants; conns = s.conns ++ record row { place = Out want.want want.caller } ∷ [] } in
    freed_if limits s t want row.host w (is_granted want.stage) refl (eqb-true want.host row.host p.passes) refl (removed_is s want u p.among)
    (served_next want.want w (cond (is_granted want.stage) (grant limits t want.host) (None, t)) n)

offer_next : (limits : Limits) (s : State) (row : ConnRow) (now w : ℕ) → Once s.wants → next_of_offer (offer_conn limits s row now).offer ≡ Some w → IsLeast (waits_for row.host) s.wants w
unfolding offer_conn
offer_next limits s row now w u n = offer_next_by limits s (record row { reused = true }) now w (least_want s row.host) refl u n

offer_least_by : (limits : Limits) (s : State) (row : ConnRow) (now w : ℕ) (o : Option WantRow) → least_want s row.host ≡ o → offered_to (offer_to limits s row now o).offer ≡ Some w → IsLeast (wants_host row.host) s.wants w
unfolding offer_to least_want
offer_least_by limits s row now w None e n = absurd (let bad = sym (rest_to limits s row now) ∙ n in cc)
offer_least_by limits s row now w (Some want) e n =
    let t = record s { wants = remove_first (wants_as want.host want.want) s.wants; conns = s.conns ++ record row { place = Out want.want want.caller } ∷ [] } in
    least_is (wants_host row.host) s.wants want w e (served_to want.want w (freed limits t want) n)

offer_least : (limits : Limits) (s : State) (row : ConnRow) (now w : ℕ) → offered_to (offer_conn limits s row now).offer ≡ Some w → IsLeast (wants_host row.host) s.wants w
unfolding offer_conn
offer_least limits s row now w n = offer_least_by limits s (record row { reused = true }) now w (least_want s row.host) refl n

served_some : (want : ℕ) (p : Option ℕ × State) → offered_to (served want p).offer ≡ None → ⊥
served_some want (next, u) e = cc

offer_none_by : (limits : Limits) (s : State) (row : ConnRow) (now : ℕ) (o : Option WantRow) → least_want s row.host ≡ o → offered_to (offer_to limits s row now o).offer ≡ None → count_by (wants_host row.host) s.wants ≡ 0
unfolding offer_to least_want
offer_none_by limits s row now None e n = none_picked (wants_host row.host) s.wants e
offer_none_by limits s row now (Some want) e n =
    let t = record s { wants = remove_first (wants_as want.host want.want) s.wants; conns = s.conns ++ record row { place = Out want.want want.caller } ∷ [] } in
    absurd (served_some want.want (freed limits t want) n)

offer_none : (limits : Limits) (s : State) (row : ConnRow) (now : ℕ) → offered_to (offer_conn limits s row now).offer ≡ None → count_by (wants_host row.host) s.wants ≡ 0
unfolding offer_conn
offer_none limits s row now n = offer_none_by limits s (record row { reused = true }) now (least_want s row.host) refl n

dialed_none_by : (limits : Limits) (s : State) (dial : DialRow) (want link now : ℕ) (o : Option WantRow) → is_offered (dialed_to limits s dial link now o).reply ≡ true → served_want (call.Dialed want link now) (dialed_to limits s dial link now o).reply ≡ None → count_by (wants_host dial.host) s.wants ≡ 0
unfolding dialed_to dialed_conn
dialed_none_by limits s dial want link now (Some row) i n = absurd (cc)
dialed_none_by limits s dial want link now None i n = offer_none limits (record s { next_conn = s.next_conn + 1 }) (dialed_conn s dial link) now n

dialed_none : (limits : Limits) (s : State) (dial : DialRow) (want link now : ℕ) → is_offered (dialed_row limits s dial link now).reply ≡ true → served_want (call.Dialed want link now) (dialed_row limits s dial link now).reply ≡ None → count_by (wants_host dial.host) s.wants ≡ 0
unfolding dialed_row
dialed_none limits s dial want link now i n = dialed_none_by limits (record s { dials = remove_first (dials_for dial.want) s.dials }) dial want link now (find (wants_it dial.want) s.wants) i n

cancel_conn_none : (limits : Limits) (s : State) (want now : ℕ) (row : ConnRow) → served_want (call.Cancel want now) (cancel_conn limits s want row now).reply ≡ None → count_by (wants_host row.host) s.wants ≡ 0
unfolding cancel_conn
cancel_conn_none limits s want now row n = offer_none limits (record s { conns = remove_first (is_with want) s.conns }) row now n

back_none : (limits : Limits) (s : State) (row : ConnRow) (conn now : ℕ) → served_want (call.GiveBack conn now) (back_row limits s row now).reply ≡ None → count_by (wants_host row.host) s.wants ≡ 0
unfolding back_row
back_none limits s row conn now n = offer_none limits (record s { conns = remove_first (has_number row.conn) s.conns }) row now n

-- dials that end
failed_by : (limits : Limits) (s : State) (dial : DialRow) (w : ℕ) (o : Option WantRow) → find (wants_it dial.want) s.wants ≡ o → ((row : WantRow) → o ≡ Some row → is_waiting row.stage ≡ false) → next_want_of (failed_to limits s dial o).reply ≡ Some w → IsLeast (waits_for dial.host) s.wants w
unfolding failed_to
failed_by limits s dial w (Some row) e k n =
    least_more (waits_for dial.host) (wants_it dial.want) s.wants row w e (off (row.host == dial.host) (is_waiting row.stage) (k row refl))
    (grant_least limits (record s { wants = remove_first (wants_it dial.want) s.wants }) dial.host w n)
failed_by limits s dial w None e k n = grant_least limits s dial.host w n

failed_next : (limits : Limits) (s : State) (dial : DialRow) (w : ℕ) → find (dials_for dial.want) s.dials ≡ Some dial → Numbers s → next_want_of (failed_row limits s dial).reply ≡ Some w → IsLeast (waits_for dial.host) s.wants w
unfolding failed_row
failed_next limits s dial w d k n = failed_by limits (record s { dials = remove_first (dials_for dial.want) s.dials }) dial w (find (wants_it dial.want) s.wants) refl (λ row e. (dialing_row s dial row k d e).1) n

dialed_next_by : (limits : Limits) (s : State) (dial : DialRow) (link now w : ℕ) (o : Option WantRow) → Once s.wants → next_want_of (dialed_to limits s dial link now o).reply ≡ Some w → IsLeast (waits_for dial.host) s.wants w
unfolding dialed_to dialed_conn
dialed_next_by limits s dial link now w (Some row) u n = absurd (cc)
dialed_next_by limits s dial link now w None u n = offer_next limits (record s { next_conn = s.next_conn + 1 }) (dialed_conn s dial link) now w u n

dialed_next : (limits : Limits) (s : State) (dial : DialRow) (link now w : ℕ) → Once s.wants → next_want_of (dialed_row limits s dial link now).reply ≡ Some w → IsLeast (waits_for dial.host) s.wants w
unfolding dialed_row
dialed_next limits s dial link now w u n = dialed_next_by limits (record s { dials = remove_first (dials_for dial.want) s.dials }) dial link now w (find (wants_it dial.want) s.wants) u n

dialed_least_by : (limits : Limits) (s : State) (dial : DialRow) (want link now w : ℕ) (o : Option WantRow) → is_offered (dialed_to limits s dial link now o).reply ≡ true → served_want (call.Dialed want link now) (dialed_to limits s dial link now o).reply ≡ Some w → IsLeast (wants_host dial.host) s.wants w
unfolding dialed_to dialed_conn
dialed_least_by limits s dial want link now w (Some row) i n = absurd (cc)
dialed_least_by limits s dial want link now w None i n = offer_least limits (record s { next_conn = s.next_conn + 1 }) (dialed_conn s dial link) now w n

dialed_least : (limits : Limits) (s : State) (dial : DialRow) (want link now w : ℕ) → is_offered (dialed_row limits s dial link now).reply ≡ true → served_want (call.Dialed want link now) (dialed_row limits s dial link now).reply ≡ Some w → IsLeast (wants_host dial.host) s.wants w
unfolding dialed_row
dialed_least limits s dial want link now w i n = dialed_least_by limits (record s { dials = remove_first (dials_for dial.want) s.dials }) dial want link now w (find (wants_it dial.want) s.wants) i n

-- cancels
gone_next : (limits : Limits) (s : State) (row : WantRow) (w : ℕ) (b : Bool) → is_granted row.stage ≡ b → find (wants_it row.want) s.wants ≡ Some row → next_want_of (cond {A = Outcome} b (replied reply.Gone None (grant limits (record s { wants = remove_first (wants_it row.want) s.wants }) row.host)) (record { reply = reply.Gone None; gone = None; state = record s { wants = remove_first (wants_it row.want) s.wants } })).reply ≡ Some w → IsLeast (waits_for row.host) s.wants w
gone_next limits s row w true g f n =
    least_more (waits_for row.host) (wants_it row.want) s.wants row w f (off (row.host == row.host) (is_waiting row.stage) (granted_off row.stage g))
    (grant_least limits (record s { wants = remove_first (wants_it row.want) s.wants }) row.host w n)
gone_next limits s row w false g f n = absurd (cc)

cancel_next : (limits : Limits) (s : State) (row : WantRow) (w : ℕ) → find (wants_it row.want) s.wants ≡ Some row → next_want_of (cancel_row limits s row).reply ≡ Some w → IsLeast (waits_for row.host) s.wants w
unfolding cancel_row
cancel_next limits s row w f n = gone_next limits s row w (is_granted row.stage) refl f n

gone_offers : (b : Bool) (p : Option ℕ × State) (t : State) → is_offered (cond {A = Outcome} b (replied reply.Gone None p) (record { reply = reply.Gone None; gone = None; state = t })).reply ≡ false
gone_offers true p t = refl
gone_offers false p t = refl

cancel_offers : (limits : Limits) (s : State) (row : WantRow) → is_offered (cancel_row limits s row).reply ≡ false
unfolding cancel_row
cancel_offers limits s row = gone_offers (is_granted row.stage) _ _

cancel_conn_next : (limits : Limits) (s : State) (want now w : ℕ) (row : ConnRow) → Once s.wants → next_want_of (cancel_conn limits s want row now).reply ≡ Some w → IsLeast (waits_for row.host) s.wants w
unfolding cancel_conn
cancel_conn_next limits s want now w row u n = offer_next limits (record s { conns = remove_first (is_with want) s.conns }) row now w u n

cancel_conn_least : (limits : Limits) (s : State) (want now w : ℕ) (row : ConnRow) → served_want (call.Cancel want now) (cancel_conn limits s want row now).reply ≡ Some w → IsLeast (wants_host row.host) s.wants w
unfolding cancel_conn
cancel_conn_least limits s want now w row n = offer_least limits (record s { conns = remove_first (is_with want) s.conns }) row now w n

back_next : (limits : Limits) (s : State) (row : ConnRow) (now w : ℕ) → Once s.wants → next_want_of (back_row limits s row now).reply ≡ Some w → IsLeast (waits_for row.host) s.wants w
unfolding back_row
back_next limits s row now w u n = offer_next limits (record s { conns = remove_first (has_number row.conn) s.conns }) row now w u n

back_least : (limits : Limits) (s : State) (row : ConnRow) (conn now w : ℕ) → served_want (call.GiveBack conn now) (back_row limits s row now).reply ≡ Some w → IsLeast (wants_host row.host) s.wants w
unfolding back_row
back_least limits s row conn now w n = offer_least limits (record s { conns = remove_first (has_number row.conn) s.conns }) row now w n

drop_next : (limits : Limits) (s : State) (row : ConnRow) (w : ℕ) → next_want_of (drop_row limits s row).reply ≡ Some w → IsLeast (waits_for row.host) s.wants w
unfolding drop_row
drop_next limits s row w n = grant_least limits (record s { conns = remove_first (has_number row.conn) s.conns }) row.host w n

drop_offers : (limits : Limits) (s : State) (row : ConnRow) → is_offered (drop_row limits s row).reply ≡ false
unfolding drop_row
drop_offers limits s row = refl

failed_to_offers : (limits : Limits) (s : State) (dial : DialRow) (o : Option WantRow) → is_offered (failed_to limits s dial o).reply ≡ false
unfolding failed_to
failed_to_offers limits s dial (Some row) = refl
failed_to_offers limits s dial None = refl

failed_offers : (limits : Limits) (s : State) (dial : DialRow) → is_offered (failed_row limits s dial).reply ≡ false
unfolding failed_row
failed_offers limits s dial = failed_to_offers limits (record s { dials = remove_first (dials_for dial.want) s.dials }) dial (find (wants_it dial.want) s.wants)

-- the host that a call is about
at_host : {X : Type 0} (f : X → ℕ) (o : Option X) (row : X) (host : ℕ) → o ≡ Some row → option_map f o ≡ Some host → f row ≡ host
at_host f None row host e h = absurd (cc)
at_host f (Some r) row host e h = let same : r ≡ row = cc in sym (ap f same) ∙ (let at : f r ≡ host = cc in at)

want_at : (o : Option WantRow) (c : Option ConnRow) (row : WantRow) (host : ℕ) → o ≡ Some row → want_host o c ≡ Some host → row.host ≡ host
want_at None c row host e h = absurd (cc)
want_at (Some r) c row host e h = let same : r ≡ row = cc in sym (ap (λ (x : WantRow). x.host) same) ∙ (let at : r.host ≡ host = cc in at)

conn_at : (o : Option WantRow) (c : Option ConnRow) (row : ConnRow) (host : ℕ) → o ≡ None → c ≡ Some row → want_host o c ≡ Some host → row.host ≡ host
conn_at (Some r) c row host n e h = absurd (cc)
conn_at None None row host n e h = absurd (cc)
conn_at None (Some r) row host n e h = let same : r ≡ row = cc in sym (ap (λ (x : ConnRow). x.host) same) ∙ (let at : r.host ≡ host = cc in at)

to_host : (t : ℕ → WantRow → Bool) (xs : List WantRow) (a host w : ℕ) → a ≡ host → IsLeast (t a) xs w → IsLeast (t host) xs w
to_host t xs a host w e l = let P : ℕ → Type 0 = λ n. IsLeast (t n) xs w in subst P e l

pub with_none : (s : State) (want : ℕ) (row : ConnRow) → Numbers s → find (is_with want) s.conns ≡ Some row → find (wants_it want) s.wants ≡ None
with_none s want row k f = no_row want s (omega (arith, with_rows want s row f, k.occ want))

cancel_step : (limits : Limits) (s : State) (caller want now host w : ℕ) (o : Outcome) → CancelRowWas limits s caller want o ⊎ CancelConnWas limits s caller want now o → Numbers s → want_host (find (wants_it want) s.wants) (find (is_with want) s.conns) ≡ Some host → next_want_of o.reply ≡ Some w → IsLeast (waits_for host) s.wants w
cancel_step limits s caller want now host w o (inl was) k h n =
    to_host waits_for s.wants was.row.host host w (want_at (find (wants_it want) s.wants) (find (is_with want) s.conns) was.row host was.found h)
    (cancel_next limits s was.row w (want_found want s was.row was.found) (ap (λ (x : Outcome). next_want_of x.reply) (sym was.same) ∙ n))
cancel_step limits s caller want now host w o (inr was) k h n =
    to_host waits_for s.wants was.row.host host w (conn_at (find (wants_it want) s.wants) (find (is_with want) s.conns) was.row host (with_none s want was.row k was.found) was.found h)
    (cancel_conn_next limits s want now w was.row (once_of s k) (ap (λ (x : Outcome). next_want_of x.reply) (sym was.same) ∙ n))

step_next : (limits : Limits) (s : State) (caller : ℕ) (asked : Call) (o : Outcome) (host w : ℕ) → step limits s caller asked ≡ Some o → Numbers s → host_of s asked ≡ Some host → next_want_of o.reply ≡ Some w → IsLeast (waits_for host) s.wants w
step_next limits s caller (call.Want h now) o host w e k at n = absurd (cc)
step_next limits s caller (call.Start want) o host w e k at n = absurd (cc)
step_next limits s caller (call.Dialed want link now) o host w e k at n =
    let was = dialed_was limits s caller want link now o e in
    to_host waits_for s.wants was.row.host host w (at_host (λ (r : DialRow). r.host) (find (dials_for want) s.dials) was.row host was.found at)
    (dialed_next limits s was.row link now w (once_of s k) (ap (λ (x : Outcome). next_want_of x.reply) (sym was.same) ∙ n))
step_next limits s caller (call.DialFailed want) o host w e k at n =
    let was = failed_was limits s caller want o e in
    to_host waits_for s.wants was.row.host host w (at_host (λ (r : DialRow). r.host) (find (dials_for want) s.dials) was.row host was.found at)
    (failed_next limits s was.row w (dial_found want s was.row was.found) k (ap (λ (x : Outcome). next_want_of x.reply) (sym was.same) ∙ n))
step_next limits s caller (call.Cancel want now) o host w e k at n = cancel_step limits s caller want now host w o (cancel_was limits s caller want now o e) k at n
step_next limits s caller (call.GiveBack conn now) o host w e k at n =
    let was = back_was limits s caller conn now o e in
    to_host waits_for s.wants was.row.host host w (at_host (λ (r : ConnRow). r.host) (find (has_number conn) s.conns) was.row host was.found at)
    (back_next limits s was.row now w (once_of s k) (ap (λ (x : Outcome). next_want_of x.reply) (sym was.same) ∙ n))
step_next limits s caller (call.Drop conn) o host w e k at n =
    let was = drop_was limits s caller conn o e in
    to_host waits_for s.wants was.row.host host w (at_host (λ (r : ConnRow). r.host) (find (has_number conn) s.conns) was.row host was.found at)
    (drop_next limits s was.row w (ap (λ (x : Outcome). next_want_of x.reply) (sym was.same) ∙ n))
step_next limits s caller (call.Expire now) o host w e k at n = absurd (cc)
step_next limits s caller call.CloseIdle o host w e k at n = absurd (cc)

not_offered : (o p : Outcome) → o ≡ p → is_offered p.reply ≡ false → is_offered o.reply ≡ true → ⊥
not_offered o p e f g = let bad : true ≡ false = sym g ∙ ap (λ (x : Outcome). is_offered x.reply) e ∙ f in cc

cancel_to : (limits : Limits) (s : State) (caller want now host w : ℕ) (o : Outcome) → CancelRowWas limits s caller want o ⊎ CancelConnWas limits s caller want now o → Numbers s → want_host (find (wants_it want) s.wants) (find (is_with want) s.conns) ≡ Some host → is_offered o.reply ≡ true → served_want (call.Cancel want now) o.reply ≡ Some w → IsLeast (wants_host host) s.wants w
cancel_to limits s caller want now host w o (inl was) k h i n = absurd (not_offered o _ was.same (cancel_offers limits s was.row) i)
cancel_to limits s caller want now host w o (inr was) k h i n =
    to_host wants_host s.wants was.row.host host w (conn_at (find (wants_it want) s.wants) (find (is_with want) s.conns) was.row host (with_none s want was.row k was.found) was.found h)
    (cancel_conn_least limits s want now w was.row (ap (λ (x : Outcome). served_want (call.Cancel want now) x.reply) (sym was.same) ∙ n))

step_to : (limits : Limits) (s : State) (caller : ℕ) (asked : Call) (o : Outcome) (host w : ℕ) → step limits s caller asked ≡ Some o → Numbers s → host_of s asked ≡ Some host → is_offered o.reply ≡ true → served_want asked o.reply ≡ Some w → IsLeast (wants_host host) s.wants w
step_to limits s caller (call.Want h now) o host w e k at i n = absurd (cc)
step_to limits s caller (call.Start want) o host w e k at i n = absurd (cc)
step_to limits s caller (call.Dialed want link now) o host w e k at i n =
    let was = dialed_was limits s caller want link now o e in
    to_host wants_host s.wants was.row.host host w (at_host (λ (r : DialRow). r.host) (find (dials_for want) s.dials) was.row host was.found at)
    (dialed_least limits s was.row want link now w (ap (λ (x : Outcome). is_offered x.reply) (sym was.same) ∙ i) (ap (λ (x : Outcome). served_want (call.Dialed want link now) x.reply) (sym was.same) ∙ n))
step_to limits s caller (call.DialFailed want) o host w e k at i n = let was = failed_was limits s caller want o e in absurd (not_offered o _ was.same (failed_offers limits s was.row) i)
step_to limits s caller (call.Cancel want now) o host w e k at i n = cancel_to limits s caller want now host w o (cancel_was limits s caller want now o e) k at i n
step_to limits s caller (call.GiveBack conn now) o host w e k at i n =
    let was = back_was limits s caller conn now o e in
    to_host wants_host s.wants was.row.host host w (at_host (λ (r : ConnRow). r.host) (find (has_number conn) s.conns) was.row host was.found at)
    (back_least limits s was.row conn now w (ap (λ (x : Outcome). served_want (call.GiveBack conn now) x.reply) (sym was.same) ∙ n))
step_to limits s caller (call.Drop conn) o host w e k at i n = let was = drop_was limits s caller conn o e in absurd (not_offered o _ was.same (drop_offers limits s was.row) i)
step_to limits s caller (call.Expire now) o host w e k at i n = absurd (cc)
step_to limits s caller call.CloseIdle o host w e k at i n = absurd (cc)

none_at : (s : State) (a host : ℕ) → a ≡ host → count_by (wants_host a) s.wants ≡ 0 → count_by (wants_host host) s.wants ≡ 0
none_at s a host e z = let P : ℕ → Type 0 = λ n. count_by (wants_host n) s.wants ≡ 0 in subst P e z

cancel_finds : (limits : Limits) (s : State) (caller want now host : ℕ) (o : Outcome) → CancelRowWas limits s caller want o ⊎ CancelConnWas limits s caller want now o → Numbers s → want_host (find (wants_it want) s.wants) (find (is_with want) s.conns) ≡ Some host → is_offered o.reply ≡ true → served_want (call.Cancel want now) o.reply ≡ None → count_by (wants_host host) s.wants ≡ 0
cancel_finds limits s caller want now host o (inl was) k h i n = absurd (not_offered o _ was.same (cancel_offers limits s was.row) i)
cancel_finds limits s caller want now host o (inr was) k h i n =
    none_at s was.row.host host (conn_at (find (wants_it want) s.wants) (find (is_with want) s.conns) was.row host (with_none s want was.row k was.found) was.found h)
    (cancel_conn_none limits s want now was.row (ap (λ (x : Outcome). served_want (call.Cancel want now) x.reply) (sym was.same) ∙ n))

step_finds : (limits : Limits) (s : State) (caller : ℕ) (asked : Call) (o : Outcome) (host : ℕ) → step limits s caller asked ≡ Some o → Numbers s → host_of s asked ≡ Some host → is_offered o.reply ≡ true → served_want asked o.reply ≡ None → count_by (wants_host host) s.wants ≡ 0
step_finds limits s caller (call.Want h now) o host e k at i n = absurd (cc)
step_finds limits s caller (call.Start want) o host e k at i n = absurd (cc)
step_finds limits s caller (call.Dialed want link now) o host e k at i n =
    let was = dialed_was limits s caller want link now o e in
    none_at s was.row.host host (at_host (λ (r : DialRow). r.host) (find (dials_for want) s.dials) was.row host was.found at)
    (dialed_none limits s was.row want link now (ap (λ (x : Outcome). is_offered x.reply) (sym was.same) ∙ i) (ap (λ (x : Outcome). served_want (call.Dialed want link now) x.reply) (sym was.same) ∙ n))
step_finds limits s caller (call.DialFailed want) o host e k at i n = let was = failed_was limits s caller want o e in absurd (not_offered o _ was.same (failed_offers limits s was.row) i)
step_finds limits s caller (call.Cancel want now) o host e k at i n = cancel_finds limits s caller want now host o (cancel_was limits s caller want now o e) k at i n
step_finds limits s caller (call.GiveBack conn now) o host e k at i n =
    let was = back_was limits s caller conn now o e in
    none_at s was.row.host host (at_host (λ (r : ConnRow). r.host) (find (has_number conn) s.conns) was.row host was.found at)
    (back_none limits s was.row conn now (ap (λ (x : Outcome). served_want (call.GiveBack conn now) x.reply) (sym was.same) ∙ n))
step_finds limits s caller (call.Drop conn) o host e k at i n = let was = drop_was limits s caller conn o e in absurd (not_offered o _ was.same (drop_offers limits s was.row) i)
step_finds limits s caller (call.Expire now) o host e k at i n = absurd (cc)
step_finds limits s caller call.CloseIdle o host e k at i n = absurd (cc)

pub offers_find_wants : (limits : Limits) (before : List Entry) (e : Entry) (host : ℕ) → IsLegal limits (before ++ e ∷ []) → host_of (after limits before) e.call ≡ Some host → is_offered e.reply ≡ true → served_want e.call e.reply ≡ None → count_by (wants_host host) (after limits before).wants ≡ 0
offers_find_wants limits before e host l at i n =
    let it = last limits before e l in
    step_finds limits (after limits before) e.caller e.call it.outcome host it.fits (legal_numbers limits before it.legal) at (ap is_offered it.reply ∙ i) (ap (λ r. served_want e.call r) it.reply ∙ n)

pub places_go_to_least : (limits : Limits) (before : List Entry) (e : Entry) (host w : ℕ) → IsLegal limits (before ++ e ∷ []) → host_of (after limits before) e.call ≡ Some host → next_want_of e.reply ≡ Some w → IsLeast (waits_for host) (after limits before).wants w
places_go_to_least limits before e host w l at n =
    let it = last limits before e l in
    step_next limits (after limits before) e.caller e.call it.outcome host w it.fits (legal_numbers limits before it.legal) at (ap next_want_of it.reply ∙ n)

pub offers_go_to_least : (limits : Limits) (before : List Entry) (e : Entry) (host w : ℕ) → IsLegal limits (before ++ e ∷ []) → host_of (after limits before) e.call ≡ Some host → is_offered e.reply ≡ true → served_want e.call e.reply ≡ Some w → IsLeast (wants_host host) (after limits before).wants w
offers_go_to_least limits before e host w l at i n =
    let it = last limits before e l in
    step_to limits (after limits before) e.caller e.call it.outcome host w it.fits (legal_numbers limits before it.legal) at (ap is_offered it.reply ∙ i) (ap (λ r. served_want e.call r) it.reply ∙ n)
