-- Each step of the machine keeps the limits.
use Rattle.std.proofs.Common.{◌≡◌, ℕ, ◌+◌, ◌<◌, ◌≤◌, ◌==◌, inl, inr, Bool, true, false, List, [], ◌∷◌, ◌++◌, Option, Some, None, refl, ap, sym, ◌∙◌, arith, cond, nat_lt, ltb-true, ltb-false, eq-eqb, eqb-true, subst}
use Rattle.std.specs.List.{find, sum_by}
use Rattle.std.proofs.lemmas.List.Sums.{sum_by-cons}
use Rattle.gw_pool.specs.declared.limits.Limits.{Limits}
use Rattle.gw_pool.specs.declared.rows.Stage.{Stage}
use Rattle.gw_pool.specs.declared.rows.Stage.TheVariants.{Waiting, Granted, Dialing}
use Rattle.gw_pool.specs.declared.rows.Place.{Place}
use Rattle.gw_pool.specs.declared.rows.Place.TheVariants.{Out, Idle}
use Rattle.gw_pool.specs.declared.rows.WantRow.{WantRow}
use Rattle.gw_pool.specs.declared.rows.ConnRow.{ConnRow}
use Rattle.gw_pool.specs.Places.{is_granted, is_idle}
use Rattle.gw_pool.specs.State.{State, remove_first, least_want, wants_host, waits_for, wants_as, may_dial, leads_to, rests, rests_for, rests_since_stamp, take_oldest}
use Rattle.gw_pool.specs.Offer.{Offered, grant, evict, evict_row, rest, freed, served, offer_to, offer_conn}
use Rattle.gw_pool.specs.Ties.{Among, one, bit}
use Rattle.gw_pool.proofs.Edits.{found_passes}
use Rattle.gw_pool.proofs.Owns.{found_among}
use Rattle.gw_pool.proofs.Ties.{decide, one_same, one_other}
use Rattle.gw_pool.proofs.Room.{picked, and_both}
use Rattle.gw_pool.proofs.Finds.{and_right, is_found, none_picked, oldest_out, oldest_none}
use Rattle.gw_pool.proofs.Weights.{weight, want_weight, stage_weight}
use Rattle.gw_pool.proofs.Ties.{occ_of}
use Rattle.gw_pool.proofs.Numbers.{Numbers}
use Rattle.gw_pool.proofs.Sound.{uses, wanted, idles, resting, none, at, Sound, shift, settle, idle_gone, conn_out, grant_sound, waits_few, left, more, host_is, and_yes, and_no}

-- a want stands in one row
abbrev pub Once : List WantRow → Type 0
Once xs = (w : ℕ) → sum_by (λ (r : WantRow). one w r.want) xs ≤ 1

stage_one : (w : ℕ) (stage : Stage) (n : ℕ) → stage_weight (occ_of w) stage n ≡ one w n
stage_one w Waiting n = refl
stage_one w Granted n = refl
stage_one w Dialing n = refl

few_wants : (w : ℕ) (xs : List WantRow) → sum_by (λ (r : WantRow). one w r.want) xs ≤ sum_by (want_weight (occ_of w)) xs
few_wants w [] = omega arith
few_wants w (x ∷ xs) = omega (arith, sum_by-cons (λ (r : WantRow). one w r.want) x xs, sum_by-cons (want_weight (occ_of w)) x xs, stage_one w x.stage x.want, few_wants w xs)

pub once_of : (s : State) → Numbers s → Once s.wants
unfolding weight
once_of s k w = omega (arith, few_wants w s.wants, k.occ w)

one_among : (w : ℕ) (a : WantRow) (xs : List WantRow) → Among a xs → a.want ≡ w → 1 ≤ sum_by (λ (r : WantRow). one w r.want) xs
one_among w a [] m e = absurd m
one_among w a (x ∷ xs) (inl same) e = let here : one w x.want ≡ 1 = ap (λ (r : WantRow). one w r.want) same ∙ ap (λ n. one w n) e ∙ one_same w in omega (arith, sum_by-cons (λ (r : WantRow). one w r.want) x xs, here)
one_among w a (x ∷ xs) (inr m) e = omega (arith, sum_by-cons (λ (r : WantRow). one w r.want) x xs, one_among w a xs m e)

pub same_row : (w : ℕ) (a b : WantRow) (xs : List WantRow) → sum_by (λ (r : WantRow). one w r.want) xs ≤ 1 → Among a xs → Among b xs → a.want ≡ w → b.want ≡ w → a ≡ b
same_row w a b [] l m n e f = absurd m
same_row w a b (x ∷ xs) l (inl p) (inl q) e f = sym p ∙ q
same_row w a b (x ∷ xs) l (inl p) (inr n) e f = absurd (let here : one w x.want ≡ 1 = ap (λ (r : WantRow). one w r.want) p ∙ ap (λ k. one w k) e ∙ one_same w in omega (arith, sum_by-cons (λ (r : WantRow). one w r.want) x xs, here, one_among w b xs n f, l))
same_row w a b (x ∷ xs) l (inr m) (inl q) e f = absurd (let here : one w x.want ≡ 1 = ap (λ (r : WantRow). one w r.want) q ∙ ap (λ k. one w k) f ∙ one_same w in omega (arith, sum_by-cons (λ (r : WantRow). one w r.want) x xs, here, one_among w a xs m e, l))
same_row w a b (x ∷ xs) l (inr m) (inr n) e f = same_row w a b xs (omega (arith, sum_by-cons (λ (r : WantRow). one w r.want) x xs, l)) m n e f

-- the row of a want by its host and number is the row of that want
pub removed_is : (s : State) (want : WantRow) → Once s.wants → Among want s.wants → find (wants_as want.host want.want) s.wants ≡ Some want
removed_is s want o m =
    let found = is_found (wants_as want.host want.want) s.wants want m (and_both (want.host == want.host) (want.want == want.want) (eq-eqb want.host want.host refl) (eq-eqb want.want want.want refl)) in
    let passes = found_passes (wants_as want.host want.want) s.wants found.0 found.1 in
    let number : found.0.want ≡ want.want = eqb-true found.0.want want.want (and_right (found.0.host == want.host) (found.0.want == want.want) passes) in
    let same : found.0 ≡ want = same_row want.want found.0 want s.wants (o want.want) (found_among (wants_as want.host want.want) found.0 s.wants found.1) m number refl in
    found.1 ∙ ap (λ r. Some r) same

-- other numbers
pub numbered : (limits : Limits) (held : ℕ → ℕ) (s : State) (a b c : ℕ) → Sound limits held s → Sound limits held (record s { next_want = a; next_conn = b; next_stamp = c })
numbered limits held s a b c k = record { places = k.places; full = k.full; quiet = k.quiet; per_host = k.per_host; total = k.total }

-- one idle connection more than the limit permits
abbrev crowded : Limits → Limits
crowded limits = record limits { idle_total = limits.idle_total + 1 }

tighten : (limits : Limits) (s : State) → resting s ≤ limits.idle_total → Sound (crowded limits) none s → Sound limits none s
tighten limits s l k = record { places = k.places; full = k.full; quiet = k.quiet; per_host = k.per_host; total = l }

evict_taken : (limits : Limits) (s : State) (p : Option ConnRow × State) → take_oldest s ≡ p → limits.idle_total < resting s → Sound (crowded limits) none s → Sound limits none (evict_row p).state
evict_taken limits s (None, t) e l k = absurd (omega (arith, oldest_none s (ap (λ (p : Option ConnRow × State). p.0) e), l))
evict_taken limits s (Some row, t) e l k =
    let out = oldest_out s row (ap (λ (p : Option ConnRow × State). p.0) e) in
    let now : t ≡ record s { conns = remove_first (rests_since_stamp out.stamp) s.conns } = sym (ap (λ (p : Option ConnRow × State). p.1) e) ∙ out.state in
    rw now (tighten limits (record s { conns = remove_first (rests_since_stamp out.stamp) s.conns })
    (omega (arith, left rests (rests_since_stamp out.stamp) s.conns row out.found, ap bit out.idle, k.total))
    (idle_gone (crowded limits) s (rests_since_stamp out.stamp) row out.found out.idle k))

evict_by : (limits : Limits) (s : State) (b : Bool) (o : Offered) → nat_lt limits.idle_total (resting s) ≡ b → o.state ≡ s → Sound (crowded limits) none s → Sound limits none (cond b (evict_row (take_oldest s)) o).state
evict_by limits s true o e f k = evict_taken limits s (take_oldest s) refl (ltb-true limits.idle_total (resting s) e) k
evict_by limits s false o e f k = rw f (tighten limits s (ltb-false limits.idle_total (resting s) e) k)

evict_sound : (limits : Limits) (s : State) → Sound (crowded limits) none s → Sound limits none (evict limits s).state
unfolding evict
evict_sound limits s k = evict_by limits s (nat_lt limits.idle_total (resting s)) _ refl refl k

-- a connection whose host has no want
rested : (limits : Limits) (s : State) (row : ConnRow) (n now : ℕ) → wanted s row.host ≡ 0 → idles s row.host < limits.idle_per_host → Sound limits (at row.host) s → Sound (crowded limits) none (record s { conns = s.conns ++ record row { place = Idle n now } ∷ [] })
rested limits s row n now w l k =
    let new : ConnRow = record row { place = Idle n now } in
    let idle : (h : ℕ) → idles (record s { conns = s.conns ++ new ∷ [] }) h ≡ idles s h + one h row.host = λ h. more (rests_for h) s.conns new ∙ ap (λ m. idles s h + m) (and_yes (row.host == h) true refl) in
    let used_by : (h : ℕ) → uses (record s { conns = s.conns ++ new ∷ [] }) h ≡ uses s h + one h row.host = λ h. omega (arith, more (leads_to h) s.conns new) in
    record {
      places = λ h. elim (k.places h) [ inl z ↦ inl z | inr m ↦ inr (omega (arith, m, used_by h)) ];
      full = λ h c. elim c [ inl z ↦ k.full h (inl z) | inr m ↦ k.full h (inr (omega (arith, m, used_by h))) ];
      quiet = λ h p. elim (decide h row.host) [
        | inl same ↦ (let P : ℕ → Type 0 = λ m. wanted s m ≡ 0 in subst P (sym same) w)
        | inr other ↦ k.quiet h (omega (arith, p, idle h, one_other h row.host other))
      ];
      per_host = λ h. elim (decide h row.host) [
        | inl same ↦ (let P : ℕ → Type 0 = λ m. idles s m < limits.idle_per_host in let q : idles s h < limits.idle_per_host = subst P (sym same) l in omega (arith, idle h, q, ap (λ m. one h m) (sym same) ∙ one_same h))
        | inr other ↦ omega (arith, k.per_host h, idle h, one_other h row.host other)
      ];
      total = omega (arith, more rests s.conns new, k.total);
    }

rest_by : (limits : Limits) (s : State) (row : ConnRow) (now : ℕ) (b : Bool) (o : Offered) → nat_lt (idles s row.host) limits.idle_per_host ≡ b → o.state ≡ s → wanted s row.host ≡ 0 → Sound limits (at row.host) s → Sound limits none (cond b (evict limits (record s { conns = s.conns ++ record row { place = Idle s.next_stamp now } ∷ []; next_stamp = s.next_stamp + 1 })) o).state
rest_by limits s row now true o e f w k =
    let t = record s { conns = s.conns ++ record row { place = Idle s.next_stamp now } ∷ [] } in
    evict_sound limits (record t { next_stamp = s.next_stamp + 1 }) (numbered (crowded limits) none t s.next_want s.next_conn (s.next_stamp + 1) (rested limits s row s.next_stamp now w (ltb-true (idles s row.host) limits.idle_per_host e) k))
rest_by limits s row now false o e f w k = rw f (settle limits row.host s k (omega (arith, w, waits_few s row.host)))

rest_sound : (limits : Limits) (s : State) (row : ConnRow) (now : ℕ) → wanted s row.host ≡ 0 → Sound limits (at row.host) s → Sound limits none (rest limits s row now).state
unfolding rest
rest_sound limits s row now w k = rest_by limits s row now (nat_lt (idles s row.host) limits.idle_per_host) _ refl refl w k

-- a want's row is taken out: the place of one that may dial is held back
pub want_gone_granted : (limits : Limits) (s : State) (test : WantRow → Bool) (row : WantRow) → find test s.wants ≡ Some row → is_granted row.stage ≡ true → Sound limits none s → Sound limits (at row.host) (record s { wants = remove_first test s.wants })
want_gone_granted limits s test row f g k = shift limits none (at row.host) s (record s { wants = remove_first test s.wants }) k (record {
  uses = λ h. omega (arith, left (may_dial h) test s.wants row f, and_yes (row.host == h) (is_granted row.stage) g);
  waits = λ h. omega (arith, left (waits_for h) test s.wants row f);
  wanted = λ h. omega (arith, left (wants_host h) test s.wants row f);
  idles = λ h. omega arith;
  resting = omega arith;
})

pub want_gone : (limits : Limits) (held : ℕ → ℕ) (s : State) (test : WantRow → Bool) (row : WantRow) → find test s.wants ≡ Some row → is_granted row.stage ≡ false → Sound limits held s → Sound limits held (record s { wants = remove_first test s.wants })
want_gone limits held s test row f g k = shift limits held held s (record s { wants = remove_first test s.wants }) k (record {
  uses = λ h. omega (arith, left (may_dial h) test s.wants row f, and_no (row.host == h) (is_granted row.stage) g);
  waits = λ h. omega (arith, left (waits_for h) test s.wants row f);
  wanted = λ h. omega (arith, left (wants_host h) test s.wants row f);
  idles = λ h. omega arith;
  resting = omega arith;
})

-- an offered connection serves a want: the place that this held is held back in its stead
given_granted : (limits : Limits) (x : ℕ) (s : State) (row : ConnRow) (want : WantRow) (place : Place) → row.host ≡ x → want.host ≡ x → is_idle place ≡ false → is_granted want.stage ≡ true → find (wants_as want.host want.want) s.wants ≡ Some want → Sound limits (at x) s → Sound limits (at x) (record s { wants = remove_first (wants_as want.host want.want) s.wants; conns = s.conns ++ record row { place = place } ∷ [] })
given_granted limits x s row want place e f i g m k =
    let new : ConnRow = record row { place = place } in
    let test = wants_as want.host want.want in
    shift limits (at x) (at x) s (record s { wants = remove_first test s.wants; conns = s.conns ++ new ∷ [] }) k (record {
      uses = λ h. omega (arith, left (may_dial h) test s.wants want m, and_yes (want.host == h) (is_granted want.stage) g, host_is want.host x h f, more (leads_to h) s.conns new, host_is row.host x h e);
      waits = λ h. omega (arith, left (waits_for h) test s.wants want m);
      wanted = λ h. omega (arith, left (wants_host h) test s.wants want m);
      idles = λ h. omega (arith, more (rests_for h) s.conns new, and_no (row.host == h) (is_idle place) i);
      resting = omega (arith, more rests s.conns new, ap bit i);
    })

freed_by : (limits : Limits) (x : ℕ) (s : State) (row : ConnRow) (want : WantRow) (b : Bool) → is_granted want.stage ≡ b → row.host ≡ x → want.host ≡ x → find (wants_as want.host want.want) s.wants ≡ Some want → Sound limits (at x) s
    → Sound limits none (cond b (grant limits (record s { wants = remove_first (wants_as want.host want.want) s.wants; conns = s.conns ++ record row { place = Out want.want want.caller } ∷ [] }) want.host) (None, record s { wants = remove_first (wants_as want.host want.want) s.wants; conns = s.conns ++ record row { place = Out want.want want.caller } ∷ [] })).1
freed_by limits x s row want true g e f m k =
    let t = record s { wants = remove_first (wants_as want.host want.want) s.wants; conns = s.conns ++ record row { place = Out want.want want.caller } ∷ [] } in
    let Q : ℕ → Type 0 = λ n. Sound limits none (grant limits t n).1 in
    subst Q (sym f) (grant_sound limits x t (given_granted limits x s row want (Out want.want want.caller) e f refl g m k))
freed_by limits x s row want false g e f m k =
    conn_out limits x (record s { wants = remove_first (wants_as want.host want.want) s.wants }) (record row { place = Out want.want want.caller }) e refl (want_gone limits (at x) s (wants_as want.host want.want) want m g k)

served_by : (limits : Limits) (p : Option ℕ × State) (want : ℕ) → Sound limits none p.1 → Sound limits none (served want p).state
served_by limits (next, u) want k = k

offer_by : (limits : Limits) (s : State) (row : ConnRow) (now : ℕ) (o : Option WantRow) → least_want s row.host ≡ o → Once s.wants → Sound limits (at row.host) s → Sound limits none (offer_to limits s row now o).state
unfolding offer_to least_want freed
offer_by limits s row now None e o k = rest_sound limits s row now (none_picked (wants_host row.host) s.wants e) k
offer_by limits s row now (Some want) e o k =
    let p = picked (wants_host row.host) s.wants want e in
    let host : want.host ≡ row.host = eqb-true want.host row.host p.passes in
    served_by limits (cond (is_granted want.stage) (grant limits (record s { wants = remove_first (wants_as want.host want.want) s.wants; conns = s.conns ++ record row { place = Out want.want want.caller } ∷ [] }) want.host) (None, record s { wants = remove_first (wants_as want.host want.want) s.wants; conns = s.conns ++ record row { place = Out want.want want.caller } ∷ [] })) want.want
    (freed_by limits row.host s row want (is_granted want.stage) refl refl host (removed_is s want o p.among) k)

pub offer_sound : (limits : Limits) (s : State) (row : ConnRow) (now : ℕ) → Once s.wants → Sound limits (at row.host) s → Sound limits none (offer_conn limits s row now).state
unfolding offer_conn
offer_sound limits s row now o k = offer_by limits s (record row { reused = true }) now (least_want s row.host) refl o k
