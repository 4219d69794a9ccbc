-- What each step keeps of the limits: the places of a host, its idle connections, and who waits beside them.
use Rattle.std.proofs.Common.{◌≡◌, ℕ, ◌+◌, ◌<◌, ◌≤◌, ◌==◌, ◌&&◌, ◌||◌, ◌⊎◌, inl, inr, Bool, true, false, List, [], ◌∷◌, ◌++◌, Option, Some, None, refl, ap, sym, ◌∙◌, arith, cond, nat_lt, lt-ltb, ltb-true, eq-eqb, eqb-true, subst}
use Rattle.std.specs.List.{find, count_by}
use Rattle.std.proofs.lemmas.List.Sums.{sum_by-cons, sum_by_push}
use Rattle.gw_pool.specs.declared.limits.Limits.{Limits}
use Rattle.gw_pool.specs.declared.rows.Stage.{Stage}
use Rattle.gw_pool.specs.declared.rows.Stage.TheVariants.{Waiting, Granted, Dialing}
use Rattle.gw_pool.specs.declared.rows.WantRow.{WantRow}
use Rattle.gw_pool.specs.declared.rows.ConnRow.{ConnRow}
use Rattle.gw_pool.specs.Places.{is_granted, is_waiting, is_idle}
use Rattle.gw_pool.specs.State.{State, remove_first, used, is_free, least_waiting, wants_host, waits_for, waits_as, may_dial, dials_host, leads_to, rests, rests_for}
use Rattle.gw_pool.specs.Offer.{grant_to, grant}
use Rattle.gw_pool.specs.Ties.{one, bit}
use Rattle.gw_pool.proofs.Edits.{found_passes}
use Rattle.gw_pool.proofs.Room.{Picked, picked, removed, and_both}
use Rattle.gw_pool.proofs.Ties.{decide, one_same, one_other}
use Rattle.gw_pool.proofs.Finds.{and_left, and_right, is_found, none_picked}

-- counts of a state for a host
abbrev pub uses : State → ℕ → ℕ
uses s host = count_by (leads_to host) s.conns + count_by (dials_host host) s.dials + count_by (may_dial host) s.wants

abbrev pub waits : State → ℕ → ℕ
waits s host = count_by (waits_for host) s.wants

abbrev pub wanted : State → ℕ → ℕ
wanted s host = count_by (wants_host host) s.wants

abbrev pub idles : State → ℕ → ℕ
idles s host = count_by (rests_for host) s.conns

abbrev pub resting : State → ℕ
resting s = count_by rests s.conns

-- places that are held back while a row is in the hand of a step
abbrev pub none : ℕ → ℕ
none host = 0

abbrev pub at : ℕ → ℕ → ℕ
at x host = one host x

pub record Sound (limits : Limits) (held : ℕ → ℕ) (s : State) : Type 0 where
  pub places : (h : ℕ) → (limits.conns_per_host ≡ 0) ⊎ (uses s h + held h ≤ limits.conns_per_host)
  pub full : (h : ℕ) → (limits.conns_per_host ≡ 0) ⊎ (uses s h + held h + 1 ≤ limits.conns_per_host) → waits s h ≡ 0
  pub quiet : (h : ℕ) → 0 < idles s h → wanted s h ≡ 0
  pub per_host : (h : ℕ) → idles s h ≤ limits.idle_per_host
  pub total : resting s ≤ limits.idle_total

-- a step that moves a place
pub record Shifts (held held' : ℕ → ℕ) (s t : State) : Type 0 where
  pub uses : (h : ℕ) → uses t h + held' h ≡ uses s h + held h
  pub waits : (h : ℕ) → waits t h ≤ waits s h
  pub wanted : (h : ℕ) → wanted t h ≤ wanted s h
  pub idles : (h : ℕ) → idles t h ≤ idles s h
  pub resting : resting t ≤ resting s

pub shift : (limits : Limits) (held held' : ℕ → ℕ) (s t : State) → Sound limits held s → Shifts held held' s t → Sound limits held' t
shift limits held held' s t k m = record {
  places = λ h. elim (k.places h) [ inl z ↦ inl z | inr l ↦ inr (omega (arith, l, m.uses h)) ];
  full = λ h c. elim c [
    | inl z ↦ omega (arith, m.waits h, k.full h (inl z))
    | inr l ↦ omega (arith, m.waits h, k.full h (inr (omega (arith, l, m.uses h))))
  ];
  quiet = λ h p. omega (arith, m.wanted h, k.quiet h (omega (arith, p, m.idles h)));
  per_host = λ h. omega (arith, m.idles h, k.per_host h);
  total = omega (arith, m.resting, k.total);
}

-- a place that is held back for a host for which none waits is free
pub settle : (limits : Limits) (x : ℕ) (s : State) → Sound limits (at x) s → waits s x ≡ 0 → Sound limits none s
settle limits x s k w = record {
  places = λ h. elim (k.places h) [ inl z ↦ inl z | inr l ↦ inr (omega (arith, l)) ];
  full = λ h c. elim (decide h x) [
    | inl same ↦ (let P : ℕ → Type 0 = λ n. waits s n ≡ 0 in subst P (sym same) w)
    | inr other ↦ elim c [
      | inl z ↦ k.full h (inl z)
      | inr l ↦ k.full h (inr (omega (arith, l, one_other h x other)))
    ]
  ];
  quiet = k.quiet;
  per_host = k.per_host;
  total = k.total;
}

-- what a row adds to a count
pub and_yes : (a b : Bool) → b ≡ true → bit (a && b) ≡ bit a
and_yes true b e = ap bit e
and_yes false b e = refl

pub and_no : (a b : Bool) → b ≡ false → bit (a && b) ≡ 0
and_no true b e = ap bit e
and_no false b e = refl

and_few : (a b : Bool) → bit (a && b) ≤ bit a
and_few true true = omega arith
and_few true false = omega arith
and_few false b = omega arith

and_last : (a b : Bool) → bit (a && b) ≤ bit b
and_last true b = omega arith
and_last false true = omega arith
and_last false false = omega arith

fewer : {X : Type 0} (p q : X → Bool) (xs : List X) → ((x : X) → bit (p x) ≤ bit (q x)) → count_by p xs ≤ count_by q xs
fewer p q [] k = omega arith
fewer p q (x ∷ xs) k = omega (arith, sum_by-cons (λ y. cond (p y) 1 0) x xs, sum_by-cons (λ y. cond (q y) 1 0) x xs, k x, fewer p q xs k)

pub waits_few : (s : State) (h : ℕ) → waits s h ≤ wanted s h
waits_few s h = fewer (waits_for h) (wants_host h) s.wants (λ r. and_few (r.host == h) (is_waiting r.stage))

pub idles_few : (s : State) (h : ℕ) → idles s h ≤ resting s
idles_few s h = fewer (rests_for h) rests s.conns (λ r. and_last (r.host == h) (is_idle r.place))

-- counts of rows that are left, and of one more
pub left : {X : Type 0} (q p : X → Bool) (xs : List X) (r : X) → find p xs ≡ Some r → count_by q (remove_first p xs) + bit (q r) ≡ count_by q xs
left q p xs r f = removed (λ y. cond (q y) 1 0) p xs r f

pub more : {X : Type 0} (q : X → Bool) (xs : List X) (r : X) → count_by q (xs ++ r ∷ []) ≡ count_by q xs + bit (q r)
more q xs r = sum_by_push (λ y. cond (q y) 1 0) xs r

pub host_is : (a x h : ℕ) → a ≡ x → bit (a == h) ≡ one h x
host_is a x h e = ap (λ n. bit (n == h)) e

-- a connection's row is taken out: its place is held back
pub conn_gone : (limits : Limits) (s : State) (test : ConnRow → Bool) (row : ConnRow) → find test s.conns ≡ Some row → Sound limits none s → Sound limits (at row.host) (record s { conns = remove_first test s.conns })
conn_gone limits s test row f k = shift limits none (at row.host) s (record s { conns = remove_first test s.conns }) k (record {
  uses = λ h. omega (arith, left (leads_to h) test s.conns row f);
  waits = λ h. omega arith;
  wanted = λ h. omega arith;
  idles = λ h. omega (arith, left (rests_for h) test s.conns row f);
  resting = omega (arith, left rests test s.conns row f);
})

-- an idle connection's row is taken out
pub idle_gone : (limits : Limits) (s : State) (test : ConnRow → Bool) (row : ConnRow) → find test s.conns ≡ Some row → rests row ≡ true → Sound limits none s → Sound limits none (record s { conns = remove_first test s.conns })
idle_gone limits s test row f i k =
    let here : bit (rests_for row.host row) ≡ 1 = and_yes (row.host == row.host) (is_idle row.place) i ∙ one_same row.host in
    let some : 0 < idles s row.host = omega (arith, left (rests_for row.host) test s.conns row f, here) in
    settle limits row.host (record s { conns = remove_first test s.conns }) (conn_gone limits s test row f k)
    (omega (arith, k.quiet row.host some, waits_few s row.host))

-- a connection's row is put out: it takes the place that was held back
pub conn_out : (limits : Limits) (x : ℕ) (s : State) (row : ConnRow) → row.host ≡ x → rests row ≡ false → Sound limits (at x) s → Sound limits none (record s { conns = s.conns ++ row ∷ [] })
conn_out limits x s row e o k = shift limits (at x) none s (record s { conns = s.conns ++ row ∷ [] }) k (record {
  uses = λ h. omega (arith, more (leads_to h) s.conns row, host_is row.host x h e);
  waits = λ h. omega arith;
  wanted = λ h. omega arith;
  idles = λ h. omega (arith, more (rests_for h) s.conns row, and_no (row.host == h) (is_idle row.place) o);
  resting = omega (arith, more rests s.conns row, ap bit o);
})

-- whether a place is free
or_none : (a b : Bool) → (a || b) ≡ false → (a ≡ false) × (b ≡ false)
or_none true b e = absurd (cc)
or_none false b e = (refl, e)

or_one : (a b : Bool) → (a || b) ≡ true → (a ≡ true) ⊎ (b ≡ true)
or_one true b e = inl refl
or_one false b e = inr e

or_right : (a b : Bool) → b ≡ true → (a || b) ≡ true
or_right true b e = refl
or_right false b e = e

pub free_is : (limits : Limits) (s : State) (h : ℕ) → is_free limits s h ≡ true → (limits.conns_per_host ≡ 0) ⊎ (uses s h + 1 ≤ limits.conns_per_host)
unfolding is_free used
free_is limits s h e = elim (or_one (limits.conns_per_host == 0) (nat_lt (uses s h) limits.conns_per_host) e) [
  | inl z ↦ inl (eqb-true limits.conns_per_host 0 z)
  | inr l ↦ inr (let m : uses s h < limits.conns_per_host = ltb-true (uses s h) limits.conns_per_host l in omega (arith, m))
]

pub is_free_at : (limits : Limits) (s : State) (h : ℕ) → (limits.conns_per_host ≡ 0) ⊎ (uses s h + 1 ≤ limits.conns_per_host) → is_free limits s h ≡ true
unfolding is_free used
is_free_at limits s h (inl z) = ap (λ b. b || nat_lt (uses s h) limits.conns_per_host) (eq-eqb limits.conns_per_host 0 z)
is_free_at limits s h (inr l) = or_right (limits.conns_per_host == 0) (nat_lt (uses s h) limits.conns_per_host) (lt-ltb (uses s h) limits.conns_per_host (omega (arith, l)))

-- a place that is held back goes to the next that waits
granted_off : (stage : Stage) → is_waiting stage ≡ true → is_granted stage ≡ false
granted_off Waiting e = refl
granted_off Granted e = absurd (cc)
granted_off Dialing e = absurd (cc)

grant_row : (limits : Limits) (x : ℕ) (s : State) (row : WantRow) → Picked (waits_for x) s.wants row → Sound limits (at x) s → Sound limits none (grant_to s (Some row)).1
unfolding grant_to
grant_row limits x s row p k =
    let is_host : row.host ≡ x = eqb-true row.host x (and_left (row.host == x) (is_waiting row.stage) p.passes) in
    let is_wait : is_waiting row.stage ≡ true = and_right (row.host == x) (is_waiting row.stage) p.passes in
    let test = waits_as row.host row.want in
    let found = is_found test s.wants row p.among
    (and_both ((row.host == row.host) && is_waiting row.stage) (row.want == row.want) (and_both (row.host == row.host) (is_waiting row.stage) (eq-eqb row.host row.host refl) is_wait) (eq-eqb row.want row.want refl)) in
    let r = found.0 in
    let passes = and_left ((r.host == row.host) && is_waiting r.stage) (r.want == row.want) (found_passes test s.wants r found.1) in
    let r_host : r.host ≡ x = eqb-true r.host row.host (and_left (r.host == row.host) (is_waiting r.stage) passes) ∙ is_host in
    let r_wait : is_waiting r.stage ≡ true = and_right (r.host == row.host) (is_waiting r.stage) passes in
    let now : WantRow = record row { stage = Granted } in
    let gone = remove_first test s.wants in
    shift limits (at x) none s (record s { wants = gone ++ now ∷ [] }) k (record {
      uses = λ h. omega (
        arith,
        left (may_dial h) test s.wants r found.1,
        and_no (r.host == h) (is_granted r.stage) (granted_off r.stage r_wait),
        more (may_dial h) gone now,
        and_yes (row.host == h) true refl,
        host_is row.host x h is_host,
      );
      waits = λ h. omega (arith, left (waits_for h) test s.wants r found.1, more (waits_for h) gone now, and_no (row.host == h) false refl);
      wanted = λ h. omega (arith, left (wants_host h) test s.wants r found.1, more (wants_host h) gone now, host_is row.host x h is_host, host_is r.host x h r_host);
      idles = λ h. omega arith;
      resting = omega arith;
    })

grant_picked : (limits : Limits) (x : ℕ) (s : State) (o : Option WantRow) → least_waiting s x ≡ o → Sound limits (at x) s → Sound limits none (grant_to s o).1
unfolding grant_to least_waiting
grant_picked limits x s None e k = settle limits x s k (none_picked (waits_for x) s.wants e)
grant_picked limits x s (Some row) e k = grant_row limits x s row (picked (waits_for x) s.wants row e) k

grant_if : (limits : Limits) (x : ℕ) (s : State) (b : Bool) → is_free limits s x ≡ b → Sound limits (at x) s → Sound limits none (cond b (grant_to s (least_waiting s x)) (None, s)).1
grant_if limits x s true e k = grant_picked limits x s (least_waiting s x) refl k
grant_if limits x s false e k =
    let free : is_free limits s x ≡ true = is_free_at limits s x (elim (k.places x) [ inl z ↦ inl z | inr l ↦ inr (omega (arith, l, one_same x)) ]) in
    absurd (let bad : true ≡ false = sym free ∙ e in cc)

pub grant_sound : (limits : Limits) (x : ℕ) (s : State) → Sound limits (at x) s → Sound limits none (grant limits s x).1
unfolding grant
grant_sound limits x s k = grant_if limits x s (is_free limits s x) refl k
