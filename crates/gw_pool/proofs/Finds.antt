-- The row that a least want, a least stamp or a greatest stamp names is there.
use Rattle.std.proofs.Common.{◌≡◌, ℕ, ◌==◌, ◌&&◌, ◌⊎◌, inl, inr, Bool, true, false, List, [], ◌∷◌, map, filter, Option, Some, None, refl, ap, sym, ◌∙◌, arith, cond, nat_lt, eq-eqb, eqb-true, subst}
use Rattle.std.specs.List.{find, fold, count_by}
use Rattle.std.proofs.lemmas.List.Sums.{sum_by-cons}
use Rattle.gw_pool.specs.declared.rows.Place.{Place}
use Rattle.gw_pool.specs.declared.rows.Place.TheVariants.{Out, Idle}
use Rattle.gw_pool.specs.declared.rows.WantRow.{WantRow}
use Rattle.gw_pool.specs.declared.rows.ConnRow.{ConnRow}
use Rattle.gw_pool.specs.Places.{is_idle, has_stamp, stamp_of}
use Rattle.gw_pool.specs.State.{State, remove_first, earlier, lesser, greater, rests, rests_for, rests_since_stamp, rests_for_since_stamp, oldest_stamp, newest_stamp, take_stamped, take_stamped_for, take_oldest, take_newest}
use Rattle.gw_pool.specs.Ties.{Among, bit}
use Rattle.gw_pool.proofs.Edits.{found_passes}
use Rattle.gw_pool.proofs.Room.{and_both}

pub and_left : (a b : Bool) → (a && b) ≡ true → a ≡ true
and_left true b h = refl
and_left false b h = h

pub and_right : (a b : Bool) → (a && b) ≡ true → b ≡ true
and_right true b h = h
and_right false b h = absurd (cc)

-- a row that passes is found
there_step : {X : Type 0} (p : X → Bool) (x : X) (xs : List X) (b : Bool) → p x ≡ b → (b ≡ false → (r : X) × (find p xs ≡ Some r)) → (r : X) × (cond b (Some x) (find p xs) ≡ Some r)
there_step p x xs true e k = (x, refl)
there_step p x xs false e k = k refl

pub is_found : {X : Type 0} (p : X → Bool) (xs : List X) (r : X) → Among r xs → p r ≡ true → (f : X) × (find p xs ≡ Some f)
is_found p [] r m h = absurd m
is_found p (x ∷ xs) r (inl e) h = there_step p x xs (p x) refl (λ no. absurd (let yes : p x ≡ true = rw e h in cc))
is_found p (x ∷ xs) r (inr m) h = there_step p x xs (p x) refl (λ no. is_found p xs r m h)

-- no row passes where none is picked
earlier_by : (b : Bool) (best x : WantRow) → cond b (Some x) (Some best) ≡ None → ⊥
earlier_by true best x e = cc
earlier_by false best x e = cc

earlier_some : (a : Option WantRow) (x : WantRow) → earlier a x ≡ None → ⊥
earlier_some None x e = cc
earlier_some (Some best) x e = earlier_by (nat_lt x.want best.want) best x e

none_step : (t : WantRow → Bool) (a : Option WantRow) (x : WantRow) (xs : List WantRow) (b : Bool) → t x ≡ b → fold earlier a (cond b (x ∷ filter t xs) (filter t xs)) ≡ None → ((c : Option WantRow) → fold earlier c (filter t xs) ≡ None → (c ≡ None) × (count_by t xs ≡ 0)) → (a ≡ None) × (count_by t (x ∷ xs) ≡ 0)
none_step t a x xs true q e k = absurd (earlier_some a x (k (earlier a x) e).0)
none_step t a x xs false q e k = let here : bit (t x) ≡ 0 = ap bit q in let r = k a e in (r.0, omega (arith, sum_by-cons (λ (y : WantRow). cond (t y) 1 0) x xs, here, r.1))

none_fold : (t : WantRow → Bool) (a : Option WantRow) (xs : List WantRow) → fold earlier a (filter t xs) ≡ None → (a ≡ None) × (count_by t xs ≡ 0)
none_fold t a [] e = (e, refl)
none_fold t a (x ∷ xs) e = none_step t a x xs (t x) refl e (λ b h. none_fold t b xs h)

pub none_picked : (t : WantRow → Bool) (xs : List WantRow) → fold earlier None (filter t xs) ≡ None → count_by t xs ≡ 0
none_picked t xs e = (none_fold t None xs e).1

-- a stamp that was chosen of those of the rows that pass
pub record Chooses (choose : Option ℕ → ℕ → Option ℕ) : Type 0 where
  pub one_of : (a : Option ℕ) (n : ℕ) → (choose a n ≡ a) ⊎ (choose a n ≡ Some n)
  pub some : (a : Option ℕ) (n : ℕ) → choose a n ≡ None → ⊥

lesser_of : (b : Bool) (m n : ℕ) → (cond b (Some n) (Some m) ≡ Some m) ⊎ (cond b (Some n) (Some m) ≡ Some n)
lesser_of true m n = inr refl
lesser_of false m n = inl refl

either_some : (b : Bool) (m n : ℕ) → cond b (Some n) (Some m) ≡ None → ⊥
either_some true m n e = cc
either_some false m n e = cc

lesser_one : (a : Option ℕ) (n : ℕ) → (lesser a n ≡ a) ⊎ (lesser a n ≡ Some n)
lesser_one None n = inr refl
lesser_one (Some m) n = lesser_of (nat_lt n m) m n

lesser_some : (a : Option ℕ) (n : ℕ) → lesser a n ≡ None → ⊥
lesser_some None n e = cc
lesser_some (Some m) n e = either_some (nat_lt n m) m n e

greater_one : (a : Option ℕ) (n : ℕ) → (greater a n ≡ a) ⊎ (greater a n ≡ Some n)
greater_one None n = inr refl
greater_one (Some m) n = lesser_of (nat_lt m n) m n

greater_some : (a : Option ℕ) (n : ℕ) → greater a n ≡ None → ⊥
greater_some None n e = cc
greater_some (Some m) n e = either_some (nat_lt m n) m n e

chooses_least : Chooses lesser
chooses_least = record { one_of = lesser_one; some = lesser_some }

chooses_greatest : Chooses greater
chooses_greatest = record { one_of = greater_one; some = greater_some }

chosen : (choose : Option ℕ → ℕ → Option ℕ) (a : Option ℕ) (ns : List ℕ) (n : ℕ) → Chooses choose → fold choose a ns ≡ Some n → (a ≡ Some n) ⊎ Among n ns
chosen choose a [] n c e = inl e
chosen choose a (m ∷ ns) n c e = elim (chosen choose (choose a m) ns n c e) [
  | inl h ↦ elim (c.one_of a m) [ inl same ↦ inl (sym same ∙ h) | inr new ↦ inr (inl (let is : Some m ≡ Some n = sym new ∙ h in cc)) ]
  | inr h ↦ inr (inr h)
]

none_chosen : (choose : Option ℕ → ℕ → Option ℕ) (a : Option ℕ) (ns : List ℕ) → Chooses choose → fold choose a ns ≡ None → (a ≡ None) × (ns ≡ [])
none_chosen choose a [] c e = (e, refl)
none_chosen choose a (m ∷ ns) c e = absurd (c.some a m (none_chosen choose (choose a m) ns c e).0)

no_step : (p : ConnRow → Bool) (x : ConnRow) (xs : List ConnRow) (b : Bool) → p x ≡ b → map (λ (r : ConnRow). stamp_of r.place) (cond b (x ∷ filter p xs) (filter p xs)) ≡ [] → (map (λ (r : ConnRow). stamp_of r.place) (filter p xs) ≡ [] → count_by p xs ≡ 0) → count_by p (x ∷ xs) ≡ 0
no_step p x xs true q e k = absurd (cc)
no_step p x xs false q e k = let here : bit (p x) ≡ 0 = ap bit q in omega (arith, sum_by-cons (λ (r : ConnRow). cond (p r) 1 0) x xs, here, k e)

no_stamps : (p : ConnRow → Bool) (xs : List ConnRow) → map (λ (r : ConnRow). stamp_of r.place) (filter p xs) ≡ [] → count_by p xs ≡ 0
no_stamps p [] e = refl
no_stamps p (x ∷ xs) e = no_step p x xs (p x) refl e (no_stamps p xs)

stamp_step : (p : ConnRow → Bool) (q : ℕ → ConnRow → Bool) (n : ℕ) (x : ConnRow) (xs : List ConnRow) (b : Bool) → p x ≡ b → ((r : ConnRow) → p r ≡ true → q (stamp_of r.place) r ≡ true) → Among n (map (λ (r : ConnRow). stamp_of r.place) (cond b (x ∷ filter p xs) (filter p xs))) → (Among n (map (λ (r : ConnRow). stamp_of r.place) (filter p xs)) → (f : ConnRow) × Among f xs × (q n f ≡ true)) → (f : ConnRow) × Among f (x ∷ xs) × (q n f ≡ true)
stamp_step p q n x xs true e k (inl same) rest = (x, inl refl, (let P : ℕ → Type 0 = λ m. q m x ≡ true in subst P same (k x e)))
stamp_step p q n x xs true e k (inr m) rest = let r = rest m in (r.0, inr r.1, r.2)
stamp_step p q n x xs false e k m rest = let r = rest m in (r.0, inr r.1, r.2)

stamped_row : (p : ConnRow → Bool) (q : ℕ → ConnRow → Bool) (n : ℕ) (xs : List ConnRow) → ((r : ConnRow) → p r ≡ true → q (stamp_of r.place) r ≡ true) → Among n (map (λ (r : ConnRow). stamp_of r.place) (filter p xs)) → (f : ConnRow) × Among f xs × (q n f ≡ true)
stamped_row p q n [] k m = absurd m
stamped_row p q n (x ∷ xs) k m = stamp_step p q n x xs (p x) refl k m (stamped_row p q n xs k)

-- where an idle row passes, the chosen stamp finds one; else there is none
abbrev pub Chosen : (ConnRow → Bool) → (ℕ → ConnRow → Bool) → List ConnRow → Option ℕ → Type 0
Chosen p q xs None = count_by p xs ≡ 0
Chosen p q xs (Some n) = (f : ConnRow) × (find (q n) xs ≡ Some f)

chosen_is : (choose : Option ℕ → ℕ → Option ℕ) (p : ConnRow → Bool) (q : ℕ → ConnRow → Bool) (xs : List ConnRow) (o : Option ℕ) → Chooses choose → ((r : ConnRow) → p r ≡ true → q (stamp_of r.place) r ≡ true) → fold choose None (map (λ (r : ConnRow). stamp_of r.place) (filter p xs)) ≡ o → Chosen p q xs o
chosen_is choose p q xs None c k e = no_stamps p xs (none_chosen choose None (map (λ (r : ConnRow). stamp_of r.place) (filter p xs)) c e).1
chosen_is choose p q xs (Some n) c k e = elim (chosen choose None (map (λ (r : ConnRow). stamp_of r.place) (filter p xs)) n c e) [
  | inl none ↦ absurd (cc)
  | inr m ↦ (let r = stamped_row p q n xs k m in is_found (q n) xs r.0 r.1 r.2)
]

idle_stamp : (place : Place) → is_idle place ≡ true → has_stamp (stamp_of place) place ≡ true
idle_stamp (Out w c) h = absurd (cc)
idle_stamp (Idle n t) h = eq-eqb n n refl

stamp_idle : (n : ℕ) (place : Place) → has_stamp n place ≡ true → is_idle place ≡ true
stamp_idle n (Out w c) h = absurd (cc)
stamp_idle n (Idle m t) h = refl

rests_for_stamp : (host : ℕ) (r : ConnRow) → rests_for host r ≡ true → rests_for_since_stamp host (stamp_of r.place) r ≡ true
rests_for_stamp host r h = and_both (r.host == host) (has_stamp (stamp_of r.place) r.place) (and_left (r.host == host) (is_idle r.place) h) (idle_stamp r.place (and_right (r.host == host) (is_idle r.place) h))

-- the least recently idle row, where one is idle
pub record OldestOut (s : State) (row : ConnRow) : Type 0 where
  pub stamp : ℕ
  pub found : find (rests_since_stamp stamp) s.conns ≡ Some row
  pub state : (take_oldest s).1 ≡ record s { conns = remove_first (rests_since_stamp stamp) s.conns }
  pub idle : rests row ≡ true

oldest_by : (s : State) (row : ConnRow) (o : Option ℕ) → oldest_stamp s ≡ o → (take_stamped s o).0 ≡ Some row → OldestOut s row
unfolding take_oldest
oldest_by s row None e f = absurd (cc)
oldest_by s row (Some n) e f = record {
  stamp = n;
  found = f;
  state = ap (λ o. (take_stamped s o).1) e;
  idle = stamp_idle n row.place (found_passes (rests_since_stamp n) s.conns row f);
}

pub oldest_out : (s : State) (row : ConnRow) → (take_oldest s).0 ≡ Some row → OldestOut s row
unfolding take_oldest
oldest_out s row f = oldest_by s row (oldest_stamp s) refl f

none_by : (s : State) (o : Option ℕ) → Chosen rests rests_since_stamp s.conns o → (take_stamped s o).0 ≡ None → count_by rests s.conns ≡ 0
none_by s None c e = c
none_by s (Some n) c e = absurd (let bad : Some c.0 ≡ None = sym c.1 ∙ e in cc)

pub oldest_none : (s : State) → (take_oldest s).0 ≡ None → count_by rests s.conns ≡ 0
unfolding take_oldest oldest_stamp
oldest_none s e = none_by s (oldest_stamp s) (chosen_is lesser rests rests_since_stamp s.conns (oldest_stamp s) chooses_least (λ r h. idle_stamp r.place h) refl) e

-- the most recently idle row of a host, where one is idle
pub record NewestOut (s : State) (host : ℕ) (row : ConnRow) (t : State) : Type 0 where
  pub stamp : ℕ
  pub found : find (rests_for_since_stamp host stamp) s.conns ≡ Some row
  pub state : t ≡ record s { conns = remove_first (rests_for_since_stamp host stamp) s.conns }
  pub idle : rests row ≡ true
  pub is_host : row.host ≡ host

pub record NewestNone (s : State) (host : ℕ) (t : State) : Type 0 where
  pub state : t ≡ s
  pub none : count_by (rests_for host) s.conns ≡ 0

abbrev pub Newest : State → ℕ → Option ConnRow → State → Type 0
Newest s host None t = NewestNone s host t
Newest s host (Some row) t = NewestOut s host row t

newest_found : (s : State) (host n : ℕ) (o : Option ConnRow) (f : ConnRow) → find (rests_for_since_stamp host n) s.conns ≡ o → find (rests_for_since_stamp host n) s.conns ≡ Some f → Newest s host o (record s { conns = remove_first (rests_for_since_stamp host n) s.conns })
newest_found s host n None f e g = absurd (cc)
newest_found s host n (Some row) f e g =
    let passes = found_passes (rests_for_since_stamp host n) s.conns row e in
    record {
      stamp = n;
      found = e;
      state = refl;
      idle = stamp_idle n row.place (and_right (row.host == host) (has_stamp n row.place) passes);
      is_host = eqb-true row.host host (and_left (row.host == host) (has_stamp n row.place) passes);
    }

newest_by : (s : State) (host : ℕ) (o : Option ℕ) → Chosen (rests_for host) (rests_for_since_stamp host) s.conns o → Newest s host (take_stamped_for s host o).0 (take_stamped_for s host o).1
newest_by s host None c = record { state = refl; none = c }
newest_by s host (Some n) c = newest_found s host n (find (rests_for_since_stamp host n) s.conns) c.0 refl c.1

pub newest : (s : State) (host : ℕ) → Newest s host (take_newest s host).0 (take_newest s host).1
unfolding take_newest newest_stamp
newest s host = newest_by s host (newest_stamp s host) (chosen_is greater (rests_for host) (rests_for_since_stamp host) s.conns (newest_stamp s host) chooses_greatest (rests_for_stamp host) refl)
