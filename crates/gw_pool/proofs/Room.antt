-- What a step does to the room that the rows need, and to the next numbers.
use Rattle.std.proofs.Common.{◌≡◌, ℕ, ◌+◌, ◌≤◌, ◌==◌, ◌&&◌, ◌⊎◌, inl, inr, Bool, true, false, List, [], ◌∷◌, length, Option, Some, None, refl, sym, ◌∙◌, arith, cond, nat_lt, eq-eqb}
use Rattle.std.specs.List.{find, sum_by, filter, fold}
use Rattle.std.proofs.lemmas.List.Sums.{sum_by-cons, sum_by_push}
use Rattle.gw_pool.specs.declared.limits.Limits.{Limits}
use Rattle.gw_pool.specs.declared.rows.Stage.{Stage}
use Rattle.gw_pool.specs.declared.rows.Stage.TheVariants.{Waiting, Granted, Dialing}
use Rattle.gw_pool.specs.declared.rows.WantRow.{WantRow}
use Rattle.gw_pool.specs.Places.{want_room, is_waiting}
use Rattle.gw_pool.specs.State.{State, remove_first, earlier, least_waiting, waits_for, waits_as, is_free}
use Rattle.gw_pool.specs.Offer.{grant_to, grant}
use Rattle.gw_pool.specs.History.{room}
pub use Rattle.gw_pool.specs.Ties.{Among}

-- a sum loses the term of the row that is found and taken out
removed_step : {X : Type 0} (f : X → ℕ) (b : Bool) (p : X → Bool) (x r : X) (xs : List X) → cond b (Some x) (find p xs) ≡ Some r → (find p xs ≡ Some r → sum_by f (remove_first p xs) + f r ≡ sum_by f xs) → sum_by f (cond b xs (x ∷ remove_first p xs)) + f r ≡ sum_by f (x ∷ xs)
removed_step f true p x r xs h k = let same : r ≡ x = cc in rw same (omega (arith, sum_by-cons f x xs))
removed_step f false p x r xs h k = omega (arith, sum_by-cons f x (remove_first p xs), sum_by-cons f x xs, k h)

pub removed : {X : Type 0} (f : X → ℕ) (p : X → Bool) (xs : List X) (r : X) → find p xs ≡ Some r → sum_by f (remove_first p xs) + f r ≡ sum_by f xs
removed f p [] r h = absurd (cc)
removed f p (x ∷ xs) r h = removed_step f (p x) p x r xs h (removed f p xs r)

len_step : {X : Type 0} (b : Bool) (p : X → Bool) (x r : X) (xs : List X) → cond b (Some x) (find p xs) ≡ Some r → (find p xs ≡ Some r → length (remove_first p xs) + 1 ≡ length xs) → length (cond b xs (x ∷ remove_first p xs)) + 1 ≡ length (x ∷ xs)
len_step true p x r xs h k = omega arith
len_step false p x r xs h k = omega (arith, k h)

pub removed_length : {X : Type 0} (p : X → Bool) (xs : List X) (r : X) → find p xs ≡ Some r → length (remove_first p xs) + 1 ≡ length xs
removed_length p [] r h = absurd (cc)
removed_length p (x ∷ xs) r h = len_step (p x) p x r xs h (removed_length p xs r)

left_sum : {X : Type 0} (f : X → ℕ) (b : Bool) (p : X → Bool) (x : X) (xs : List X) → sum_by f (remove_first p xs) ≤ sum_by f xs → sum_by f (cond b xs (x ∷ remove_first p xs)) ≤ sum_by f (x ∷ xs)
left_sum f true p x xs h = omega (arith, sum_by-cons f x xs)
left_sum f false p x xs h = omega (arith, sum_by-cons f x xs, sum_by-cons f x (remove_first p xs), h)

pub sum_left : {X : Type 0} (f : X → ℕ) (p : X → Bool) (xs : List X) → sum_by f (remove_first p xs) ≤ sum_by f xs
sum_left f p [] = omega arith
sum_left f p (x ∷ xs) = left_sum f (p x) p x xs (sum_left f p xs)

-- a sum loses at least what each row that passes adds, where such a row is there
lost_step : {X : Type 0} (f : X → ℕ) (p : X → Bool) (low : ℕ) (x : X) (xs : List X) (b : Bool) → p x ≡ b → ((y : X) → p y ≡ true → low ≤ f y) → (b ≡ false → sum_by f (remove_first p xs) + low ≤ sum_by f xs) → sum_by f (cond b xs (x ∷ remove_first p xs)) + low ≤ sum_by f (x ∷ xs)
lost_step f p low x xs true e each k = omega (arith, sum_by-cons f x xs, each x e)
lost_step f p low x xs false e each k = omega (arith, sum_by-cons f x (remove_first p xs), sum_by-cons f x xs, k refl)

pub lost : {X : Type 0} (f : X → ℕ) (p : X → Bool) (low : ℕ) (xs : List X) (r : X) → ((y : X) → p y ≡ true → low ≤ f y) → p r ≡ true → Among r xs → sum_by f (remove_first p xs) + low ≤ sum_by f xs
lost f p low [] r each h m = absurd m
lost f p low (x ∷ xs) r each h (inl e) = lost_step f p low x xs (p x) refl each (λ no_pass. absurd (let passes : p x ≡ true = (rw e h) in cc))
lost f p low (x ∷ xs) r each h (inr m) = lost_step f p low x xs (p x) refl each (λ _. lost f p low xs r each h m)

-- the row that was picked is there, and passes
pub record Picked (t : WantRow → Bool) (xs : List WantRow) (r : WantRow) : Type 0 where
  pub among : Among r xs
  pub passes : t r ≡ true

earlier_by : (b : Bool) (best x : WantRow) → (cond b (Some x) (Some best) ≡ Some best) ⊎ (cond b (Some x) (Some best) ≡ Some x)
earlier_by true best x = inr refl
earlier_by false best x = inl refl

earlier_is : (a : Option WantRow) (x : WantRow) → (earlier a x ≡ a) ⊎ (earlier a x ≡ Some x)
earlier_is None x = inr refl
earlier_is (Some best) x = earlier_by (nat_lt x.want best.want) best x

more : (t : WantRow → Bool) (x : WantRow) (xs : List WantRow) (r : WantRow) → Picked t xs r → Picked t (x ∷ xs) r
more t x xs r p = record { among = inr p.among; passes = p.passes }

-- a fold from `a` gives `a` or a row that was picked
Folds : (t : WantRow → Bool) (a : Option WantRow) (xs : List WantRow) (r : WantRow) → Type 0
Folds t a xs r = (a ≡ Some r) ⊎ Picked t xs r

folds_more : (t : WantRow → Bool) (a : Option WantRow) (x : WantRow) (xs : List WantRow) (r : WantRow) → t x ≡ true → Folds t (earlier a x) xs r → Folds t a (x ∷ xs) r
unfolding Folds
folds_more t a x xs r e (inr p) = inr (more t x xs r p)
folds_more t a x xs r e (inl h) =
    elim (earlier_is a x) [ inl same ↦ inl (sym same ∙ h) | inr new ↦ (let is : x ≡ r = cc in inr (record { among = inl is; passes = rw (sym is) e })) ]

folds_step : (t : WantRow → Bool) (a : Option WantRow) (x : WantRow) (xs : List WantRow) (r : WantRow) (b : Bool) → t x ≡ b → ((a' : Option WantRow) → fold earlier a' (filter t xs) ≡ Some r → Folds t a' xs r) → fold earlier a (cond b (x ∷ filter t xs) (filter t xs)) ≡ Some r → Folds t a (x ∷ xs) r
unfolding Folds
folds_step t a x xs r true e k h = folds_more t a x xs r e (k (earlier a x) h)
folds_step t a x xs r false e k h = elim (k a h) [ inl same ↦ inl same | inr p ↦ inr (more t x xs r p) ]

folds : (t : WantRow → Bool) (a : Option WantRow) (xs : List WantRow) (r : WantRow) → fold earlier a (filter t xs) ≡ Some r → Folds t a xs r
unfolding Folds
folds t a [] r h = inl h
folds t a (x ∷ xs) r h = folds_step t a x xs r (t x) refl (λ a' g. folds t a' xs r g) h

pub picked : (t : WantRow → Bool) (xs : List WantRow) (r : WantRow) → fold earlier None (filter t xs) ≡ Some r → Picked t xs r
unfolding Folds
picked t xs r h = elim (folds t None xs r h) [ inl none ↦ absurd (cc) | inr p ↦ p ]

-- waiting wants need five, and each at least one
waiting_room : (stage : Stage) → is_waiting stage ≡ true → 5 ≤ want_room stage
waiting_room Waiting h = omega arith
waiting_room Granted h = absurd (cc)
waiting_room Dialing h = absurd (cc)

pub some_room : (stage : Stage) → 1 ≤ want_room stage
some_room Waiting = omega arith
some_room Granted = omega arith
some_room Dialing = omega arith

and_left : (a b : Bool) → (a && b) ≡ true → a ≡ true
and_left true b h = refl
and_left false b h = h

and_right : (a b : Bool) → (a && b) ≡ true → b ≡ true
and_right true b h = h
and_right false b h = absurd (cc)

pub and_both : (a b : Bool) → a ≡ true → b ≡ true → (a && b) ≡ true
and_both true b h k = k
and_both false b h k = h

abbrev want_sum : List WantRow → ℕ
want_sum xs = sum_by (λ row. want_room row.stage) xs

-- what stays while rows move
pub record Stays (s t : State) (up : ℕ) : Type 0 where
  pub room : room t ≤ room s + up
  pub next_want : t.next_want ≡ s.next_want
  pub next_conn : t.next_conn ≡ s.next_conn
  pub next_stamp : t.next_stamp ≤ s.next_stamp + up

waits_as_waiting : (host want : ℕ) (row : WantRow) → waits_as host want row ≡ true → 5 ≤ want_room row.stage
waits_as_waiting host want row h =
    waiting_room row.stage
    (and_right (row.host == host) (is_waiting row.stage) (and_left ((row.host == host) && is_waiting row.stage) (row.want == want) h))

grant_row : (s : State) (host : ℕ) (row : WantRow) → Picked (waits_for host) s.wants row → Stays s (grant_to s (Some row)).1 0
unfolding room grant_to
grant_row s host row p =
    let less : want_sum (remove_first (waits_as row.host row.want) s.wants) + 5 ≤ want_sum s.wants =
    lost (λ r. want_room r.stage) (waits_as row.host row.want) 5 s.wants row (waits_as_waiting row.host row.want)
    (and_both ((row.host == row.host) && is_waiting row.stage) (row.want == row.want)
    (and_both (row.host == row.host) (is_waiting row.stage) (eq-eqb row.host row.host refl) (and_right (row.host == host) (is_waiting row.stage) p.passes))
    (eq-eqb row.want row.want refl))
    p.among
    in record {
      room = omega (arith, less, sum_by_push (λ r. want_room r.stage) (remove_first (waits_as row.host row.want) s.wants) (record row { stage = Granted }));
      next_want = refl;
      next_conn = refl;
      next_stamp = omega arith;
    }

pub stays_here : (s : State) → Stays s s 0
stays_here s = record { room = omega arith; next_want = refl; next_conn = refl; next_stamp = omega arith }

grant_picked : (s : State) (host : ℕ) (o : Option WantRow) → ((r : WantRow) → o ≡ Some r → Picked (waits_for host) s.wants r) → Stays s (grant_to s o).1 0
unfolding grant_to
grant_picked s host None k = stays_here s
grant_picked s host (Some row) k = grant_row s host row (k row refl)

grant_if : (s : State) (host : ℕ) (b : Bool) → Stays s (cond b (grant_to s (least_waiting s host)) (None, s)).1 0
unfolding least_waiting
grant_if s host true = grant_picked s host (least_waiting s host) (λ r e. picked (waits_for host) s.wants r e)
grant_if s host false = stays_here s

pub grant_stays : (limits : Limits) (s : State) (host : ℕ) → Stays s (grant limits s host).1 0
unfolding grant
grant_stays limits s host = grant_if s host (is_free limits s host)
