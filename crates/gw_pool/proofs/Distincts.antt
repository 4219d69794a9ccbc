-- Lists of different numbers, and how many of a list's rows pass a test.
use Rattle.std.proofs.Common.{◌≡◌, ℕ, zero, suc, ◌+◌, ◌*◌, ◌<◌, ◌≤◌, ◌==◌, ◌||◌, inl, inr, Bool, true, false, not, List, [], ◌∷◌, ◌++◌, length, map, filter, Option, Some, None, refl, ap, sym, ◌∙◌, subst, cond, arith, eqb-true, eq-eqb}
use Rattle.std.specs.List.{find, sum_by, list_any}
use Rattle.std.proofs.lemmas.List.{length-map}
use Rattle.std.proofs.lemmas.List.Sums.{sum_by-cons}
use Rattle.std.proofs.lemmas.List.Folds.{list_any-append}
use Rattle.std.proofs.Math.Nat.{suc-mul}
use Rattle.gw_pool.specs.declared.holding.Holding.{Holding}
use Rattle.gw_pool.specs.Machine.{distinct}
use Rattle.gw_pool.specs.Ties.{Among, bit, one}
use Rattle.gw_pool.specs.Tokens.{names, ticket_of}
use Rattle.gw_pool.proofs.Ties.{one_same}
use Rattle.gw_pool.proofs.TieWant.{In, or_cases, pigeon}

-- how often a number stands in a list
abbrev pub occs : ℕ → List ℕ → ℕ
occs w xs = sum_by (λ n. one w n) xs

none_by : (x y : ℕ) (b t : Bool) → (y == x) ≡ b → one x y ≡ 0 → t ≡ false → (b || t) ≡ false
none_by x y true t e z f = absurd (let h : one x y ≡ 1 = ap bit e in omega (arith, h, z))
none_by x y false t e z f = f

none_else : (x : ℕ) (xs : List ℕ) → occs x xs ≡ 0 → list_any (λ y. y == x) xs ≡ false
none_else x [] z = refl
none_else x (y ∷ ys) z =
    none_by x y (y == x) (list_any (λ v. v == x) ys) refl (omega (arith, sum_by-cons (λ n. one x n) y ys, z)) (none_else x ys (omega (arith, sum_by-cons (λ n. one x n) y ys, z)))

distinct_same : (xs : List ℕ) → ((w : ℕ) → occs w xs ≤ 1) → distinct xs ≡ xs
distinct_same [] k = refl
distinct_same (x ∷ xs) k =
    let none = none_else x xs (omega (arith, k x, sum_by-cons (λ n. one x n) x xs, one_same x)) in
    rw none (ap (λ l. x ∷ l) (distinct_same xs (λ w. omega (arith, k w, sum_by-cons (λ n. one w n) x xs))))

or_last : (a b : Bool) → b ≡ true → (a || b) ≡ true
or_last true b h = refl
or_last false b h = h

to_step : (w x : ℕ) (xs : List ℕ) (b : Bool) → list_any (λ y. y == x) xs ≡ b → In w (x ∷ xs) → (In w xs → In w (distinct xs)) → In w (cond b (distinct xs) (x ∷ distinct xs))
to_step w x xs true e h k = elim (or_cases (x == w) (list_any (λ y. y == w) xs) h) [ inl same ↦ k (subst (λ v. In v xs) (eqb-true x w same) e) | inr m ↦ k m ]
to_step w x xs false e h k = elim (or_cases (x == w) (list_any (λ y. y == w) xs) h) [ inl same ↦ rw same refl | inr m ↦ or_last (x == w) (list_any (λ y. y == w) (distinct xs)) (k m) ]

to_distinct : (w : ℕ) (xs : List ℕ) → In w xs → In w (distinct xs)
to_distinct w [] h = h
to_distinct w (x ∷ xs) h = to_step w x xs (list_any (λ y. y == x) xs) refl h (to_distinct w xs)

named_step : (w x : ℕ) (b : Bool) (o : Option Holding) (t : Bool) → (b || t) ≡ true → (t ≡ true → o ≡ None → ⊥) → cond b (Some (ticket_of x)) o ≡ None → ⊥
named_step w x true o t h k e = cc
named_step w x false o t h k e = k h e

named_in : (w : ℕ) (xs : List ℕ) → In w xs → find (names w) (map ticket_of xs) ≡ None → ⊥
named_in w [] h e = cc
named_in w (x ∷ xs) h e = named_step w x (x == w) (find (names w) (map ticket_of xs)) (list_any (λ y. y == w) xs) h (named_in w xs) e

-- different numbers of a list are no more than its distinct ones
pub fits_in : (a l : List ℕ) → ((w : ℕ) → occs w a ≤ 1) → ((w : ℕ) → In w a → In w l) → length a ≤ length (distinct l)
fits_in a l once inside =
    let p = pigeon a (map ticket_of (distinct l)) (λ w m. named_in w (distinct l) (to_distinct w l (inside w m))) in
    omega (arith, p, ap (λ (xs : List ℕ). length xs) (distinct_same a once), length-map (distinct l) ticket_of)

pub in_left : (w : ℕ) (xs ys : List ℕ) → In w xs → In w (xs ++ ys)
in_left w xs ys h = list_any-append (λ y. y == w) xs ys ∙ ap (λ b. b || list_any (λ y. y == w) ys) h

pub in_right : (w : ℕ) (xs ys : List ℕ) → In w ys → In w (xs ++ ys)
in_right w xs ys h = list_any-append (λ y. y == w) xs ys ∙ or_last (list_any (λ y. y == w) xs) (list_any (λ y. y == w) ys) h

-- numbers below the next but it
not_last : (a n : ℕ) → a < suc n → not (a == n) ≡ true → a < n
not_last a n l e = below_by a n (a == n) refl l e
  where
    below_by : (a n : ℕ) (b : Bool) → (a == n) ≡ b → a < suc n → not b ≡ true → a < n
    below_by a n true p l e = absurd (cc)
    below_by a n false p l e = let ne : a ≡ n → ⊥ = λ same. let yes = eq-eqb a n same in cc in omega (arith, l, ne)

module _ {X : Type 0} where
  -- the rows that pass a test, by a weight that says whether they do
  len_step : (f : X → ℕ) (want : X → ℕ) (p : X → Bool) (x : X) (xs : List X) (b : Bool) → p x ≡ b → f x ≡ bit (p x) → sum_by f xs ≡ length (map want (filter p xs)) → sum_by f (x ∷ xs) ≡ length (map want (cond b (x ∷ filter p xs) (filter p xs)))
  len_step f want p x xs true e h r = omega (arith, sum_by-cons f x xs, h, ap bit e, r)
  len_step f want p x xs false e h r = omega (arith, sum_by-cons f x xs, h, ap bit e, r)

  pub len_where : (f : X → ℕ) (want : X → ℕ) (p : X → Bool) (xs : List X) → ((x : X) → Among x xs → f x ≡ bit (p x)) → sum_by f xs ≡ length (map want (filter p xs))
  len_where f want p [] k = refl
  len_where f want p (x ∷ xs) k = len_step f want p x xs (p x) refl (k x (inl refl)) (len_where f want p xs (λ y m. k y (inr m)))

  occs_step : (w : ℕ) (f : X → ℕ) (want : X → ℕ) (p : X → Bool) (x : X) (xs : List X) (b : Bool) → p x ≡ b → (p x ≡ true → one w (want x) ≤ f x) → occs w (map want (filter p xs)) ≤ sum_by f xs → occs w (map want (cond b (x ∷ filter p xs) (filter p xs))) ≤ sum_by f (x ∷ xs)
  occs_step w f want p x xs true e h r = omega (arith, sum_by-cons f x xs, sum_by-cons (λ n. one w n) (want x) (map want (filter p xs)), h e, r)
  occs_step w f want p x xs false e h r = omega (arith, sum_by-cons f x xs, r)

  pub occs_where : (w : ℕ) (f : X → ℕ) (want : X → ℕ) (p : X → Bool) (xs : List X) → ((x : X) → p x ≡ true → one w (want x) ≤ f x) → occs w (map want (filter p xs)) ≤ sum_by f xs
  occs_where w f want p [] k = omega arith
  occs_where w f want p (x ∷ xs) k = occs_step w f want p x xs (p x) refl (k x) (occs_where w f want p xs k)

  in_step : (w : ℕ) (want : X → ℕ) (p q : X → Bool) (x : X) (xs : List X) (b : Bool) → p x ≡ b → (p x ≡ true → q x ≡ true) → In w (map want (cond b (x ∷ filter p xs) (filter p xs))) → (In w (map want (filter p xs)) → In w (map want (filter q xs))) → In w (map want (filter q (x ∷ xs)))
  in_step w want p q x xs true e h m k = rw (h e) (elim (or_cases (want x == w) (list_any (λ y. y == w) (map want (filter p xs))) m) [ inl same ↦ rw same refl | inr n ↦ or_last (want x == w) (list_any (λ y. y == w) (map want (filter q xs))) (k n) ])
  in_step w want p q x xs false e h m k = skip (q x) (k m)
    where
      skip : (c : Bool) → In w (map want (filter q xs)) → In w (map want (cond c (x ∷ filter q xs) (filter q xs)))
      skip true n = or_last (want x == w) (list_any (λ y. y == w) (map want (filter q xs))) n
      skip false n = n

  pub in_where : (w : ℕ) (want : X → ℕ) (p q : X → Bool) (xs : List X) → ((x : X) → p x ≡ true → q x ≡ true) → In w (map want (filter p xs)) → In w (map want (filter q xs))
  in_where w want p q [] h m = m
  in_where w want p q (x ∷ xs) h m = in_step w want p q x xs (p x) refl (h x) m (in_where w want p q xs h)

  -- rows of so many kinds, of each of which there are so many at most
  split_step : (p : X → Bool) (x : X) (xs : List X) (b : Bool) → p x ≡ b → length xs ≡ sum_by (λ y. bit (p y)) xs + length (filter (λ y. not (p y)) xs) → length (x ∷ xs) ≡ sum_by (λ y. bit (p y)) (x ∷ xs) + length (cond (not b) (x ∷ filter (λ y. not (p y)) xs) (filter (λ y. not (p y)) xs))
  split_step p x xs true e r = omega (arith, sum_by-cons (λ y. bit (p y)) x xs, ap bit e, r)
  split_step p x xs false e r = omega (arith, sum_by-cons (λ y. bit (p y)) x xs, ap bit e, r)

  pub split_length : (p : X → Bool) (xs : List X) → length xs ≡ sum_by (λ y. bit (p y)) xs + length (filter (λ y. not (p y)) xs)
  split_length p [] = refl
  split_length p (x ∷ xs) = split_step p x xs (p x) refl (split_length p xs)

  left_step : (f : X → ℕ) (p : X → Bool) (x : X) (xs : List X) (b : Bool) → sum_by f (filter p xs) ≤ sum_by f xs → sum_by f (cond b (x ∷ filter p xs) (filter p xs)) ≤ sum_by f (x ∷ xs)
  left_step f p x xs true r = omega (arith, sum_by-cons f x xs, sum_by-cons f x (filter p xs), r)
  left_step f p x xs false r = omega (arith, sum_by-cons f x xs, r)

  pub sum_filter : (f : X → ℕ) (p : X → Bool) (xs : List X) → sum_by f (filter p xs) ≤ sum_by f xs
  sum_filter f p [] = omega arith
  sum_filter f p (x ∷ xs) = left_step f p x xs (p x) (sum_filter f p xs)

  among_step : (p : X → Bool) (y x : X) (xs : List X) (b : Bool) → p x ≡ b → Among y (cond b (x ∷ filter p xs) (filter p xs)) → (Among y (filter p xs) → Among y xs × (p y ≡ true)) → Among y (x ∷ xs) × (p y ≡ true)
  among_step p y x xs true e (inl same) k = (inl same, ap p (sym same) ∙ e)
  among_step p y x xs true e (inr m) k = let r = k m in (inr r.0, r.1)
  among_step p y x xs false e m k = let r = k m in (inr r.0, r.1)

  pub among_filter : (p : X → Bool) (y : X) (xs : List X) → Among y (filter p xs) → Among y xs × (p y ≡ true)
  among_filter p y [] m = absurd m
  among_filter p y (x ∷ xs) m = among_step p y x xs (p x) refl m (among_filter p y xs)

  none_below : (f : X → ℕ) (xs : List X) → ((x : X) → Among x xs → f x < 0) → length xs ≡ 0
  none_below f [] k = refl
  none_below f (x ∷ xs) k = absurd (omega (arith, k x (inl refl)))

  pub few_of_each : (f : X → ℕ) (n k : ℕ) (xs : List X) → ((x : X) → Among x xs → f x < n) → ((c : ℕ) → sum_by (λ x. bit (f x == c)) xs ≤ k) → length xs ≤ n * k
  few_of_each f zero k xs below each = omega (arith, none_below f xs below)
  few_of_each f (suc n) k xs below each =
      let p : X → Bool = λ x. f x == n in
      let rest = filter (λ x. not (p x)) xs in
      let r = few_of_each f n k rest (λ x m. let there = among_filter (λ y. not (p y)) x xs m in not_last (f x) n (below x there.0) there.1) (λ c. let l = sum_filter (λ x. bit (f x == c)) (λ x. not (p x)) xs in omega (arith, l, each c)) in
      omega (arith, split_length p xs, each n, r, suc-mul n k)
