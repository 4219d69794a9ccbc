-- A want's row of tokens changes at the place where it stands.
use Rattle.std.proofs.Common.{◌≡◌, ℕ, suc, ◌+◌, ◌<◌, ◌≤◌, Bool, true, false, not, List, [], ◌∷◌, length, Some, None, refl, ap, ◌∙◌, arith, cond, nat_lt, ltb-true, ltb-false, slice_index_or, slice_set}
use Rattle.std.specs.List.{position_or_len, position, remove}
use Rattle.gw_pool.specs.declared.holding.Holding.{Holding}
use Rattle.gw_pool.specs.Tokens.{is_held, names, change}

put_at : (Holding → Holding) → List Holding → ℕ → Holding → List Holding
put_at f xs i d = cond (is_held (f (slice_index_or xs i d))) (slice_set xs i (f (slice_index_or xs i d))) (remove xs i)

cond_cons : (b : Bool) (x : Holding) (l r : List Holding) → x ∷ cond b l r ≡ cond b (x ∷ l) (x ∷ r)
cond_cons true x l r = refl
cond_cons false x l r = refl

change_step : (f : Holding → Holding) (b : Bool) (n : ℕ) (x d : Holding) (xs r : List Holding) → (b ≡ false → r ≡ cond (is_held (f (slice_index_or xs n d))) (slice_set xs n (f (slice_index_or xs n d))) (remove xs n)) → cond b (cond (is_held (f x)) (f x ∷ xs) xs) (x ∷ r) ≡ cond (is_held (f (slice_index_or (x ∷ xs) (cond (not b) (1 + n) 0) d))) (slice_set (x ∷ xs) (cond (not b) (1 + n) 0) (f (slice_index_or (x ∷ xs) (cond (not b) (1 + n) 0) d))) (remove (x ∷ xs) (cond (not b) (1 + n) 0))
change_step f true n x d xs r h = refl
change_step f false n x d xs r h = let e : 1 + n ≡ suc n = omega arith in rw e (ap (λ l. x ∷ l) (h refl) ∙ cond_cons (is_held (f (slice_index_or xs n d))) x (slice_set xs n (f (slice_index_or xs n d))) (remove xs n))

later : (b : Bool) (n m : ℕ) → b ≡ false → cond (not b) (1 + n) 0 < suc m → n < m
later true n m e h = absurd (cc)
later false n m e h = omega arith

change_at_first : (want : ℕ) (f : Holding → Holding) (xs : List Holding) (d : Holding) → position_or_len (names want) xs < length xs → change want f xs ≡ cond (is_held (f (slice_index_or xs (position_or_len (names want) xs) d))) (slice_set xs (position_or_len (names want) xs) (f (slice_index_or xs (position_or_len (names want) xs) d))) (remove xs (position_or_len (names want) xs))
change_at_first want f [] d h = absurd (omega arith)
change_at_first want f (x ∷ xs) d h = change_step f (names want x) (position_or_len (names want) xs) x d xs (change want f xs) (λ e. change_at_first want f xs d (later (names want x) (position_or_len (names want) xs) (length xs) e h))

keep_step : (b : Bool) (f : Holding → Holding) (x : Holding) (xs r : List Holding) (n : ℕ) → length (x ∷ xs) ≤ cond (not b) (1 + n) 0 → (length xs ≤ n → r ≡ xs) → cond b (cond (is_held (f x)) (f x ∷ xs) xs) (x ∷ r) ≡ x ∷ xs
keep_step true f x xs r n h k = absurd (omega arith)
keep_step false f x xs r n h k = ap (λ l. x ∷ l) (k (omega arith))

change_past : (want : ℕ) (f : Holding → Holding) (xs : List Holding) → length xs ≤ position_or_len (names want) xs → change want f xs ≡ xs
change_past want f [] h = refl
change_past want f (x ∷ xs) h = keep_step (names want x) f x xs (change want f xs) (position_or_len (names want) xs) h (change_past want f xs)

some_place : (want : ℕ) (f : Holding → Holding) (xs : List Holding) (i n : ℕ) (d : Holding) (b : Bool) → n ≡ position_or_len (names want) xs → nat_lt n (length xs) ≡ b → Some i ≡ cond b (Some n) None → change want f xs ≡ cond (is_held (f (slice_index_or xs i d))) (slice_set xs i (f (slice_index_or xs i d))) (remove xs i)
some_place want f xs i n d true e lt h = let at : i ≡ position_or_len (names want) xs = cc in let within : position_or_len (names want) xs < length xs = (let small : n < length xs = ltb-true n (length xs) lt in rw e at small) in rw at (change_at_first want f xs d within)
some_place want f xs i n d false e lt h = absurd (cc)

pub changed_at : (want : ℕ) (f : Holding → Holding) (xs : List Holding) (i : ℕ) (d : Holding) → Some i ≡ position (names want) xs → change want f xs ≡ cond (is_held (f (slice_index_or xs i d))) (slice_set xs i (f (slice_index_or xs i d))) (remove xs i)
changed_at want f xs i d h = some_place want f xs i (position_or_len (names want) xs) d (nat_lt (position_or_len (names want) xs) (length xs)) refl refl h

no_place : (want : ℕ) (f : Holding → Holding) (xs : List Holding) (n : ℕ) (b : Bool) → n ≡ position_or_len (names want) xs → nat_lt n (length xs) ≡ b → None ≡ cond b (Some n) None → change want f xs ≡ xs
no_place want f xs n true e lt h = absurd (cc)
no_place want f xs n false e lt h = change_past want f xs (let large : length xs ≤ n = ltb-false n (length xs) lt in rw e at large)

pub unchanged : (want : ℕ) (f : Holding → Holding) (xs : List Holding) → None ≡ position (names want) xs → change want f xs ≡ xs
unchanged want f xs h = no_place want f xs (position_or_len (names want) xs) (nat_lt (position_or_len (names want) xs) (length xs)) refl refl h
