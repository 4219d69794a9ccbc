-- Taking out the first row that passes a test, at the place where it stands.
use Rattle.std.proofs.Common.{◌≡◌, ℕ, ◌+◌, ◌<◌, Bool, true, false, not, List, [], ◌∷◌, length, Some, None, refl, ap, sym, ◌∙◌, arith, nat_lt, slice_index_or, cond, suc, ltb-true, ltb-false, ◌≤◌}
use Rattle.std.specs.List.{position_or_len, find, position, remove}
use Rattle.std.proofs.lemmas.Option.{slice_get-get_or}
use Rattle.std.proofs.lemmas.List.Folds.{find_at}
use Rattle.std.proofs.lemmas.List.Quantifiers.{position-Some}
use Rattle.gw_pool.specs.State.{remove_first}

remove_step : {X : Type 0} (b : Bool) (n : ℕ) (x : X) (xs r : List X) → remove xs n ≡ r → remove (x ∷ xs) (cond (not b) (1 + n) 0) ≡ cond b xs (x ∷ r)
remove_step true n x xs r h = refl
remove_step false n x xs r h = let e : 1 + n ≡ suc n = omega arith in rw e (ap (λ l. x ∷ l) h)

remove_at_first : {X : Type 0} (p : X → Bool) (xs : List X) → remove xs (position_or_len p xs) ≡ remove_first p xs
remove_at_first p [] = refl
remove_at_first p (x ∷ xs) = remove_step (p x) (position_or_len p xs) x xs (remove_first p xs) (remove_at_first p xs)

pub record TakenAt {X : Type 0} (p : X → Bool) (xs : List X) (i : ℕ) : Type 0 where
  pub found : (d : X) → find p xs ≡ Some (slice_index_or xs i d)
  pub left : remove xs i ≡ remove_first p xs

place_is : {X : Type 0} (p : X → Bool) (xs : List X) (i n : ℕ) (b : Bool) → n ≡ position_or_len p xs → nat_lt n (length xs) ≡ b → Some i ≡ cond b (Some n) None → TakenAt p xs i
place_is p xs i n true e lt h = let at : i ≡ position_or_len p xs = cc in let within : position_or_len p xs < length xs = (let small : n < length xs = ltb-true n (length xs) lt in rw e at small) in rw at (record { found = λ d. find_at p xs ∙ slice_get-get_or xs (position_or_len p xs) d within; left = remove_at_first p xs })
place_is p xs i n false e lt h = cc

pub taken_at : {X : Type 0} (p : X → Bool) (xs : List X) (i : ℕ) → Some i ≡ position p xs → TakenAt p xs i
taken_at p xs i h = place_is p xs i (position_or_len p xs) (nat_lt (position_or_len p xs) (length xs)) refl refl h

-- that place is within the list, and its row passes
pub within_at : {X : Type 0} (p : X → Bool) (xs : List X) (i : ℕ) (d : X) → Some i ≡ position p xs → i < length xs
within_at p xs i d h = (position-Some p xs i d (sym h)).0

pub passes_at : {X : Type 0} (p : X → Bool) (xs : List X) (i : ℕ) (d : X) → Some i ≡ position p xs → p (slice_index_or xs i d) ≡ true
passes_at p xs i d h = (position-Some p xs i d (sym h)).1

-- a row that is found passes
found_step : {X : Type 0} (b : Bool) (p : X → Bool) (x r : X) (xs : List X) → p x ≡ b → cond b (Some x) (find p xs) ≡ Some r → (find p xs ≡ Some r → p r ≡ true) → p r ≡ true
found_step true p x r xs e h k = (let same : x ≡ r = cc in rw same at e)
found_step false p x r xs e h k = k h

pub found_passes : {X : Type 0} (p : X → Bool) (xs : List X) (r : X) → find p xs ≡ Some r → p r ≡ true
found_passes p [] r h = absurd (cc)
found_passes p (x ∷ xs) r h = found_step (p x) p x r xs refl h (found_passes p xs r)

pub record NotThere {X : Type 0} (p : X → Bool) (xs : List X) : Type 0 where
  pub found : find p xs ≡ None
  pub left : xs ≡ remove_first p xs

past_step : (b : Bool) {X : Type 0} (p : X → Bool) (x : X) (xs : List X) → length (x ∷ xs) ≤ cond (not b) (1 + position_or_len p xs) 0 → (length xs ≤ position_or_len p xs → NotThere p xs) → (cond b (Some x) (find p xs) ≡ None) × ((x ∷ xs) ≡ cond b xs (x ∷ remove_first p xs))
past_step true p x xs h k = absurd (omega arith)
past_step false p x xs h k = let r : NotThere p xs = k (omega arith) in (r.found, ap (λ l. x ∷ l) r.left)

past : {X : Type 0} (p : X → Bool) (xs : List X) → length xs ≤ position_or_len p xs → NotThere p xs
past p [] h = record { found = refl; left = refl }
past p (x ∷ xs) h = let r = past_step (p x) p x xs h (past p xs) in record { found = r.0; left = r.1 }

not_place : {X : Type 0} (p : X → Bool) (xs : List X) (n : ℕ) (b : Bool) → n ≡ position_or_len p xs → nat_lt n (length xs) ≡ b → None ≡ cond b (Some n) None → NotThere p xs
not_place p xs n true e lt h = cc
not_place p xs n false e lt h = past p xs (let large : length xs ≤ n = ltb-false n (length xs) lt in rw e at large)

pub not_there : {X : Type 0} (p : X → Bool) (xs : List X) → None ≡ position p xs → NotThere p xs
not_there p xs h = not_place p xs (position_or_len p xs) (nat_lt (position_or_len p xs) (length xs)) refl refl h

-- the rows that are left are no more than before
left_step : {X : Type 0} (b : Bool) (x : X) (xs r : List X) → length r ≤ length xs → length (cond b xs (x ∷ r)) ≤ length (x ∷ xs)
left_step true x xs r h = omega arith
left_step false x xs r h = omega arith

pub length_left : {X : Type 0} (p : X → Bool) (xs : List X) → length (remove_first p xs) ≤ length xs
length_left p [] = omega arith
length_left p (x ∷ xs) = left_step (p x) x xs (remove_first p xs) (length_left p xs)
