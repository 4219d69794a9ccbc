-- Sums over views, and lists of words.
use Rattle.std.proofs.Common.{◌≡◌, ◌≢◌, ℕ, zero, suc, ◌+◌, ◌<◌, ◌≤◌, List, [], ◌∷◌, ◌++◌, length, set, slice_index, refl, sym, ap, arith}
use mathlib.Core.Option.{some, some-injective, some-ne-none}
use lib.ListN.{get_elem?}
use Rattle.gw_turn.specs.Turn.{total}

module _ {V : Type 0} where
  -- one view changes
  pub total_set : (f : V → ℕ) (views : List V) (i : ℕ) (v w : V) → get_elem? views i ≡ some v → total f (set views i w) + f v ≡ total f views + f w
  total_set f [] i v w at = absurd (some-ne-none v (sym at))
  total_set f (x ∷ xs) zero v w at = let is : f x ≡ f v = ap f (some-injective x v at) in omega arith
  total_set f (x ∷ xs) (suc i) v w at = let r = total_set f xs i v w at in omega arith

  -- one view more
  pub total_snoc : (f : V → ℕ) (views : List V) (w : V) → total f (views ++ w ∷ []) ≡ total f views + f w
  total_snoc f [] w = omega arith
  total_snoc f (x ∷ xs) w = let r = total_snoc f xs w in omega arith

  -- a view's share
  pub total_at : (f : V → ℕ) (views : List V) (i : ℕ) (v : V) → get_elem? views i ≡ some v → f v ≤ total f views
  total_at f [] i v at = absurd (some-ne-none v (sym at))
  total_at f (x ∷ xs) zero v at = let is : f x ≡ f v = ap f (some-injective x v at) in omega arith
  total_at f (x ∷ xs) (suc i) v at = let r = total_at f xs i v at in omega arith

  -- two views' share
  pub total_two : (f : V → ℕ) (views : List V) (i j : ℕ) (v u : V) → j ≢ i → get_elem? views i ≡ some v → get_elem? views j ≡ some u → f v + f u ≤ total f views
  total_two f views zero j v u ne at there = two_zero f views j v u ne at there
    where
      two_zero : (f : V → ℕ) (views : List V) (j : ℕ) (v u : V) → j ≢ 0 → get_elem? views 0 ≡ some v → get_elem? views j ≡ some u → f v + f u ≤ total f views
      two_zero f [] j v u ne at there = absurd (some-ne-none v (sym at))
      two_zero f (x ∷ xs) zero v u ne at there = absurd (ne refl)
      two_zero f (x ∷ xs) (suc j) v u ne at there = let is : f x ≡ f v = ap f (some-injective x v at) in let r = total_at f xs j u there in omega arith
  total_two f [] (suc i) j v u ne at there = absurd (some-ne-none v (sym at))
  total_two f (x ∷ xs) (suc i) zero v u ne at there = let is : f x ≡ f u = ap f (some-injective x u there) in let r = total_at f xs i v at in omega arith
  total_two f (x ∷ xs) (suc i) (suc j) v u ne at there = let r = total_two f xs i j v u (λ e. ne (ap suc e)) at there in omega arith

  -- where f is 0 at each other view
  total_none : (f : V → ℕ) (views : List V) → ((j : ℕ) (u : V) → get_elem? views j ≡ some u → f u ≡ 0) → total f views ≡ 0
  total_none f [] h = refl
  total_none f (y ∷ ys) h = let here = h zero y refl in let r = total_none f ys (λ j u there. h (suc j) u there) in omega arith

  pub total_alone : (f : V → ℕ) (views : List V) (i : ℕ) (v : V) → get_elem? views i ≡ some v → ((j : ℕ) (u : V) → j ≢ i → get_elem? views j ≡ some u → f u ≡ 0) → total f views ≡ f v
  total_alone f [] i v at others = absurd (some-ne-none v (sym at))
  total_alone f (x ∷ xs) zero v at others =
      let is : f x ≡ f v = ap f (some-injective x v at) in let rest = total_none f xs (λ j u there. others (suc j) u (λ e. omega arith) there) in omega arith
  total_alone f (x ∷ xs) (suc i) v at others =
      let here = others zero x (λ e. omega arith) refl in let r = total_alone f xs i v at (λ j u ne there. others (suc j) u (λ e. ne (omega arith)) there) in omega arith

  pub there_below : (l : List V) (i : ℕ) (v : V) → get_elem? l i ≡ some v → i < length l
  there_below [] i v at = absurd (some-ne-none v (sym at))
  there_below (x ∷ xs) zero v at = omega arith
  there_below (x ∷ xs) (suc i) v at = let r = there_below xs i v at in omega arith

-- the first two words
pub words_turn : (words : List ℕ) (n : ℕ) → 2 ≤ length words → slice_index (set words 0 n) 0 ≡ n
words_turn [] n e = absurd (omega arith)
words_turn (x ∷ xs) n e = refl

pub words_count : (words : List ℕ) (n : ℕ) → 2 ≤ length words → slice_index (set words 0 n) 1 ≡ slice_index words 1
words_count [] n e = absurd (omega arith)
words_count (x ∷ xs) n e = refl

pub count_turn : (words : List ℕ) (n : ℕ) → 2 ≤ length words → slice_index (set words 1 n) 0 ≡ slice_index words 0
count_turn [] n e = absurd (omega arith)
count_turn (x ∷ xs) n e = refl

pub count_count : (words : List ℕ) (n : ℕ) → 2 ≤ length words → slice_index (set words 1 n) 1 ≡ n
count_count [] n e = absurd (omega arith)
count_count (x ∷ []) n e = absurd (omega arith)
count_count (x ∷ y ∷ ys) n e = refl
