-- Sums over the views of all seats.
use Rattle.std.proofs.Common.{◌≡◌, ◌≢◌, ℕ, zero, suc, ◌+◌, ◌≤◌, Bool, true, false, List, [], ◌∷◌, ◌++◌, set, refl, sym, ap, arith}
use Rattle.std.specs.List.{All}
use mathlib.Core.Option.{some, some-injective, some-ne-none}
use lib.ListN.{get_elem?}
use Rattle.gw_gate.specs.declared.view.GateView.{GateView}
use Rattle.gw_gate.specs.Gate.{one_if, total, holding}

-- one view changes
pub total_set : (f : GateView → ℕ) (views : List GateView) (i : ℕ) (v w : GateView) → get_elem? views i ≡ some v → total f (set views i w) + f v ≡ total f views + f w
total_set f [] i v w at = absurd (some-ne-none v (sym at))
total_set f (x ∷ xs) zero v w at = let is : f x ≡ f v = ap f (some-injective x v at) in omega arith
total_set f (x ∷ xs) (suc i) v w at = let r = total_set f xs i v w at in omega arith

-- one view more
pub total_snoc : (f : GateView → ℕ) (views : List GateView) (w : GateView) → total f (views ++ w ∷ []) ≡ total f views + f w
total_snoc f [] w = omega arith
total_snoc f (x ∷ xs) w = let r = total_snoc f xs w in omega arith

-- where f is at most g at each view
pub total_below : (f g : GateView → ℕ) (views : List GateView) → ((i : ℕ) (v : GateView) → get_elem? views i ≡ some v → f v ≤ g v) → total f views ≤ total g views
total_below f g [] h = omega arith
total_below f g (x ∷ xs) h = let r = total_below f g xs (λ i v at. h (suc i) v at) in let here = h zero x refl in omega arith

-- a view's share
pub total_at : (f : GateView → ℕ) (views : List GateView) (i : ℕ) (v : GateView) → get_elem? views i ≡ some v → f v ≤ total f views
total_at f [] i v at = absurd (some-ne-none v (sym at))
total_at f (x ∷ xs) zero v at = let is : f x ≡ f v = ap f (some-injective x v at) in omega arith
total_at f (x ∷ xs) (suc i) v at = let r = total_at f xs i v at in omega arith

-- where f is 0 at each other view
pub total_alone : (f : GateView → ℕ) (views : List GateView) (i : ℕ) (v : GateView) → get_elem? views i ≡ some v → ((j : ℕ) (u : GateView) → j ≢ i → get_elem? views j ≡ some u → f u ≡ 0)
    → total f views ≡ f v
total_alone f [] i v at others = absurd (some-ne-none v (sym at))
total_alone f (x ∷ xs) zero v at others =
    let is : f x ≡ f v = ap f (some-injective x v at) in let rest = total_none f xs (λ j u there. others (suc j) u (λ e. omega arith) there) in omega arith
  where
    total_none : (f : GateView → ℕ) (views : List GateView) → ((j : ℕ) (u : GateView) → get_elem? views j ≡ some u → f u ≡ 0) → total f views ≡ 0
    total_none f [] h = refl
    total_none f (y ∷ ys) h = let here = h zero y refl in let r = total_none f ys (λ j u there. h (suc j) u there) in omega arith
total_alone f (x ∷ xs) (suc i) v at others =
    let here = others zero x (λ e. omega arith) refl in let r = total_alone f xs i v at (λ j u ne there. others (suc j) u (λ e. ne (omega arith)) there) in omega arith

-- two views' share
pub total_two : (f : GateView → ℕ) (views : List GateView) (i j : ℕ) (v u : GateView) → j ≢ i → get_elem? views i ≡ some v → get_elem? views j ≡ some u → f v + f u ≤ total f views
total_two f views zero j v u ne at there = two_zero f views j v u ne at there
  where
    two_zero : (f : GateView → ℕ) (views : List GateView) (j : ℕ) (v u : GateView) → j ≢ 0 → get_elem? views 0 ≡ some v → get_elem? views j ≡ some u → f v + f u ≤ total f views
    two_zero f [] j v u ne at there = absurd (some-ne-none v (sym at))
    two_zero f (x ∷ xs) zero v u ne at there = absurd (ne refl)
    two_zero f (x ∷ xs) (suc j) v u ne at there = let is : f x ≡ f v = ap f (some-injective x v at) in let r = total_at f xs j u there in omega arith
total_two f [] (suc i) j v u ne at there = absurd (some-ne-none v (sym at))
total_two f (x ∷ xs) (suc i) zero v u ne at there = let is : f x ≡ f u = ap f (some-injective x u there) in let r = total_at f xs i v at in omega arith
total_two f (x ∷ xs) (suc i) (suc j) v u ne at there = let r = total_two f xs i j v u (λ e. ne (ap suc e)) at there in omega arith

pub one_if-le : (b : Bool) → one_if b ≤ 1
one_if-le true = omega arith
one_if-le false = omega arith

pub one_if-zero : (b : Bool) → one_if b ≡ 0 → b ≡ false
one_if-zero true e = absurd (omega arith)
one_if-zero false e = refl

-- a sum of 0 has only zeros
pub none_held : (views : List GateView) → total holding views ≡ 0 → All (λ v. v.held ≡ false) views
none_held [] e k d lt = absurd (omega arith)
none_held (x ∷ xs) e zero d lt = one_if-zero x.held (omega arith)
none_held (x ∷ xs) e (suc k) d lt = none_held xs (omega arith) k d (omega arith)
