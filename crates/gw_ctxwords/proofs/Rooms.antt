-- The rooms of all seats.
use Rattle.std.proofs.Common.{◌≡◌, ◌≢◌, ℕ, zero, suc, ◌+◌, ◌≤◌, List, [], ◌∷◌, ◌++◌, set, refl, sym, ap, arith}
use mathlib.Core.Option.{some, some-injective, some-ne-none}
use lib.ListN.{get_elem?}
use Rattle.gw_ctxwords.specs.declared.view.CtxView.{CtxView}
use Rattle.gw_ctxwords.specs.Rule.{rooms_of}

pub rooms_set : (views : List CtxView) (i : ℕ) (v w : CtxView) → get_elem? views i ≡ some v → rooms_of (set views i w) + v.room ≡ rooms_of views + w.room
rooms_set [] i v w at = absurd (some-ne-none v (sym at))
rooms_set (x ∷ xs) zero v w at = let is : x.room ≡ v.room = ap (λ (u : CtxView). u.room) (some-injective x v at) in omega arith
rooms_set (x ∷ xs) (suc i) v w at = let r = rooms_set xs i v w at in omega arith

pub rooms_snoc : (views : List CtxView) (w : CtxView) → rooms_of (views ++ w ∷ []) ≡ rooms_of views + w.room
rooms_snoc [] w = omega arith
rooms_snoc (x ∷ xs) w = let r = rooms_snoc xs w in omega arith

pub rooms_at : (views : List CtxView) (i : ℕ) (v : CtxView) → get_elem? views i ≡ some v → v.room ≤ rooms_of views
rooms_at [] i v at = absurd (some-ne-none v (sym at))
rooms_at (x ∷ xs) zero v at = let is : x.room ≡ v.room = ap (λ (u : CtxView). u.room) (some-injective x v at) in omega arith
rooms_at (x ∷ xs) (suc i) v at = let r = rooms_at xs i v at in omega arith

-- two seats' share
pub rooms_two : (views : List CtxView) (i j : ℕ) (v u : CtxView) → j ≢ i → get_elem? views i ≡ some v → get_elem? views j ≡ some u → v.room + u.room ≤ rooms_of views
rooms_two [] i j v u ne at there = absurd (some-ne-none v (sym at))
rooms_two (x ∷ xs) zero zero v u ne at there = absurd (ne refl)
rooms_two (x ∷ xs) zero (suc j) v u ne at there = let is : x.room ≡ v.room = ap (λ (y : CtxView). y.room) (some-injective x v at) in let r = rooms_at xs j u there in omega arith
rooms_two (x ∷ xs) (suc i) zero v u ne at there = let is : x.room ≡ u.room = ap (λ (y : CtxView). y.room) (some-injective x u there) in let r = rooms_at xs i v at in omega arith
rooms_two (x ∷ xs) (suc i) (suc j) v u ne at there = let r = rooms_two xs i j v u (λ e. ne (ap suc e)) at there in omega arith
