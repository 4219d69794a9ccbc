-- Members of lists, and places in them.
use Rattle.std.proofs.Common.{◌≡◌, ◌⊎◌, ℕ, zero, suc, ◌<◌, List, [], ◌∷◌, ◌++◌, length, sym, ⊎_elim, inl, inr, arith}
use Rattle.std.specs.List.{Contains}
use Rattle.std.proofs.lemmas.List.Elements.{Contains-append_cases}
use mathlib.Core.Option.{some, some-ne-none}
use lib.ListN.{get_elem?}

module _ {A : Type 0} where
  pub at_below : (l : List A) (i : ℕ) (a : A) → get_elem? l i ≡ some a → i < length l
  at_below [] i a at = absurd (some-ne-none a (sym at))
  at_below (x ∷ xs) zero a at = omega arith
  at_below (x ∷ xs) (suc i) a at = let r = at_below xs i a at in omega arith

  pub none_in : (x : A) → Contains [] x → ⊥
  none_in x (k, lt, is) = omega arith

  pub only_in : (x y : A) → Contains (x ∷ []) y → x ≡ y
  only_in x y (zero, lt, is) = is
  only_in x y (suc k, lt, is) = absurd (omega arith)

  pub pushed_in : (xs : List A) (x y : A) → Contains (xs ++ x ∷ []) y → Contains xs y ⊎ (x ≡ y)
  pushed_in xs x y has = ⊎_elim (λ (old : Contains xs y). inl old) (λ (new : Contains (x ∷ []) y). inr (only_in x y new)) (Contains-append_cases xs (x ∷ []) y has)
