-- Sorted lists with the same elements, in the same order where they tie, are one list.
use Rattle.std.proofs.Common.{◌≡◌, zero, suc, ◌<◌, Bool, true, false, cond, not, ◌&&◌, List, [], ◌∷◌, length, filter, get_or, drop, refl, sym, ap, subst, ◌∙◌, arith}
use native.Mathlib.Numerals.{unary_clauses}
use Rattle.std.specs.Cmp.{IsStrictWeakOrder}
use Rattle.std.specs.List.{All}
use Rattle.std.specs.List.Sorted.{IsSortedBy, IsStableBy, ties}
use Rattle.std.proofs.lemmas.List.Elements.{All-filter, All-head}
use Rattle.std.proofs.lemmas.List.Sorted.{sorted_far}

pub both_false : (a b : Bool) → a ≡ false → b ≡ false → not a && not b ≡ true
both_false a b h k = λ i. not (h i) && not (k i)

strip : {X : Type 0} (b : Bool) (y z : X) (us vs : List X) → cond b (y ∷ us) us ≡ cond b (z ∷ vs) vs → us ≡ vs
strip true y z us vs h = ap (drop 1) h
strip false y z us vs h = h

module _ {X : Type 0} (lt : X → X → Bool) (o : IsStrictWeakOrder lt) where
  itself_by : (x : X) (b : Bool) → lt x x ≡ b → b ≡ false
  itself_by x true h = sym h ∙ o.one_way x x h
  itself_by x false h = refl

  pub itself : (x : X) → lt x x ≡ false
  itself x = itself_by x (lt x x) refl

  ties_itself : (x : X) → ties lt x x ≡ true
  ties_itself x = both_false (lt x x) (lt x x) (itself x) (itself x)

  first_stays : (x : X) (xs : List X) → filter (ties lt x) (x ∷ xs) ≡ x ∷ filter (ties lt x) xs
  first_stays x xs = ap (λ b. cond b (x ∷ filter (ties lt x) xs) (filter (ties lt x) xs)) (ties_itself x)

  -- what stands first in a list is not below the first of a sorted list that has it
  not_below : (y z : X) (ys zs : List X) → IsSortedBy lt (y ∷ ys)
      → filter (ties lt z) (y ∷ ys) ≡ filter (ties lt z) (z ∷ zs) → lt z y ≡ false
  not_below y z ys zs up same =
      let least : All (λ w. lt w y ≡ false) (y ∷ ys) = λ k d within. sorted_far lt o (y ∷ ys) up 0 k d (omega arith) within in
      let kept = All-filter (ties lt z) (λ w. lt w y ≡ false) (y ∷ ys) least in
      All-head (λ w. lt w y ≡ false) z (filter (ties lt z) zs)
      (subst (All (λ w. lt w y ≡ false)) (same ∙ first_stays z zs) kept)

  pub IsSortedBy-tail : (x : X) (xs : List X) → IsSortedBy lt (x ∷ xs) → IsSortedBy lt xs
  IsSortedBy-tail x xs up k d low high =
      simp unary_clauses (simp unary_clauses at (up (suc k) d (omega arith) (omega arith)))

  pub IsSortedBy-cons : (x : X) (xs : List X) → ((d : X) → 0 < length xs → lt (get_or xs 0 d) x ≡ false)
      → IsSortedBy lt xs → IsSortedBy lt (x ∷ xs)
  IsSortedBy-cons x xs first up zero d low high = first d (omega arith)
  IsSortedBy-cons x xs first up (suc k) d low high =
      simp unary_clauses (simp unary_clauses at (up k d (omega arith) (omega arith)))

  same_firsts : (y z : X) (ys zs : List X) → lt y z ≡ false → lt z y ≡ false
      → filter (ties lt y) (y ∷ ys) ≡ filter (ties lt y) (z ∷ zs) → y ≡ z
  same_firsts y z ys zs h k same =
      let other = ap (λ b. cond b (z ∷ filter (ties lt y) zs) (filter (ties lt y) zs)) (both_false (lt y z) (lt z y) h k) in
      ap (λ l. get_or l 0 y) (sym (first_stays y ys) ∙ same ∙ other)

  same_rests : (y z : X) (ys zs : List X) → y ≡ z → IsStableBy lt (z ∷ zs) (y ∷ ys) → IsStableBy lt zs ys
  same_rests y z ys zs e same x =
      strip (ties lt x y) y z (filter (ties lt x) ys) (filter (ties lt x) zs)
      (same x ∙ ap (λ b. cond b (z ∷ filter (ties lt x) zs) (filter (ties lt x) zs)) (ap (ties lt x) (sym e)))

  nothing_ties : (z : X) (zs : List X) → filter (ties lt z) [] ≡ filter (ties lt z) (z ∷ zs) → ⊥
  nothing_ties z zs same =
      let e : 0 ≡ length (z ∷ filter (ties lt z) zs) = ap length (same ∙ first_stays z zs) in
      omega (arith, e)

  pub only_sorted : (ys zs : List X) → IsSortedBy lt ys → IsSortedBy lt zs → IsStableBy lt zs ys → ys ≡ zs
  only_sorted [] [] up rises same = refl
  only_sorted [] (z ∷ zs) up rises same = absurd (nothing_ties z zs (same z))
  only_sorted (y ∷ ys) [] up rises same = absurd (nothing_ties y ys (sym (same y)))
  only_sorted (y ∷ ys) (z ∷ zs) up rises same =
      let below = not_below y z ys zs up (same z) in
      let above = not_below z y zs ys rises (sym (same y)) in
      let first = same_firsts y z ys zs above below (same y) in
      let rest = only_sorted ys zs (IsSortedBy-tail y ys up) (IsSortedBy-tail z zs rises) (same_rests y z ys zs first same) in
      λ i. first i ∷ rest i
