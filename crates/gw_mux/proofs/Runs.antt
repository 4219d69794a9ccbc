-- A run in the tree is what two binary searches leave.
use Rattle.std.proofs.Common.{◌≡◌, ℕ, ◌+◌, ◌-◌, ◌<◌, ◌≤◌, List, [], ◌∷◌, length, get_or, take, drop, true, false, Contains, Ordering, Less, Equal, Greater, ltb, ◌⊎◌, inl, inr, ⊎_elim, sym, refl, ap, subst, ◌∙◌, arith, length-drop}
use Rattle.std.specs.Cmp.Lexicographic.{slice_cmp}
use Rattle.std.specs.List.Sorted.{IsNonDecreasingBy, IsPartitionedBy, IsPartitionPoint}
use Rattle.std.specs.Ordering.{is_lt, is_le, nat_cmp, ordering_index, ordering_then}
use Rattle.std.proofs.lemmas.Bool.{cases_Bool}
use borrow.Author.Tests.{ltb-true, ltb-false}
use Rattle.std.proofs.lemmas.Cmp.{nat_list_cmp_total, tied_itself}
use Rattle.std.proofs.lemmas.List.{get_or-take, get_or-drop, drop-drop, length-take-le}
use Rattle.std.proofs.lemmas.List.Elements.{Contains-get_or}
use Rattle.std.proofs.lemmas.List.Sorted.{searchable_from_sorted}
use Rattle.std.proofs.lemmas.Map.Lookups.{exact_bytes}
use Rattle.gw_pattern.specs.declared.form.Pattern.{Pattern}
use Rattle.gw_mux.specs.Keys.{first_key, keys_at, keys_cmp, tail_at}
use Rattle.gw_mux.specs.Order.{IsRun, IsSortedFrom}

abbrev pub key_cmp : List ℕ → List ℕ → Ordering
key_cmp = slice_cmp nat_cmp

lt_or_ge : (i j : ℕ) → (i < j) ⊎ (j ≤ i)
lt_or_ge i j = ⊎_elim (λ e. inl (ltb-true i j e)) (λ e. inr (ltb-false i j e)) (cases_Bool (ltb i j))

-- ---- orders of lists of keys, and of their first ones

then_less : (o p : Ordering) → is_lt (ordering_then o p) ≡ false → is_lt o ≡ false
then_less Less p h = h
then_less Equal p h = refl
then_less Greater p h = refl

above_nothing : (x : List ℕ) → is_lt (key_cmp x []) ≡ false
above_nothing [] = refl
above_nothing (a ∷ more) = refl

first_rises : (s t : List (List ℕ)) → is_lt (keys_cmp s t) ≡ false → is_lt (key_cmp (first_key s) (first_key t)) ≡ false
first_rises [] [] h = refl
first_rises [] (y ∷ ys) h = absurd (cc)
first_rises (x ∷ xs) [] h = above_nothing x
first_rises (x ∷ xs) (y ∷ ys) h = then_less (key_cmp x y) (keys_cmp xs ys) h

then_equal : (o p : Ordering) → o ≡ Equal → is_lt (ordering_then o p) ≡ false → is_lt p ≡ false
then_equal o p e h = subst (λ x. is_lt (ordering_then x p) ≡ false) e h

no_keys_above : (xs : List (List ℕ)) → is_lt (keys_cmp xs []) ≡ false
no_keys_above [] = refl
no_keys_above (x ∷ xs) = refl

-- behind the same first key the rest decides
rest_rises : (s t : List (List ℕ)) → first_key s ≡ first_key t → is_lt (keys_cmp s t) ≡ false → is_lt (keys_cmp (drop 1 s) (drop 1 t)) ≡ false
rest_rises [] [] e h = refl
rest_rises [] (y ∷ ys) e h = absurd (cc)
rest_rises (x ∷ xs) [] e h = no_keys_above xs
rest_rises (x ∷ xs) (y ∷ ys) e h =
    then_equal (key_cmp x y) (keys_cmp xs ys) (subst (λ z. key_cmp x z ≡ Equal) e (tied_itself nat_list_cmp_total x)) h

-- ---- tests that a binary search asks

lt_below : (o p : Ordering) → ordering_index o ≤ ordering_index p → is_lt p ≡ true → is_lt o ≡ true
lt_below Less p h e = refl
lt_below Equal Less h e = absurd (omega (arith, h))
lt_below Greater Less h e = absurd (omega (arith, h))
lt_below Equal Equal h e = e
lt_below Equal Greater h e = e
lt_below Greater Equal h e = e
lt_below Greater Greater h e = e

le_below : (o p : Ordering) → ordering_index o ≤ ordering_index p → is_le p ≡ true → is_le o ≡ true
le_below Less p h e = refl
le_below Equal p h e = refl
le_below Greater Less h e = absurd (omega (arith, h))
le_below Greater Equal h e = absurd (omega (arith, h))
le_below Greater Greater h e = e

between : (o : Ordering) → is_lt o ≡ false → is_le o ≡ true → o ≡ Equal
between Less h k = absurd (cc)
between Equal h k = refl
between Greater h k = absurd (cc)

-- ---- the run

-- how the branch of a pattern lies to a key
abbrev pub place : List Pattern → ℕ → List ℕ → ℕ → Ordering
place patterns depth key i = key_cmp (first_key (tail_at patterns depth i)) key

rising : (patterns : List Pattern) (depth : ℕ) (key numbers : List ℕ) → IsSortedFrom patterns depth numbers → IsNonDecreasingBy (λ i. ordering_index (place patterns depth key i)) numbers
unfolding IsSortedFrom
rising patterns depth key numbers sorted =
    searchable_from_sorted nat_list_cmp_total (λ i. first_key (tail_at patterns depth i)) numbers key
    (λ k d low high. first_rises (tail_at patterns depth (get_or numbers (k + 1) d)) (tail_at patterns depth (get_or numbers k d)) (sorted k d low high))

pub parted_lt : (patterns : List Pattern) (depth : ℕ) (key numbers : List ℕ) → IsSortedFrom patterns depth numbers → IsPartitionedBy (λ i. is_lt (place patterns depth key i)) numbers
parted_lt patterns depth key numbers sorted =
    λ i j d le within h. lt_below (place patterns depth key (get_or numbers i d)) (place patterns depth key (get_or numbers j d)) (rising patterns depth key numbers sorted i j d le within) h

pub parted_le : (patterns : List Pattern) (depth : ℕ) (key numbers : List ℕ) → IsSortedFrom patterns depth numbers → IsPartitionedBy (λ i. is_le (place patterns depth key i)) numbers
parted_le patterns depth key numbers sorted =
    λ i j d le within h. le_below (place patterns depth key (get_or numbers i d)) (place patterns depth key (get_or numbers j d)) (rising patterns depth key numbers sorted i j d le within) h

-- ---- a part of the list

sorted_part : (patterns : List Pattern) (depth : ℕ) (numbers part : List ℕ) (from : ℕ) → from + length part ≤ length numbers → ((k d : ℕ) → k < length part → get_or part k d ≡ get_or numbers (from + k) d) → IsSortedFrom patterns depth numbers → IsSortedFrom patterns depth part
unfolding IsSortedFrom
sorted_part patterns depth numbers part from fits same sorted =
    λ k d low high.
    let e : get_or part (k + 1) d ≡ get_or numbers ((from + k) + 1) d = same (k + 1) d high ∙ ap (λ n. get_or numbers n d) (omega arith) in
    let f = same k d (omega (arith, high)) in
    let h = sorted (from + k) d (omega arith) (omega (arith, high, fits)) in
    subst (λ i. is_lt (keys_cmp (tail_at patterns depth i) (tail_at patterns depth (get_or part k d))) ≡ false) (sym e)
    (subst (λ i. is_lt (keys_cmp (tail_at patterns depth (get_or numbers ((from + k) + 1) d)) (tail_at patterns depth i)) ≡ false) (sym f) h)

pub sorted_drop : (patterns : List Pattern) (depth : ℕ) (numbers : List ℕ) (from : ℕ) → from ≤ length numbers → IsSortedFrom patterns depth numbers → IsSortedFrom patterns depth (drop from numbers)
sorted_drop patterns depth numbers from fits sorted =
    sorted_part patterns depth numbers (drop from numbers) from (omega (arith, length-drop from numbers, fits)) (λ k d h. get_or-drop from numbers k d) sorted

-- the numbers of a part rise by what stands behind their branch, where that is the same
sorted_behind : (patterns : List Pattern) (depth : ℕ) (key part : List ℕ) → IsSortedFrom patterns depth part → ((i : ℕ) → Contains part i → first_key (tail_at patterns depth i) ≡ key) → IsSortedFrom patterns (depth + 1) part
unfolding IsSortedFrom
sorted_behind patterns depth key part sorted each =
    λ k d low high.
    let i = get_or part (k + 1) d in
    let j = get_or part k d in
    let e = each i (Contains-get_or part (k + 1) d high) ∙ sym (each j (Contains-get_or part k d (omega (arith, high)))) in
    let h = rest_rises (tail_at patterns depth i) (tail_at patterns depth j) e (sorted k d low high) in
    subst (λ s. is_lt (keys_cmp s (tail_at patterns (depth + 1) j)) ≡ false) (drop-drop 1 depth (keys_at patterns i))
    (subst (λ s. is_lt (keys_cmp (drop 1 (tail_at patterns depth i)) s) ≡ false) (drop-drop 1 depth (keys_at patterns j)) h)

module _ (patterns : List Pattern) (depth : ℕ) (key numbers run : List ℕ) (from : ℕ) (in_from : from + length run ≤ length numbers) (same : (k d : ℕ) → k < length run → get_or run k d ≡ get_or numbers (from + k) d) (h : IsPartitionPoint (λ i. is_lt (place patterns depth key i) ≡ true) (λ i. is_lt (place patterns depth key i) ≡ false) numbers from) (le : (k d : ℕ) → k < length run → is_le (place patterns depth key (get_or numbers (from + k) d)) ≡ true) (gt : (k d : ℕ) → from + length run ≤ k → k < length numbers → is_le (place patterns depth key (get_or numbers k d)) ≡ false) where
  run_key : (i : ℕ) → Contains run i → Contains numbers i × (first_key (tail_at patterns depth i) ≡ key)
  run_key i c =
      let at : get_or numbers (from + c.0) i ≡ i = sym (same c.0 i c.1) ∙ c.2 in
      let within : from + c.0 < length numbers = omega (arith, c.1, in_from) in
      let low : is_lt (place patterns depth key i) ≡ false = subst (λ j. is_lt (place patterns depth key j) ≡ false) at (h.1 (from + c.0) i (omega arith) within) in
      let high : is_le (place patterns depth key i) ≡ true = subst (λ j. is_le (place patterns depth key j) ≡ true) at (le c.0 i c.1) in
      ((from + c.0, within, at), exact_bytes (first_key (tail_at patterns depth i)) key (between (place patterns depth key i) low high))

  tied : (i : ℕ) → first_key (tail_at patterns depth i) ≡ key → place patterns depth key i ≡ Equal
  tied i e = subst (λ x. key_cmp (first_key (tail_at patterns depth i)) x ≡ Equal) e (tied_itself nat_list_cmp_total (first_key (tail_at patterns depth i)))

  run_all : (i : ℕ) → Contains numbers i → first_key (tail_at patterns depth i) ≡ key → Contains run i
  run_all i c e =
      let t = tied i e in
      ⊎_elim
      (λ below. let low : is_lt (place patterns depth key i) ≡ true = subst (λ j. is_lt (place patterns depth key j) ≡ true) c.2 (h.0 c.0 i (omega arith) below) in absurd (cc))
      (λ up. ⊎_elim
      (λ below.
      let k = c.0 - from in
      let whole : from + k ≡ c.0 = omega (arith, up) in
      let short : k < length run = omega (arith, below, up) in
      (k, short, same k i short ∙ ap (λ n. get_or numbers n i) whole ∙ c.2))
      (λ past. let high : is_le (place patterns depth key i) ≡ false = subst (λ j. is_le (place patterns depth key j) ≡ false) c.2 (gt c.0 i past c.1) in absurd (cc))
      (lt_or_ge c.0 (from + length run)))
      (lt_or_ge c.0 from)

  pub run_is : IsSortedFrom patterns depth numbers → IsRun patterns depth key numbers run
  run_is sorted = record {
    within = run_key;
    all = run_all;
    sorted = sorted_behind patterns depth key run (sorted_part patterns depth numbers run from in_from same sorted) (λ i c. (run_key i c).1);
  }

-- the two searches
pub searched_run : (patterns : List Pattern) (depth : ℕ) (key numbers rest run : List ℕ) (from n : ℕ) → rest ≡ drop from numbers → run ≡ take n rest → from ≤ length numbers → n ≤ length rest → IsPartitionPoint (λ i. is_lt (place patterns depth key i) ≡ true) (λ i. is_lt (place patterns depth key i) ≡ false) numbers from → IsPartitionPoint (λ i. is_le (place patterns depth key i) ≡ true) (λ i. is_le (place patterns depth key i) ≡ false) rest n → IsSortedFrom patterns depth numbers → IsRun patterns depth key numbers run
searched_run patterns depth key numbers rest run from n e f in_from in_rest h k sorted =
    let lengths : length rest ≡ length numbers - from = ap length e ∙ length-drop from numbers in
    let short : length run ≡ n = ap length f ∙ length-take-le n rest in_rest in
    let behind : (k d : ℕ) → get_or rest k d ≡ get_or numbers (from + k) d = λ k d. ap (λ xs. get_or xs k d) e ∙ get_or-drop from numbers k d in
    run_is patterns depth key numbers run from (omega (arith, lengths, short, in_from, in_rest))
    (λ k d lt. ap (λ xs. get_or xs k d) f ∙ get_or-take n rest k d (omega (arith, lt, short)) ∙ behind k d)
    h
    (λ i d lt. subst (λ j. is_le (place patterns depth key j) ≡ true) (behind i d) (k.0 i d (omega arith) (omega (arith, lt, short))))
    (λ i d past within.
    let whole : from + (i - from) ≡ i = omega (arith, past) in
    subst (λ j. is_le (place patterns depth key j) ≡ false) (behind (i - from) d ∙ ap (λ n. get_or numbers n d) whole) (k.1 (i - from) d (omega (arith, past, short)) (omega (arith, within, lengths, past))))
    sorted
