-- A pool that is opened meets the rule of the turn, and its passes are cut off one by one.
use Rattle.std.proofs.Common.{◌≡◌, ℕ, zero, suc, ◌+◌, ◌-◌, ◌<◌, ◌≤◌, inl, inr, List, [], ◌∷◌, ◌++◌, length, refl, sym, ap, ◌∙◌, subst, arith, nat_lt, Some, lt-ltb, le-ltb}
use Rattle.std.specs.List.{sum_by}
use Rattle.std.proofs.lemmas.Bool.{cases_lt}
use Rattle.std.proofs.lemmas.List.Sums.{sum_by-cons}
use Rattle.std.proofs.lemmas.List.Elements.{All-nil}
use mathlib.Core.Option.{some, some-injective, some-ne-none}
use lib.ListN.{get_elem?}
use Rattle.atomic_table.specs.Table.{opening}
use Rattle.atomic_table.specs.Seated.{TableId}
use Rattle.gw_pool.specs.declared.limits.Limits.{Limits}
use Rattle.gw_pool.specs.State.{empty}
use Rattle.gw_pool.specs.History.{IsLegal, after}
use Rattle.gw_pool.specs.Core.{CoreView}
use Rattle.gw_pool.specs.Ties.{Among, one, bit, occ_of, Weigh}
use Rattle.gw_pool.proofs.Ties.{decide, one_same, one_other}
use Rattle.gw_pool.proofs.Weights.{weight}
use Rattle.gw_turn.specs.declared.view.Member.{Member}
use Rattle.gw_turn.specs.declared.view.PassView.{PassView}
use Rattle.gw_pool.specs.Owner.{owner}
use Rattle.gw_turn.specs.Tie.{Ties}
use Rattle.gw_turn.specs.Turn.{unused, unused_from, begun, first_view, IsKnown, Fits, IsKept}
use Rattle.gw_turn.specs.Steps.{Others, right_of, split_left, split_right}
use Rattle.gw_turn.specs.Pass.{PassState, fresh_pass, fresh_passes}

-- each number counts once
count_below : (n a k : ℕ) → n < a → sum_by (λ (m : Member). one n m.number) (unused_from a k) ≡ 0
count_below n a zero l = refl
count_below n a (suc k) l = omega (arith, sum_by-cons (λ (m : Member). one n m.number) (unused a) (unused_from (suc a) k), one_other n a (λ e. omega (arith, e, l)), count_below n (suc a) k (omega arith))

count_above : (n a k : ℕ) → a + k ≤ n → sum_by (λ (m : Member). one n m.number) (unused_from a k) ≡ 0
count_above n a zero l = refl
count_above n a (suc k) l = omega (arith, sum_by-cons (λ (m : Member). one n m.number) (unused a) (unused_from (suc a) k), one_other n a (λ e. omega (arith, e, l)), count_above n (suc a) k (omega arith))

count_within : (n a k : ℕ) → a ≤ n → n < a + k → sum_by (λ (m : Member). one n m.number) (unused_from a k) ≡ 1
count_within n a zero l h = absurd (omega arith)
count_within n a (suc k) l h = elim (decide n a) [
  | inl e ↦ omega (arith, sum_by-cons (λ (m : Member). one n m.number) (unused a) (unused_from (suc a) k), ap (λ x. one n x) (sym e) ∙ one_same n, count_below n (suc a) k (omega (arith, e)))
  | inr ne ↦ omega (arith, sum_by-cons (λ (m : Member). one n m.number) (unused a) (unused_from (suc a) k), one_other n a ne, count_within n (suc a) k (omega (arith, ne, l)) (omega (arith, h)))
]

all_unused : (p : ℕ) → 0 < p → unused 0 ∷ unused_from 1 (p - 1) ≡ unused_from 0 p
all_unused zero l = absurd (omega arith)
all_unused (suc p) l = let e : suc p - 1 ≡ p = omega arith in rw e refl

count_all : (n p : ℕ) → sum_by (λ (m : Member). one n m.number) (unused_from 0 p) ≡ bit (nat_lt n p)
count_all n p = elim (cases_lt n p) [
  | inl l ↦ count_within n 0 p (omega arith) (omega (arith, l)) ∙ sym (ap bit (lt-ltb n p l))
  | inr h ↦ count_above n 0 p (omega (arith, h)) ∙ sym (ap bit (le-ltb n p h))
]

length_unused : (a k : ℕ) → length (unused_from a k) ≡ k
length_unused a zero = refl
length_unused a (suc k) = ap suc (length_unused (suc a) k)

among_unused : (a k : ℕ) (m : Member) → Among m (unused_from a k) → (n : ℕ) × (m ≡ unused n) × (n < a + k)
among_unused a zero m h = absurd h
among_unused a (suc k) m (inl e) = (a, sym e, omega arith)
among_unused a (suc k) m (inr h) = let r = among_unused (suc a) k m h in let l = r.2 in (r.0, r.1, omega (arith, l))

empty_weight : (g : Weigh) → weight g empty ≡ 0
unfolding weight
empty_weight g = refl

empty_state : (limits : Limits) → after limits [] ≡ empty
unfolding after
empty_state limits = refl

unused_ties : (limits : Limits) (n : ℕ) → Ties (owner []) n (after limits []) [] []
unused_ties limits n = rw (empty_state limits) (record {
  own = λ w ne. refl;
  made = λ w l. refl;
  once = λ w. omega arith;
  held = λ w e. omega (arith, empty_weight (occ_of w));
  dials = λ w e. refl;
  untaken = λ w t. refl;
})

unused_known : (limits : Limits) (n : ℕ) (m : Member) → m ≡ unused n → n < limits.passes → IsKnown limits [] [] m
unused_known limits n m e l = rw e (record { below = l; begins = ([], refl); own = refl; knows = refl; ties = unused_ties limits n })

first_fits : (limits : Limits) → 0 < limits.passes → Fits limits [] [] (first_view limits)
first_fits limits l = record {
  gone = λ e. absurd (cc);
  same_limits = λ _. refl;
  members = λ m a. let r = among_unused 0 limits.passes m (subst (λ x. Among m x) (all_unused limits.passes l) a) in let below = r.2 in unused_known limits r.0 m r.1 (omega (arith, below));
  past = λ x a. absurd a;
  holds = λ e. absurd (cc);
}

fits_at : (limits : Limits) → 0 < limits.passes → (id : ℕ) (v : PassView) → get_elem? (first_view limits ∷ []) id ≡ some v → Fits limits [] [] v
fits_at limits l zero v e = subst (λ w. Fits limits [] [] w) (some-injective (first_view limits) v e) (first_fits limits l)
fits_at limits l (suc id) v e = absurd (some-ne-none v (sym e))

pub opened : (limits : Limits) (core : CoreView) → 0 < limits.passes → 0 < limits.per_pass → core.limits ≡ limits → core.journal ≡ [] → core.taken ≡ [] → IsKept limits (opening (0 ∷ 0 ∷ []) (Some core ∷ []) (first_view limits))
unfolding IsLegal
opened limits core l few a b c = record {
  two_words = omega arith;
  one_slot = omega arith;
  few = few;
  history = [];
  taken = [];
  legal = tt;
  callers = All-nil (λ entry. entry.caller < limits.passes);
  fresh = λ w h. refl;
  count = refl;
  turn = refl;
  one_turn = omega arith;
  home = λ _. ap (λ (x : CoreView). some (some (Some x))) (rw (← a, ← b, ← c) refl);
  numbers = λ n. let is = ap (λ ms. sum_by (λ (m : Member). one n m.number) ms) (all_unused limits.passes l) ∙ count_all n limits.passes in omega (arith, is);
  sizes = let is = ap (λ (ms : List Member). length ms) (all_unused limits.passes l) ∙ length_unused 0 limits.passes in omega (arith, is);
  longest = (0, first_view limits, refl, refl);
  each = fits_at limits l;
}

-- the passes are cut off one by one
pub unused_more : (n k : ℕ) → 0 < k → unused_from n k ≡ unused n ∷ unused_from (n + 1) (k - 1)
unused_more n zero l = absurd (omega arith)
unused_more n (suc k) l = let e : suc k - 1 ≡ k = omega arith in let f : n + 1 ≡ suc n = omega arith in rw (e, f) refl

pub fresh_push : (pool : TableId) (limits : Limits) (n k : ℕ) → fresh_passes pool limits n (k + 1) ≡ fresh_passes pool limits n k ++ fresh_pass pool limits (n + k) ∷ []
fresh_push pool limits n zero = let e : n + 0 ≡ n = omega arith in rw e refl
fresh_push pool limits n (suc k) =
    let e : suc n + k ≡ n + suc k = omega arith in
    let f : suc k + 1 ≡ suc (k + 1) = omega arith in
    ap (λ j. fresh_passes pool limits n j) f ∙ ap (λ l. fresh_pass pool limits n ∷ l) (fresh_push pool limits (suc n) k ∙ ap (λ j. fresh_passes pool limits (suc n) k ++ fresh_pass pool limits j ∷ []) e)

pub fresh_length : (pool : TableId) (limits : Limits) (n k : ℕ) → length (fresh_passes pool limits n k) ≡ k
fresh_length pool limits n zero = refl
fresh_length pool limits n (suc k) = ap suc (fresh_length pool limits (suc n) k)

-- what the loop keeps: the passes below a number were made, and the others are still to be cut off
abbrev pub rest_of : Limits → ℕ → PassView
rest_of limits n = begun limits (unused (n - 1)) (unused_from n (limits.passes - n))

pub rest_others : (limits : Limits) (n : ℕ) → n < limits.passes → Others (rest_of limits n)
rest_others limits n l = (unused n, unused_from (n + 1) (limits.passes - n - 1), unused_more n (limits.passes - n) (omega arith))

pub rest_left : (limits : Limits) (n : ℕ) → split_left (rest_of limits n) ≡ begun limits (unused (n - 1)) []
rest_left limits n = refl

pub rest_right : (limits : Limits) (n : ℕ) → n < limits.passes → split_right (rest_of limits n) ≡ rest_of limits (n + 1)
rest_right limits n l =
    let v = rest_of limits n in
    let e : n + 1 - 1 ≡ n = omega arith in
    let f : limits.passes - n - 1 ≡ limits.passes - (n + 1) = omega arith in
    ap (λ ms. right_of v ms) (unused_more n (limits.passes - n) (omega arith)) ∙ rw (e, f) refl

pub made_length : (pool : TableId) (limits : Limits) (n : ℕ) (items : List PassState) → items ≡ fresh_passes pool limits 0 (n - 1) → length items ≡ n - 1
made_length pool limits n items e = ap (λ (l : List PassState). length l) e ∙ fresh_length pool limits 0 (n - 1)

pub made_next : (pool : TableId) (limits : Limits) (n m : ℕ) (items : List PassState) → items ≡ fresh_passes pool limits 0 (n - 1) → m ≡ n - 1 + 1 → items ++ fresh_pass pool limits (n - 1) ∷ [] ≡ fresh_passes pool limits 0 m
made_next pool limits n m items e f =
    let zero_more : 0 + (n - 1) ≡ n - 1 = omega arith in
    ap (λ l. l ++ fresh_pass pool limits (n - 1) ∷ []) e ∙ sym (ap (λ k. fresh_passes pool limits 0 k) f ∙ fresh_push pool limits 0 (n - 1) ∙ ap (λ k. fresh_passes pool limits 0 (n - 1) ++ fresh_pass pool limits k ∷ []) zero_more)
