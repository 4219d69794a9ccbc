-- What a word tells of the views.
use Rattle.std.proofs.Common.{◌≡◌, ℕ, zero, suc, ◌<◌, ◌≤◌, Bool, true, false, ◌||◌, List, [], ◌∷◌, slice_index, nat_le, nat_eq, refl, ap, ⊎_elim, arith}
use Rattle.std.proofs.lemmas.Bool.{cases_eq, cases_Bool, or_cases, leb-true, eqb-true}
use mathlib.Core.Option.{some}
use lib.ListN.{get_elem?}
use Rattle.gw_gate.specs.declared.view.GateView.{GateView}
use Rattle.gw_gate.specs.Gate.{shut_bit, IsOpen, IsShut, number_in, most_seats, GateState, one_if, total, room_of, holding, counted, shutting, shut_in, Fits, IsKept, Gate}
use Rattle.gw_gate.proofs.Sums.{total_below, total_at, one_if-le}

one_if-or_l : (a b : Bool) → one_if a ≤ one_if (a || b)
one_if-or_l true b = omega arith
one_if-or_l false b = omega arith

-- a view counts only where it has room
counted_below : (views : List GateView) (v : GateView) → Fits views v → counted v ≤ room_of v
counted_below views v fits = ⊎_elim
    (λ (none : v.room ≡ 0). let is : counted v ≡ 0 = ap counted (fits.roomless none) in omega arith)
    (λ (some : v.room ≡ 0 → ⊥). let top = one_if-le (v.held || v.undoing) in let r : 0 < v.room = above v.room some in omega arith)
    (cases_eq v.room 0)
  where
    above : (n : ℕ) → (n ≡ 0 → ⊥) → 0 < n
    above zero ne = absurd (ne refl)
    above (suc n) ne = omega arith

-- no more count than there are seats
pub few : (s : GateState) → IsKept s → total counted s.views ≤ most_seats
few s kept = let below = total_below counted room_of s.views (λ i v at. counted_below s.views v (kept.each i v at)) in let rooms = kept.rooms in omega arith

-- what the number of a word is
pub number_is : (s : GateState) → IsKept s → number_in (slice_index s.words 0) ≡ total counted s.views
number_is s kept = let small = few s kept in let word = kept.word in let top : shut_in s.views ≤ 1 = omega arith in ⊎_elim
    (λ (e : shut_in s.views ≡ 0). omega arith)
    (λ (e : shut_in s.views ≡ 0 → ⊥). let one : shut_in s.views ≡ 1 = omega arith in omega arith)
    (cases_eq (shut_in s.views) 0)

pub few_in : (s : GateState) → IsKept s → number_in (slice_index s.words 0) ≤ most_seats
few_in s kept = let is = number_is s kept in let small = few s kept in omega arith

pub shut_in_le : (views : List GateView) → shut_in views ≤ 1
shut_in_le views = omega arith

pub shut_by_word : (s : GateState) → IsKept s → IsShut (slice_index s.words 0) → shut_in s.views ≡ 1
shut_by_word s kept is = let f = few s kept in let w = kept.word in omega arith

pub open_by_word : (s : GateState) → IsKept s → IsOpen (slice_index s.words 0) → shut_in s.views ≡ 0
open_by_word s kept is = let f = few s kept in let w = kept.word in omega arith

pub word_by_shut : (s : GateState) → IsKept s → shut_in s.views ≡ 1 → IsShut (slice_index s.words 0)
word_by_shut s kept is = let w = kept.word in omega arith

holding_below : (views : List GateView) → total holding views ≤ total counted views
holding_below [] = omega arith
holding_below (x ∷ xs) = let r = holding_below xs in let here = one_if-or_l x.held x.undoing in omega arith

pub empty_by_word : (s : GateState) → IsKept s → slice_index s.words 0 ≡ shut_bit → total holding s.views ≡ 0
empty_by_word s kept is = let f = few s kept in let w = kept.word in let b = holding_below s.views in omega arith

-- what a seat knows once it has read the word
pub read_seen : (s : GateState) (i : ℕ) (v : GateView) → IsKept s → get_elem? s.views i ≡ some v → (v.seen_shut || nat_le shut_bit (slice_index s.words 0)) ≡ true → shut_in s.views ≡ 1
read_seen s i v kept at has = ⊎_elim (λ (e : v.seen_shut ≡ true). (kept.each i v at).seen e) (λ (e : nat_le shut_bit (slice_index s.words 0) ≡ true). shut_by_word s kept (leb-true _ _ e))
    (or_cases v.seen_shut (nat_le shut_bit (slice_index s.words 0)) has)

pub read_drained : (s : GateState) (i : ℕ) (v : GateView) → IsKept s → get_elem? s.views i ≡ some v → (v.drained || nat_eq (slice_index s.words 0) shut_bit) ≡ true
    → (shut_in s.views ≡ 1) × (total holding s.views ≡ 0)
read_drained s i v kept at has = ⊎_elim (λ (e : v.drained ≡ true). (kept.each i v at).drained e)
    (λ (e : nat_eq (slice_index s.words 0) shut_bit ≡ true). let is : slice_index s.words 0 ≡ shut_bit = eqb-true _ _ e in (shut_by_word s kept (omega arith), empty_by_word s kept is))
    (or_cases v.drained (nat_eq (slice_index s.words 0) shut_bit) has)

-- a bit stands for a seat that set it
some_shut : (views : List GateView) → 0 < total shutting views → (number : ℕ) × (v : GateView) × (get_elem? views number ≡ some v) × (v.shut ≡ true)
some_shut [] more = absurd (omega arith)
some_shut (x ∷ xs) more = ⊎_elim
    (λ (e : x.shut ≡ true). let found : (number : ℕ) × (v : GateView) × (get_elem? (x ∷ xs) number ≡ some v) × (v.shut ≡ true) = (0, x, refl, e) in found)
    (λ (e : x.shut ≡ false).
    let none : one_if x.shut ≡ 0 = ap one_if e in
    let later = some_shut xs (omega arith) in
    let found : (number : ℕ) × (v : GateView) × (get_elem? (x ∷ xs) number ≡ some v) × (v.shut ≡ true) = (suc later.0, later.1, later.2, later.3) in found)
    (cases_Bool x.shut)

pub gate_of : (s : GateState) → IsKept s → Gate s
gate_of s kept = record {
  bit = (
    (λ shut. some_shut s.views (let one = shut_by_word s kept shut in omega arith)),
    (λ some_one. let own = total_at shutting s.views some_one.0 some_one.1 some_one.2 in let one : one_if some_one.1.shut ≡ 1 = ap one_if some_one.3 in word_by_shut s kept (omega arith)),
  );
  number = number_is s kept;
  few = few_in s kept;
}
