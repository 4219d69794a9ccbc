-- A caller's tokens are tied to the rows of the pool: what stays true of both from call to call.
use Rattle.std.proofs.Common.{◌≡◌, ℕ, ◌+◌, ◌≤◌, ◌==◌, ◌⊎◌, inl, inr, Bool, true, false, List, [], ◌∷◌, Option, Some, None, refl, ap, sym, ◌∙◌, arith, cond, eq-eqb, ne_eqb, eqb-true, subst}
use Rattle.std.proofs.lemmas.Bool.{eqb-false}
use Rattle.std.specs.List.{find, sum_by}
use Rattle.std.proofs.lemmas.List.Sums.{sum_by-cons}
use Rattle.gw_pool.specs.declared.holding.Holding.{Holding}
use Rattle.gw_pool.specs.State.{State}
use Rattle.gw_pool.specs.Shelf.{is_among}
use Rattle.gw_pool.specs.Tokens.{names, is_held, change, holds, has_ticket, has_dial, has_lease}
pub use Rattle.gw_pool.specs.Ties.{one, bit, occ_of, dia_of, con_of, dials_of, Tied, SoloHolds}
use Rattle.gw_pool.proofs.Owns.{Owns}
use Rattle.gw_pool.proofs.Weights.{weight}

-- two numbers are the same, or not
decide_by : (a b : ℕ) (t : Bool) → (a == b) ≡ t → (a ≡ b) ⊎ (a ≡ b → ⊥)
decide_by a b true e = inl (eqb-true a b e)
decide_by a b false e = inr (eqb-false a b e)

pub decide : (a b : ℕ) → (a ≡ b) ⊎ (a ≡ b → ⊥)
decide a b = decide_by a b (a == b) refl

pub one_same : (k : ℕ) → one k k ≡ 1
one_same k = rw (eq-eqb k k refl)

pub one_other : (k m : ℕ) → (k ≡ m → ⊥) → one k m ≡ 0
one_other k m n = rw (ne_eqb m k (λ e. n (sym e)))

-- what a state keeps of another
pub record Moves (s t : State) : Type 0 where
  pub own : Owns 0 t
  pub occ : (w : ℕ) → weight (occ_of w) t ≤ weight (occ_of w) s
  pub dia : (w : ℕ) → weight (dia_of w) t ≤ weight (dia_of w) s
  pub con : (n : ℕ) → weight (con_of n) t ≤ 1
  pub con_new : (n : ℕ) → t.next_conn ≤ n → weight (con_of n) t ≡ 0
  pub next_want : t.next_want ≡ s.next_want

-- only one want's tokens became others
pub record After (w : ℕ) (now : Option Holding) (out out' : List Holding) : Type 0 where
  pub here : find (names w) out' ≡ now
  pub others : (v : ℕ) → (v ≡ w → ⊥) → find (names v) out' ≡ find (names v) out
  pub once : (v : ℕ) → sum_by (λ (h : Holding). one v h.want) out' ≤ 1

named_below : (s : State) (out : List Holding) (v w : ℕ) (h : Holding) → find (names v) out ≡ None → v ≡ w → find (names w) out ≡ Some h → ⊥
named_below s out v w h none e f = let P : ℕ → Type 0 = λ n. find (names n) out ≡ None in let bad : find (names w) out ≡ None = subst P e none in cc

pub tie : (s t : State) (out out' : List Holding) (taken taken' : List ℕ) (w : ℕ) (h : Holding) (now : Option Holding) → Tied s out taken → find (names w) out ≡ Some h → Moves s t → After w now out out'
    → weight (occ_of w) t ≤ bit (holds (λ x. x.ticket) now) + bit (holds (λ x. x.lease) now)
    → dials_of w t.dials ≡ bit (holds (λ x. x.dial) now)
    → ((v : ℕ) → (v ≡ w → ⊥) → dials_of v t.dials ≡ dials_of v s.dials)
    → (holds (λ x. x.ticket) now ≡ true → is_among w taken' ≡ false)
    → ((v : ℕ) → (v ≡ w → ⊥) → is_among v taken ≡ false → is_among v taken' ≡ false)
    → Tied t out' taken'
tie s t out out' taken taken' w h now k f m a heldw dialsw dialsv untakenw takenv =
    let below : (v : ℕ) → t.next_want ≤ v → v ≡ w → ⊥ = λ v l e. named_below s out v w h (k.out_new v (rw m.next_want at l)) e f in
    record {
      own = m.own;
      occ = λ v. omega (arith, k.occ v, m.occ v);
      dia = λ v. omega (arith, k.dia v, m.dia v);
      con = m.con;
      occ_new = λ v l. omega (arith, k.occ_new v (rw m.next_want at l), m.occ v);
      dia_new = λ v l. omega (arith, k.dia_new v (rw m.next_want at l), m.dia v);
      con_new = m.con_new;
      out_new = λ v l. a.others v (below v l) ∙ k.out_new v (rw m.next_want at l);
      taken_new = λ v l. takenv v (below v l) (k.taken_new v (rw m.next_want at l));
      once = a.once;
      held = λ v. elim (decide v w) [
        | inl e ↦ (let P : ℕ → Type 0 = λ n. weight (occ_of n) t ≤ bit (has_ticket n out') + bit (has_lease n out') in subst P (sym e) (rw a.here heldw))
        | inr n ↦ rw (a.others v n) (omega (arith, k.held v, m.occ v))
      ];
      dials = λ v. elim (decide v w) [
        | inl e ↦ (let P : ℕ → Type 0 = λ n. dials_of n t.dials ≡ bit (has_dial n out') in subst P (sym e) (rw a.here dialsw))
        | inr n ↦ rw (a.others v n) (dialsv v n ∙ k.dials v)
      ];
      untaken = λ v. elim (decide v w) [
        | inl e ↦ (let P : ℕ → Type 0 = λ n. has_ticket n out' ≡ true → is_among n taken' ≡ false in subst P (sym e) (λ tk. untakenw (rw a.here at tk)))
        | inr n ↦ λ tk. takenv v n (k.untaken v (rw (a.others v n) at tk))
      ];
    }

-- changes of one want's tokens
abbrev pub kept : Holding → Option Holding
kept h = cond (is_held h) (Some h) None

abbrev pub count_names : ℕ → List Holding → ℕ
count_names w out = sum_by (λ (h : Holding). one w h.want) out

none_by : (w : ℕ) (x : Holding) (xs : List Holding) (b : Bool) → names w x ≡ b → count_names w (x ∷ xs) ≡ 0 → (count_names w xs ≡ 0 → find (names w) xs ≡ None) → cond b (Some x) (find (names w) xs) ≡ None
none_by w x xs true p e k = let first : one w x.want ≡ 1 = (rw p) in absurd (omega (arith, sum_by-cons (λ (h : Holding). one w h.want) x xs, first, e))
none_by w x xs false p e k = k (omega (arith, sum_by-cons (λ (h : Holding). one w h.want) x xs, e))

none_once : (w : ℕ) (out : List Holding) → count_names w out ≡ 0 → find (names w) out ≡ None
none_once w [] e = refl
none_once w (x ∷ xs) e = none_by w x xs (names w x) refl e (none_once w xs)

-- the change keeps each want's number
pub record Renames (f : Holding → Holding) : Type 0 where
  pub same : (h : Holding) → (f h).want ≡ h.want

put : (f : Holding → Holding) (x : Holding) (xs : List Holding) → List Holding
put f x xs = cond (is_held (f x)) (f x ∷ xs) xs

find_step : (w : ℕ) (f : Holding → Holding) (x h : Holding) (xs : List Holding) (b c : Bool) → Renames f → names w x ≡ b → is_held (f x) ≡ c → count_names w (x ∷ xs) ≤ 1 → cond b (Some x) (find (names w) xs) ≡ Some h → (b ≡ false → count_names w xs ≤ 1 → find (names w) xs ≡ Some h → find (names w) (change w f xs) ≡ kept (f h)) → find (names w) (cond b (cond c (f x ∷ xs) xs) (x ∷ change w f xs)) ≡ kept (f h)
find_step w f x h xs true true r p q l e k =
    let same : x ≡ h = cc in let first : names w (f x) ≡ true = (rw (r.same x) p) in
    let done : cond (names w (f x)) (Some (f x)) (find (names w) xs) ≡ Some (f x) = (rw first) in
    let keeps : kept (f x) ≡ Some (f x) = (rw q) in
    done ∙ sym keeps ∙ ap (λ y. kept (f y)) same
find_step w f x h xs true false r p q l e k =
    let same : x ≡ h = cc in
    let first : one w x.want ≡ 1 = (rw p) in
    let keeps : kept (f x) ≡ None = (rw q) in
    none_once w xs (omega (arith, sum_by-cons (λ (y : Holding). one w y.want) x xs, first, l)) ∙ sym keeps ∙ ap (λ y. kept (f y)) same
find_step w f x h xs false c r p q l e k = rw p (k refl (omega (arith, sum_by-cons (λ (y : Holding). one w y.want) x xs, l)) e)

pub found_here : (w : ℕ) (f : Holding → Holding) (xs : List Holding) (h : Holding) → Renames f → count_names w xs ≤ 1 → find (names w) xs ≡ Some h → find (names w) (change w f xs) ≡ kept (f h)
found_here w f [] h r l e = absurd (cc)
found_here w f (x ∷ xs) h r l e = find_step w f x h xs (names w x) (is_held (f x)) r refl refl l e (λ b m g. found_here w f xs h r m g)

other_step : (v w : ℕ) (f : Holding → Holding) (x : Holding) (xs : List Holding) (b c : Bool) → Renames f → (v ≡ w → ⊥) → names w x ≡ b → find (names v) (change w f xs) ≡ find (names v) xs → find (names v) (cond b (cond c (f x ∷ xs) xs) (x ∷ change w f xs)) ≡ cond (names v x) (Some x) (find (names v) xs)
other_step v w f x xs true c r n p k =
    let is : x.want ≡ w = eqb-true x.want w p in
    let not_v : names v x ≡ false = ne_eqb x.want v (λ e. n (sym e ∙ is)) in
    let not_f : names v (f x) ≡ false = (rw (r.same x) not_v) in
    elim c as (λ d. find (names v) (cond d (f x ∷ xs) xs) ≡ cond (names v x) (Some x) (find (names v) xs)) [ true ↦ rw (not_f, not_v) | false ↦ rw not_v ]
other_step v w f x xs false c r n p k = rw k

pub found_other : (v w : ℕ) (f : Holding → Holding) (xs : List Holding) → Renames f → (v ≡ w → ⊥) → find (names v) (change w f xs) ≡ find (names v) xs
found_other v w f [] r n = refl
found_other v w f (x ∷ xs) r n = other_step v w f x xs (names w x) (is_held (f x)) r n refl (found_other v w f xs r n)

count_step : (v w : ℕ) (f : Holding → Holding) (x : Holding) (xs : List Holding) (b c : Bool) → Renames f → count_names v (change w f xs) ≤ count_names v xs → count_names v (cond b (cond c (f x ∷ xs) xs) (x ∷ change w f xs)) ≤ count_names v (x ∷ xs)
count_step v w f x xs true true r k = let same : one v (f x).want ≡ one v x.want = ap (one v) (r.same x) in omega (arith, sum_by-cons (λ (y : Holding). one v y.want) x xs, sum_by-cons (λ (y : Holding). one v y.want) (f x) xs, same)
count_step v w f x xs true false r k = omega (arith, sum_by-cons (λ (y : Holding). one v y.want) x xs)
count_step v w f x xs false c r k = omega (arith, sum_by-cons (λ (y : Holding). one v y.want) x xs, sum_by-cons (λ (y : Holding). one v y.want) x (change w f xs), k)

pub count_change : (v w : ℕ) (f : Holding → Holding) (xs : List Holding) → Renames f → count_names v (change w f xs) ≤ count_names v xs
count_change v w f [] r = omega arith
count_change v w f (x ∷ xs) r = count_step v w f x xs (names w x) (is_held (f x)) r (count_change v w f xs r)

pub changed : (w : ℕ) (f : Holding → Holding) (out : List Holding) (h : Holding) → Renames f → ((v : ℕ) → count_names v out ≤ 1) → find (names w) out ≡ Some h → After w (kept (f h)) out (change w f out)
changed w f out h r l e = record {
  here = found_here w f out h r (l w) e;
  others = λ v n. found_other v w f out r n;
  once = λ v. omega (arith, count_change v w f out r, l v);
}
