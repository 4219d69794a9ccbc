-- Which patterns serve a path, and which methods they allow.
use Rattle.std.proofs.Common.{◌≡◌, ◌↔◌, ℕ, ◌+◌, ◌<◌, Bool, true, false, List, [], ◌∷◌, ◌++◌, slice_index, eqb, Option, Some, None, codes, ◌⊎◌, inl, inr, ⊎_elim, if◌then◌else◌, sym, refl, subst, ap, ◌∙◌, arith}
use Rattle.std.specs.Bool.{Decides}
use Rattle.std.specs.List.{Contains}
use Rattle.std.proofs.lemmas.List.Elements.{Contains-append_left, Contains-append_right, Contains-append_cases, Contains-push, Contains-push_cases}
use Rattle.std.proofs.lemmas.Bool.{cases_Bool, eqb-true, eqb-false}
use Rattle.std.proofs.lemmas.Slice.Eq.{bytes_eq-Decides}
use Rattle.gw_pattern.specs.declared.form.Pattern.{Pattern}
use Rattle.gw_sets.specs.Comparison.{is_get}
use Rattle.gw_sets.specs.Matches.{HostMatches, MethodMatches, SegsMatch}
use Rattle.gw_mux.specs.Allow.{AreNamed, DoesServe, HasGained, ServesPath, named_methods}
use Rattle.gw_mux.specs.Table.{IsAt}
use Rattle.gw_mux.specs.Walk.{segments_in}
use Rattle.gw_mux.proofs.Conflicting.{same_at}
use Rattle.gw_mux.proofs.Paths.{IsSeen}

-- ---- the tests

abbrev pub Served : Type 0 → Type 0 → Bool → Type 0 → Type 0
Served H M s N = H × (M ⊎ ((s ≡ false) × N))

pub to_serve : (p : Pattern) (host path body : List ℕ) (slash : Bool) → IsSeen [] host path body slash → Served (HostMatches p.host host) (SegsMatch p.segs.items (segments_in body) slash) slash (SegsMatch p.segs.items (segments_in body) true) → ServesPath p host path
unfolding ServesPath DoesServe
to_serve p host path body slash s k =
    ⊎_elim
    (λ m. inl (subst (λ a. HostMatches p.host a.host × SegsMatch p.segs.items a.segs a.slash) (sym s.same) (k.0, m)))
    (λ m. inr (s.ends ∙ m.0, subst (λ a. HostMatches p.host a.host × SegsMatch p.segs.items a.segs a.slash) (sym (s.more m.0)) (k.0, m.1)))
    k.1

pub from_served : (p : Pattern) (host path body : List ℕ) (slash : Bool) → IsSeen [] host path body slash → ServesPath p host path → Served (HostMatches p.host host) (SegsMatch p.segs.items (segments_in body) slash) slash (SegsMatch p.segs.items (segments_in body) true)
unfolding ServesPath DoesServe
from_served p host path body slash s k =
    ⊎_elim
    (λ d. let x = subst (λ a. HostMatches p.host a.host × SegsMatch p.segs.items a.segs a.slash) s.same d in (x.0, inl x.1))
    (λ d. let e : slash ≡ false = sym s.ends ∙ d.0 in let x = subst (λ a. HostMatches p.host a.host × SegsMatch p.segs.items a.segs a.slash) (s.more e) d.1 in (x.0, inr (e, x.1)))
    k

-- ---- methods

one_more : (own m : List ℕ) → Contains (own ∷ []) m → own ≡ m
one_more own m h = ⊎_elim (λ x. absurd (omega (arith, x.1))) (λ e. e) (Contains-push_cases [] own m h)

both_named : (own m : List ℕ) → Contains (own ∷ codes "HEAD" ∷ []) m → (own ≡ m) ⊎ (codes "HEAD" ≡ m)
both_named own m h = ⊎_elim (λ x. inl (one_more own m x)) (λ e. inr e) (Contains-push_cases (own ∷ []) (codes "HEAD") m h)

named_by : (own m : List ℕ) (b : Bool) → Decides b (own ≡ codes "GET") → Contains (if b then own ∷ codes "HEAD" ∷ [] else own ∷ []) m ↔ MethodMatches (Some own) m
named_by own m true d = (
  λ h. ⊎_elim (λ e. inl (sym e)) (λ e. inr (d.0 refl, sym e)) (both_named own m h),
  λ k. ⊎_elim
      (λ e. Contains-append_left (own ∷ []) (codes "HEAD" ∷ []) m (subst (λ x. Contains (own ∷ []) x) (sym e) (Contains-push [] own)))
      (λ e. Contains-append_right (own ∷ []) (codes "HEAD" ∷ []) m (subst (λ x. Contains (codes "HEAD" ∷ []) x) (sym e.1) (Contains-push [] (codes "HEAD"))))
      k,
)
named_by own m false d = (
  λ h. inl (sym (one_more own m h)),
  λ k. ⊎_elim
      (λ e. subst (λ x. Contains (own ∷ []) x) (sym e) (Contains-push [] own))
      (λ e. let differ : false ≡ true = d.1 e.0 in cc)
      k,
)

named_is : (own m : List ℕ) → Contains (named_methods (Some own)) m ↔ MethodMatches (Some own) m
named_is own m = named_by own m (is_get own) (bytes_eq-Decides own (codes "GET"))

named_of : (method : Option (List ℕ)) (m : List ℕ) → Contains (named_methods method) m → (own : List ℕ) × (method ≡ Some own) × MethodMatches (Some own) m
named_of None m h = absurd (omega (arith, h.1))
named_of (Some own) m h = (own, refl, (named_is own m).0 h)

to_named : (method : Option (List ℕ)) (own m : List ℕ) → method ≡ Some own → MethodMatches (Some own) m → Contains (named_methods method) m
to_named method own m e h = subst (λ x. Contains (named_methods x) m) (sym e) ((named_is own m).1 h)

-- ---- one number more

pub named_none : (patterns : List Pattern) (numbers : List ℕ) → AreNamed patterns numbers 0 []
named_none patterns numbers = λ m. (λ h. absurd (omega (arith, h.1)), λ h. absurd (omega (arith, h.6)))

same_or_below : (i n : ℕ) → i < n + 1 → (i ≡ n) ⊎ (i < n)
same_or_below i n h = ⊎_elim (λ e. inl (eqb-true i n e)) (λ e. let ne = eqb-false i n e in inr (omega arith)) (cases_Bool (eqb i n))

pub named_next : (patterns : List Pattern) (numbers : List ℕ) (n : ℕ) (p : Pattern) (old new : List (List ℕ)) → IsAt patterns (slice_index numbers n) p → HasGained old (named_methods p.method) new → AreNamed patterns numbers n old → AreNamed patterns numbers (n + 1) new
named_next patterns numbers n p old new at gained h =
    λ m. (
      λ c. ⊎_elim
          (λ x. let k = (h m).0 x in (k.0, k.1, k.2, k.3, k.4, k.5, omega (arith, k.6)))
          (λ x. let k = named_of p.method m x in (n, p, k.0, at, k.1, k.2, omega arith))
          ((gained m).0 c),
      λ k. (gained m).1 (⊎_elim
          (λ e. inr (to_named p.method k.2 m (ap (λ x. x.method) (same_at patterns (slice_index numbers n) p k.1 at (subst (λ x. IsAt patterns (slice_index numbers x) k.1) e k.3)) ∙ k.4) k.5))
          (λ e. inl ((h m).1 (k.0, k.1, k.2, k.3, k.4, k.5, e)))
          (same_or_below k.0 n k.6)),
    )

pub gained_both : (old mid new : List (List ℕ)) (a b : List ℕ) → HasGained old (a ∷ []) mid → HasGained mid (b ∷ []) new → HasGained old (a ∷ b ∷ []) new
gained_both old mid new a b h k m = (
  λ c. ⊎_elim
      (λ x. ⊎_elim (λ y. inl y) (λ y. inr (Contains-append_left (a ∷ []) (b ∷ []) m y)) ((h m).0 x))
      (λ x. inr (Contains-append_right (a ∷ []) (b ∷ []) m x))
      ((k m).0 c),
  λ c. (k m).1 (⊎_elim
      (λ x. inl ((h m).1 (inl x)))
      (λ x. ⊎_elim (λ y. inl ((h m).1 (inr y))) (λ y. inr y) (Contains-append_cases (a ∷ []) (b ∷ []) m x))
      c),
)

pub gained_pushed : (old new : List (List ℕ)) (a : List ℕ) → new ≡ old ++ a ∷ [] → HasGained old (a ∷ []) new
gained_pushed old new a e m = (
  λ c. Contains-append_cases old (a ∷ []) m (subst (λ l. Contains l m) e c),
  λ c. subst (λ l. Contains l m) (sym e) (⊎_elim (λ x. Contains-append_left old (a ∷ []) m x) (λ x. Contains-append_right old (a ∷ []) m x) c),
)

pub gained_there : (old : List (List ℕ)) (a : List ℕ) → Contains old a → HasGained old (a ∷ []) old
gained_there old a h m = (λ c. inl c, λ c. ⊎_elim (λ x. x) (λ x. subst (λ y. Contains old y) (one_more a m x) h) c)

pub gained_none : (old : List (List ℕ)) → HasGained old [] old
gained_none old m = (λ c. inl c, λ c. ⊎_elim (λ x. x) (λ x. absurd (omega (arith, x.1))) c)

pub gained_get : (old mid new : List (List ℕ)) (own : List ℕ) → is_get own ≡ true → HasGained old (own ∷ []) mid → HasGained mid (codes "HEAD" ∷ []) new → HasGained old (named_methods (Some own)) new
gained_get old mid new own e h k =
    subst (λ b. HasGained old (if b then own ∷ codes "HEAD" ∷ [] else own ∷ []) new) (sym e) (gained_both old mid new own (codes "HEAD") h k)

pub gained_other : (old new : List (List ℕ)) (own : List ℕ) → is_get own ≡ false → HasGained old (own ∷ []) new → HasGained old (named_methods (Some own)) new
gained_other old new own e h = subst (λ b. HasGained old (if b then own ∷ codes "HEAD" ∷ [] else own ∷ []) new) (sym e) h
