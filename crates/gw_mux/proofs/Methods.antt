-- The list of allowed methods, sorted and without repetition.
use Rattle.std.proofs.Common.{◌≡◌, ◌↔◌, ℕ, ◌<◌, true, List, length, get_or, slice_index, All, sym, subst, ◌∙◌, nat_eq}
use Rattle.std.proofs.lemmas.List.{get_or_default}
use Rattle.std.proofs.lemmas.List.Elements.{Contains-get_or}
use Rattle.std.specs.Cmp.Lexicographic.{pointwise, slice_cmp}
use Rattle.std.specs.List.{Contains, dedup}
use Rattle.std.specs.List.Sorted.{IsPermutation, IsSorted, IsStrictlySortedBy}
use Rattle.std.specs.Ordering.{nat_cmp, eq_by_cmp}
use Rattle.std.proofs.lemmas.Cmp.{nat_list_cmp_total, nat_list_eq_equiv}
use Rattle.std.proofs.lemmas.List.Kept.{Contains-dedup, Contains-from_dedup, IsStrictlySortedBy-dedup}
use Rattle.std.proofs.lemmas.List.Sorted.{Contains-permutation, IsPermutation-sym}
use Rattle.std.proofs.lemmas.Option.{slice_get_within}
use Rattle.std.proofs.lemmas.Slice.Eq.{bytes_eq-Decides}
use Rattle.gw_pattern.specs.declared.form.Pattern.{Pattern}
use Rattle.gw_mux.specs.Allow.{AreAllowed, AreNamed, IsAllow, IsServed, ServesPath}
use Rattle.gw_mux.specs.Table.{IsAt}
use Rattle.gw_mux.proofs.Conflicting.{same_at}

same_texts : (x y : List ℕ) → pointwise nat_eq x y ≡ true → x ≡ y
same_texts x y e = (bytes_eq-Decides x y).0 e

pub named_sorted : (patterns : List Pattern) (numbers : List ℕ) (methods sorted left : List (List ℕ)) → ((x y : List ℕ) → pointwise nat_eq x y ≡ eq_by_cmp (slice_cmp nat_cmp) x y) → AreNamed patterns numbers (length numbers) methods → IsPermutation methods sorted → IsSorted (slice_cmp nat_cmp) sorted → left ≡ dedup (pointwise nat_eq) sorted → AreAllowed patterns numbers left
named_sorted patterns numbers methods sorted left ties h moved rises is = (
  subst (λ l. IsStrictlySortedBy (slice_cmp nat_cmp) l) (sym is) (IsStrictlySortedBy-dedup nat_list_cmp_total ties sorted rises),
  λ m. (
    λ k. (h m).0 (Contains-permutation sorted methods m (IsPermutation-sym methods sorted moved) (Contains-from_dedup (pointwise nat_eq) sorted m (subst (λ l. Contains l m) is k))),
    λ k. subst (λ l. Contains l m) (sym is) (Contains-dedup nat_list_eq_equiv same_texts sorted m (Contains-permutation methods sorted m moved ((h m).1 k))),
  ),
)

-- the numbers are those of the patterns that serve the path
pub allow_from : (patterns : List Pattern) (host path : List ℕ) (numbers : List ℕ) (methods : List (List ℕ)) → ((i : ℕ) → Contains numbers i ↔ IsServed patterns host path i) → AreAllowed patterns numbers methods → IsAllow patterns host path methods
allow_from patterns host path numbers methods served h = (
  h.0,
  λ m. (
    λ c. let k = (h.1 m).0 c in
        let s = (served (slice_index numbers k.0)).0 (Contains-get_or numbers k.0 0 k.6) in
        let e = same_at patterns (slice_index numbers k.0) s.0 k.1 s.1 k.3 in
        (slice_index numbers k.0, k.1, k.2, k.3, k.4, subst (λ p. ServesPath p host path) e s.2, k.5),
    λ k. let c = (served k.0).1 (k.1, k.3, k.5) in
        let at : slice_index numbers c.0 ≡ k.0 = get_or_default numbers c.0 0 k.0 c.1 ∙ c.2 in
        (h.1 m).1 (c.0, k.1, k.2, subst (λ i. IsAt patterns i k.1) (sym at) k.3, k.4, k.6, c.1),
  ),
)

pub served_within : (patterns : List Pattern) (host path numbers : List ℕ) → ((i : ℕ) → Contains numbers i ↔ IsServed patterns host path i) → All (λ i. i < length patterns) numbers
served_within patterns host path numbers served = λ k d within.
    let s = (served (get_or numbers k d)).0 (Contains-get_or numbers k d within) in slice_get_within patterns (get_or numbers k d) s.0 s.1
