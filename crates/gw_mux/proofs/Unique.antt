-- A request has one decision.
use Rattle.std.proofs.Common.{◌≡◌, ℕ, Bool, true, false, List, Option, Some, None, Contains, ◌⊎◌, ⊎_elim, sym, refl, ap, subst, ◌∙◌}
use Rattle.std.specs.Cmp.Lexicographic.{slice_cmp}
use Rattle.std.specs.List.Sorted.{IsStrictlySortedBy}
use Rattle.std.specs.Ordering.{nat_cmp}
use Rattle.std.specs.BTreeSet.{BTreeSet, contains}
use Rattle.std.proofs.lemmas.Cmp.{nat_list_cmp_total}
use Rattle.std.proofs.lemmas.Map.Lookups.{btree_set_from_contains, exact_bytes}
use Rattle.std.proofs.lemmas.Map.Views.{btree_set_contains_iff}
use Rattle.gw_pattern.specs.declared.form.Pattern.{Pattern}
use Rattle.gw_pattern.specs.Path.{cleaned}
use Rattle.gw_mux.specs.declared.answer.Decision.{Decision}
use Rattle.gw_mux.specs.declared.answer.Decision.TheVariants.{Route as Routed, Redirect, NotAllowed, NotFound}
use Rattle.gw_mux.specs.Allow.{IsAllow}
use Rattle.gw_mux.specs.Answer.{Decides, IsDirect, TookSpans}
use Rattle.gw_mux.specs.Decision.{WantsSlash, with_slash}
use Rattle.gw_mux.specs.Laws.{Told, told_by}
use Rattle.gw_mux.specs.Location.{location_of}
use Rattle.gw_mux.specs.Request.{asked_for, spans_of}
use Rattle.gw_mux.proofs.Chosen.{one_best}
use Rattle.gw_mux.proofs.Conflicting.{same_at}

-- ---- sorted lists with the same members are the same

abbrev set_of : List (List ℕ) → BTreeSet (List ℕ)
set_of xs = record { keys = xs }

same_truth : (a b : Bool) → (a ≡ true → b ≡ true) → (b ≡ true → a ≡ true) → a ≡ b
same_truth true b to from = sym (to refl)
same_truth false true to from = from refl
same_truth false false to from = refl

same_members : (xs ys : List (List ℕ)) → IsStrictlySortedBy (slice_cmp nat_cmp) xs → IsStrictlySortedBy (slice_cmp nat_cmp) ys → ((x : List ℕ) → Contains xs x → Contains ys x) → ((x : List ℕ) → Contains ys x → Contains xs x) → xs ≡ ys
same_members xs ys h k to from =
    btree_set_from_contains nat_list_cmp_total (set_of xs) (set_of ys) h k
    (λ x. let a = btree_set_contains_iff nat_list_cmp_total exact_bytes (set_of xs) x in
    let b = btree_set_contains_iff nat_list_cmp_total exact_bytes (set_of ys) x in
    same_truth (contains (slice_cmp nat_cmp) (set_of xs) x) (contains (slice_cmp nat_cmp) (set_of ys) x) (λ e. b.1 (to x (a.0 e))) (λ e. a.1 (from x (b.0 e))))
    exact_bytes

same_methods : (patterns : List Pattern) (host path : List ℕ) (xs ys : List (List ℕ)) → IsAllow patterns host path xs → IsAllow patterns host path ys → xs ≡ ys
same_methods patterns host path xs ys h k =
    same_members xs ys h.0 k.0 (λ x c. (k.1 x).1 ((h.1 x).0 c)) (λ x c. (h.1 x).1 ((k.1 x).0 c))

-- ---- redirects

abbrev Redirects : List Pattern → List ℕ → List ℕ → List ℕ → Option (List ℕ) → List ℕ → Type 0
Redirects patterns method host path query target =
    (WantsSlash patterns method host (cleaned path) × (target ≡ location_of (with_slash (cleaned path)) query))
    ⊎ ((WantsSlash patterns method host (cleaned path) → ⊥) × (cleaned path ≡ path → ⊥) × (target ≡ location_of (cleaned path) query))

same_target : (patterns : List Pattern) (method host path : List ℕ) (query : Option (List ℕ)) (x y : List ℕ) → Redirects patterns method host path query x → Redirects patterns method host path query y → x ≡ y
same_target patterns method host path query x y h k =
    ⊎_elim
    (λ a. ⊎_elim (λ b. a.1 ∙ sym b.1) (λ b. absurd (b.0 a.0)) k)
    (λ a. ⊎_elim (λ b. absurd (a.0 b.0)) (λ b. a.2 ∙ sym b.2) k)
    h

not_both : (patterns : List Pattern) (method host path : List ℕ) (query : Option (List ℕ)) (x : List ℕ) → Redirects patterns method host path query x → IsDirect patterns method host path → ⊥
not_both patterns method host path query x h d =
    ⊎_elim (λ a. d.0 (subst (λ p. WantsSlash patterns method host p) d.1 a.0)) (λ a. a.1 d.1) h

-- ---- hits

same_spans : (patterns : List Pattern) (i j : ℕ) (path : List ℕ) (xs ys : List (ℕ × ℕ)) → i ≡ j → TookSpans patterns i path xs → TookSpans patterns j path ys → xs ≡ ys
same_spans patterns i j path xs ys e h k =
    let k' : TookSpans patterns i path ys = subst (λ n. TookSpans patterns n path ys) (sym e) k in
    h.2 ∙ sym (subst (λ p. ys ≡ spans_of p.segs.items path) (same_at patterns i k'.0 h.0 k'.1 h.1) k'.2)

abbrev by_route : ℕ → List (ℕ × ℕ) → Told
by_route i spans = record { route = Some (i, spans); target = None; methods = None }

abbrev to_target : List ℕ → Told
to_target target = record { route = None; target = Some target; methods = None }

abbrev of_methods : List (List ℕ) → Told
of_methods methods = record { route = None; target = None; methods = Some methods }

same_route : (i j : ℕ) (xs ys : List (ℕ × ℕ)) → i ≡ j → xs ≡ ys → by_route i xs ≡ by_route j ys
same_route i j xs ys e f = ap (λ n. by_route n xs) e ∙ ap (λ l. by_route j l) f

pub one_decision : (patterns : List Pattern) (method host path : List ℕ) (query : Option (List ℕ)) (first second : Decision) → Decides patterns method host path query first → Decides patterns method host path query second → told_by first ≡ told_by second
one_decision patterns method host path query (Redirect x) (Redirect y) h k = ap (λ t. to_target t) (same_target patterns method host path query x.items y.items h k)
one_decision patterns method host path query (Redirect x) (Routed hit) h k = absurd (not_both patterns method host path query x.items h k.0)
one_decision patterns method host path query (Redirect x) (NotAllowed methods) h k = absurd (not_both patterns method host path query x.items h k.0)
one_decision patterns method host path query (Redirect x) NotFound h k = absurd (not_both patterns method host path query x.items h k.0)
one_decision patterns method host path query (Routed hit) (Redirect x) h k = absurd (not_both patterns method host path query x.items k h.0)
one_decision patterns method host path query (Routed hit) (Routed other) h k =
    let e = one_best patterns (asked_for method host path) hit.route other.route h.1.0 k.1.0 in
    same_route hit.route other.route hit.spans other.spans e (same_spans patterns hit.route other.route path hit.spans other.spans e h.1.1 k.1.1)
one_decision patterns method host path query (Routed hit) (NotAllowed methods) h k = absurd (k.1 hit.route h.1.0)
one_decision patterns method host path query (Routed hit) NotFound h k = absurd (k.1 hit.route h.1.0)
one_decision patterns method host path query (NotAllowed methods) (Redirect x) h k = absurd (not_both patterns method host path query x.items k h.0)
one_decision patterns method host path query (NotAllowed methods) (Routed hit) h k = absurd (h.1 hit.route k.1.0)
one_decision patterns method host path query (NotAllowed methods) (NotAllowed others) h k = ap (λ t. of_methods t) (same_methods patterns host path methods.items others.items h.3 k.3)
one_decision patterns method host path query (NotAllowed methods) NotFound h k = absurd (k.2 h.2.0 h.2.1)
one_decision patterns method host path query NotFound (Redirect x) h k = absurd (not_both patterns method host path query x.items k h.0)
one_decision patterns method host path query NotFound (Routed hit) h k = absurd (h.1 hit.route k.1.0)
one_decision patterns method host path query NotFound (NotAllowed methods) h k = absurd (h.2 k.2.0 k.2.1)
one_decision patterns method host path query NotFound NotFound h k = refl
