-- In a list without conflicts a request that has a candidate has a best one.
use Rattle.std.proofs.Common.{◌≡◌, ◌≢◌, ℕ, zero, suc, ◌+◌, ◌<◌, Bool, true, false, List, [], length, Option, Some, None, bytes_eq, ltb, ◌⊎◌, inl, inr, ⊎_elim, refl, subst, arith}
use Rattle.std.specs.Bool.{MatchBool, Decides}
use Rattle.std.proofs.lemmas.Bool.{cases_Bool}
use borrow.Author.Tests.{ltb-true, ltb-false}
use Rattle.std.proofs.lemmas.List.Elements.{All-nil}
use Rattle.std.proofs.lemmas.Option.{slice_get_cases, slice_get_within, get_or_from_slice_get}
use Rattle.std.proofs.lemmas.Slice.Eq.{bytes_eq-Decides}
use Rattle.gw_pattern.specs.declared.form.Pattern.{Pattern}
use Rattle.gw_sets.specs.Shape.{Asked, IsShape}
use Rattle.gw_sets.specs.Matches.{Matches, MethodMatches, Requests, SegsMatch}
use Rattle.gw_sets.specs.Relation.{Holds}
use Rattle.gw_sets.specs.Comparison.{matches_method, matches_segs}
use Rattle.gw_sets.proofs.Deciding.{method_decides, segs_decide}
use Rattle.gw_sets.proofs.Products.{compared_holds}
use Rattle.gw_sets.proofs.Requests.{requests_compared, whole_relation}
use Rattle.gw_sets.proofs.Segments.{has_segments}
use Rattle.gw_mux.specs.Best.{IsAnswered, IsChosen, is_more_general}
use Rattle.gw_mux.specs.Decision.{DoesTake, IsBest, IsCandidate, IsMoreSpecific}
use Rattle.gw_mux.specs.Table.{IsAt, HasNoConflict, IsProper, AreProper}
use Rattle.gw_mux.proofs.Chosen.{own_host, at_host, best_of_own, best_of_free, chosen_first, chosen_next, chosen_skip}
use Rattle.gw_mux.proofs.Orders.{prevailing, take_within, takes_at, takes_from}

proper_at : (patterns : List Pattern) (i : ℕ) (p : Pattern) → AreProper patterns → IsAt patterns i p → IsProper p
proper_at patterns i p h at =
    subst IsProper (get_or_from_slice_get patterns i p p at) (h i p (slice_get_within patterns i p at))

pub compared : (p q : Pattern) → IsProper p → IsProper q → Holds Asked (whole_relation p.method q.method p.host q.host p.segs.items q.segs.items) (Requests p) (Requests q)
compared p q h k =
    compared_holds Asked (Requests p) (Requests q) (whole_relation p.method q.method p.host q.host p.segs.items q.segs.items)
    (requests_compared p.method q.method p.host q.host p.segs.items q.segs.items h.method k.method h.host k.host (has_segments p.segs.items h.segs) (has_segments q.segs.items k.segs))

either : (b : Bool) (A B : Type 0) → MatchBool b A B → A ⊎ B
either true A B h = inl h
either false A B h = inr h

placed : (patterns : List Pattern) (a : Asked) (host : List ℕ) (i : ℕ) → DoesTake patterns a host i → (p : Pattern) × IsAt patterns i p
unfolding DoesTake
placed patterns a host i t = (t.0, t.1)

below_ordered : (patterns : List Pattern) (a : Asked) (host : List ℕ) (i j : ℕ) → AreProper patterns → HasNoConflict patterns → IsShape a → i < j → DoesTake patterns a host i → DoesTake patterns a host j → IsMoreSpecific patterns j i ⊎ IsMoreSpecific patterns i j
below_ordered patterns a host i j proper apart shape below t u =
    let x = placed patterns a host i t in
    let y = placed patterns a host j u in
    let r = whole_relation x.0.method y.0.method x.0.host y.0.host x.0.segs.items y.0.segs.items in
    either (is_more_general r) (IsMoreSpecific patterns j i) (IsMoreSpecific patterns i j)
    (prevailing patterns i j x.0 y.0 r a host apart shape below t u x.1 y.1 (compared x.0 y.0 (proper_at patterns i x.0 proper x.1) (proper_at patterns j y.0 proper y.1)))

-- candidates have the same host
same_host : (patterns : List Pattern) (a : Asked) (i j : ℕ) → IsCandidate patterns a i → IsCandidate patterns a j → (host : List ℕ) × DoesTake patterns a host i × DoesTake patterns a host j
same_host patterns a i j c d =
    ⊎_elim
    (λ t. ⊎_elim (λ u. (a.host, t, u)) (λ u. absurd (u.1 i t)) d)
    (λ t. ⊎_elim (λ u. absurd (t.1 j u)) (λ u. ([], t.0, u.0)) d)
    c

pub apart_numbers : (i j : ℕ) → i ≢ j → (i < j) ⊎ (j < i)
apart_numbers i j ne = ⊎_elim (λ e. inl (ltb-true i j e)) (λ e. let h = ltb-false i j e in inr (omega arith)) (cases_Bool (ltb i j))

pub candidates_ordered : (patterns : List Pattern) (a : Asked) (i j : ℕ) → AreProper patterns → HasNoConflict patterns → IsShape a → IsCandidate patterns a i → IsCandidate patterns a j → i ≢ j → IsMoreSpecific patterns i j ⊎ IsMoreSpecific patterns j i
candidates_ordered patterns a i j proper apart shape c d ne =
    let k = same_host patterns a i j c d in
    ⊎_elim
    (λ lt. ⊎_elim (λ m. inr m) (λ m. inl m) (below_ordered patterns a k.0 i j proper apart shape lt k.1 k.2))
    (λ lt. ⊎_elim (λ m. inl m) (λ m. inr m) (below_ordered patterns a k.0 j i proper apart shape lt k.2 k.1))
    (apart_numbers i j ne)

-- ---- the best

abbrev Settled : Type 0 → Type 0
Settled A = A ⊎ (A → ⊥)

settled : (b : Bool) (P : Type 0) → Decides b P → Settled P
settled true P d = inl (d.0 refl)
settled false P d = inr (λ h. let differ : false ≡ true = d.1 h in cc)

match_settled : (p : Pattern) (a : Asked) → Settled ((p.host ≡ a.host) × Matches p a)
match_settled p a =
    ⊎_elim
    (λ e. ⊎_elim
    (λ m. ⊎_elim
    (λ s. inl (e, (m, own_host p.host a.host e, s)))
    (λ s. inr (λ h. s h.1.2))
    (settled (matches_segs p.segs.items a.segs a.slash) (SegsMatch p.segs.items a.segs a.slash) (segs_decide p.segs.items a.segs a.slash)))
    (λ m. inr (λ h. m h.1.0))
    (settled (matches_method p.method a.method) (MethodMatches p.method a.method) (method_decides p.method a.method)))
    (λ e. inr (λ h. e h.0))
    (settled (bytes_eq p.host a.host) (p.host ≡ a.host) (bytes_eq-Decides p.host a.host))

take_settled : (patterns : List Pattern) (a : Asked) (n : ℕ) → Settled (DoesTake patterns a a.host n)
take_settled patterns a n =
    ⊎_elim
    (λ x. ⊎_elim (λ m. inl (takes_from patterns a a.host n x.0 x.2 m)) (λ m. inr (λ t. m (takes_at patterns a a.host n x.0 x.2 t))) (match_settled x.0 a))
    (λ x. inr (λ t. let within = take_within patterns a a.host n t in omega (arith, x.0)))
    (slice_get_cases patterns n).1

chosen_step : (patterns : List Pattern) (a : Asked) (n : ℕ) (r : Option ℕ) → AreProper patterns → HasNoConflict patterns → IsShape a → IsChosen patterns a n r → (s : Option ℕ) × IsChosen patterns a (n + 1) s
chosen_step patterns a n None proper apart shape h =
    ⊎_elim (λ t. (Some n, chosen_first patterns a n h t)) (λ t. (None, chosen_skip patterns a n None h t)) (take_settled patterns a n)
chosen_step patterns a n (Some b) proper apart shape h =
    ⊎_elim
    (λ t. ⊎_elim
    (λ m. (Some n, chosen_next patterns a n b n h t (inr (refl, m))))
    (λ m. (Some b, chosen_next patterns a n b b h t (inl (refl, m))))
    (below_ordered patterns a a.host b n proper apart shape h.0 h.1 t))
    (λ t. (Some b, chosen_skip patterns a n (Some b) h t))
    (take_settled patterns a n)

chosen_among : (patterns : List Pattern) (a : Asked) (n : ℕ) → AreProper patterns → HasNoConflict patterns → IsShape a → (r : Option ℕ) × IsChosen patterns a n r
chosen_among patterns a zero proper apart shape = (None, λ j lt t. absurd (omega arith))
chosen_among patterns a (suc n) proper apart shape =
    let h = chosen_among patterns a n proper apart shape in
    let k = chosen_step patterns a n h.0 proper apart shape h.1 in
    let e : n + 1 ≡ suc n = omega arith in
    (k.0, subst (λ x. IsChosen patterns a x k.0) e k.1)

free_answer : (patterns : List Pattern) (a : Asked) → IsChosen patterns a (length patterns) None → AreProper patterns → HasNoConflict patterns → IsShape a → (r : Option ℕ) × IsAnswered patterns a r
free_answer patterns a none proper apart shape =
    let h = chosen_among patterns (at_host a []) (length patterns) proper apart (shape.0, All-nil (λ b. b < 256), shape.2) in
    (h.0, best_of_free patterns a h.0 none h.1)

own_answer : (patterns : List Pattern) (a : Asked) (r : Option ℕ) → IsChosen patterns a (length patterns) r → AreProper patterns → HasNoConflict patterns → IsShape a → (s : Option ℕ) × IsAnswered patterns a s
own_answer patterns a None h proper apart shape = free_answer patterns a h proper apart shape
own_answer patterns a (Some b) h proper apart shape = (Some b, best_of_own patterns a b h)

of_answer : (patterns : List Pattern) (a : Asked) (i : ℕ) (r : Option ℕ) → IsAnswered patterns a r → IsCandidate patterns a i → (b : ℕ) × IsBest patterns a b
of_answer patterns a i None h c = absurd (h i c)
of_answer patterns a i (Some b) h c = (b, h)

pub best_there : (patterns : List Pattern) (a : Asked) (i : ℕ) → AreProper patterns → HasNoConflict patterns → IsShape a → IsCandidate patterns a i → (b : ℕ) × IsBest patterns a b
best_there patterns a i proper apart shape c =
    let h = chosen_among patterns a (length patterns) proper apart shape in
    let k = own_answer patterns a h.0 h.1 proper apart shape in
    of_answer patterns a i k.0 k.1 c
