-- Patterns of a list without conflicts that match one request are ordered.
use Rattle.std.proofs.Common.{◌≡◌, ℕ, ◌<◌, Bool, true, false, List, length, sym, subst, ◌∙◌}
use Rattle.std.specs.Bool.{MatchBool}
use Rattle.std.proofs.lemmas.Option.{slice_get_within}
use Rattle.gw_pattern.specs.declared.form.Pattern.{Pattern}
use Rattle.gw_sets.specs.declared.relation.Relation.{Relation}
use Rattle.gw_sets.specs.declared.relation.Relation.TheVariants.{Equal, MoreSpecific, MoreGeneral, Disjoint, Overlap}
use Rattle.gw_sets.specs.Shape.{Asked, IsShape}
use Rattle.gw_sets.specs.Matches.{Matches, Requests}
use Rattle.gw_sets.specs.Relation.{IsBelow, Holds, Conflicts}
use Rattle.gw_mux.specs.Best.{is_more_general}
use Rattle.gw_mux.specs.Decision.{DoesTake, IsMoreSpecific}
use Rattle.gw_mux.specs.Table.{IsAt, DoConflict, HasNoConflict}
use Rattle.gw_mux.proofs.Conflicting.{same_at}

-- ---- sets

below_trans : (X : Type 0) (A B C : X → Type 0) → IsBelow X A B → IsBelow X B C → IsBelow X A C
below_trans X A B C f g = (λ x a. g.0 x (f.0 x a), (g.1.0, g.1.1, λ a. g.1.2 (f.0 g.1.0 a)))

below_asym : (X : Type 0) (A B : X → Type 0) → IsBelow X A B → IsBelow X B A → ⊥
below_asym X A B f g = f.1.2 (g.0 f.1.0 f.1.1)

pub ordered : (p q : Pattern) (r : Relation) (a : Asked) → Holds Asked r (Requests p) (Requests q) → Requests p a → Requests q a → p.host ≡ q.host → (Conflicts p q → ⊥) → MatchBool (is_more_general r) (IsBelow Asked (Requests q) (Requests p)) (IsBelow Asked (Requests p) (Requests q))
ordered p q Equal a h m n e apart = absurd (apart (e, (a, m, n), (λ k. k.1.2 (h.1 k.1.0 k.1.1)), (λ k. k.1.2 (h.0 k.1.0 k.1.1))))
ordered p q MoreSpecific a h m n e apart = h
ordered p q MoreGeneral a h m n e apart = h
ordered p q Disjoint a h m n e apart = absurd (h a m n)
ordered p q Overlap a h m n e apart = absurd (apart (e, h.0, (λ k. h.1.2 (k.0 h.1.0 h.1.1)), (λ k. h.2.2 (k.0 h.2.0 h.2.1))))

-- ---- numbers

pub take_within : (patterns : List Pattern) (a : Asked) (host : List ℕ) (i : ℕ) → DoesTake patterns a host i → i < length patterns
unfolding DoesTake
take_within patterns a host i t = slice_get_within patterns i t.0 t.1

pub takes_at : (patterns : List Pattern) (a : Asked) (host : List ℕ) (i : ℕ) (p : Pattern) → IsAt patterns i p → DoesTake patterns a host i → (p.host ≡ host) × Matches p a
unfolding DoesTake
takes_at patterns a host i p at t = subst (λ x. (x.host ≡ host) × Matches x a) (same_at patterns i t.0 p t.1 at) (t.2, t.3)

pub takes_from : (patterns : List Pattern) (a : Asked) (host : List ℕ) (i : ℕ) (p : Pattern) → IsAt patterns i p → (p.host ≡ host) × Matches p a → DoesTake patterns a host i
unfolding DoesTake
takes_from patterns a host i p at m = (p, at, m.0, m.1)

pub specific_at : (patterns : List Pattern) (i j : ℕ) (p q : Pattern) → IsAt patterns i p → IsAt patterns j q → IsBelow Asked (Requests p) (Requests q) → IsMoreSpecific patterns i j
unfolding IsMoreSpecific
specific_at patterns i j p q at at' h = (p, q, at, at', h)

pub specific_trans : (patterns : List Pattern) (i j k : ℕ) → IsMoreSpecific patterns i j → IsMoreSpecific patterns j k → IsMoreSpecific patterns i k
unfolding IsMoreSpecific
specific_trans patterns i j k f g =
    let h : IsBelow Asked (Requests f.0) (Requests g.0) = subst (λ x. IsBelow Asked (Requests f.0) (Requests x)) (same_at patterns j f.1 g.0 f.3 g.2) f.4 in
    (f.0, g.1, f.2, g.3, below_trans Asked (Requests f.0) (Requests g.0) (Requests g.1) h g.4)

pub specific_asym : (patterns : List Pattern) (i j : ℕ) → IsMoreSpecific patterns i j → IsMoreSpecific patterns j i → ⊥
unfolding IsMoreSpecific
specific_asym patterns i j f g =
    let h : IsBelow Asked (Requests g.1) (Requests f.1) = subst (λ x. IsBelow Asked (Requests x) (Requests f.1)) (same_at patterns i f.0 g.1 f.2 g.3) f.4 in
    let h' : IsBelow Asked (Requests g.1) (Requests g.0) = subst (λ x. IsBelow Asked (Requests g.1) (Requests x)) (same_at patterns j f.1 g.0 f.3 g.2) h in
    below_asym Asked (Requests g.1) (Requests g.0) h' g.4

told : (patterns : List Pattern) (i j : ℕ) (p q : Pattern) (b : Bool) → IsAt patterns i p → IsAt patterns j q → MatchBool b (IsBelow Asked (Requests q) (Requests p)) (IsBelow Asked (Requests p) (Requests q)) → MatchBool b (IsMoreSpecific patterns j i) (IsMoreSpecific patterns i j)
told patterns i j p q true at at' k = specific_at patterns j i q p at' at k
told patterns i j p q false at at' k = specific_at patterns i j p q at at' k

-- of two patterns that match one request the one that is more specific, by the answer of their comparison
pub prevailing : (patterns : List Pattern) (i j : ℕ) (p q : Pattern) (r : Relation) (a : Asked) (host : List ℕ) → HasNoConflict patterns → IsShape a → i < j → DoesTake patterns a host i → DoesTake patterns a host j → IsAt patterns i p → IsAt patterns j q → Holds Asked r (Requests p) (Requests q) → MatchBool (is_more_general r) (IsMoreSpecific patterns j i) (IsMoreSpecific patterns i j)
unfolding DoConflict
prevailing patterns i j p q r a host apart shape below t u at at' h =
    let m = takes_at patterns a host i p at t in
    let n = takes_at patterns a host j q at' u in
    let known = ordered p q r a h (shape, m.1) (shape, n.1) (m.0 ∙ sym n.0) (λ k. apart i j (below, p, q, at, at', k)) in
    told patterns i j p q (is_more_general r) at at' known
