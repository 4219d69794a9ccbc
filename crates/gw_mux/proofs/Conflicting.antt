-- Conflicts of the patterns of a list, by their numbers.
use Rattle.std.proofs.Common.{◌≡◌, ◌↔◌, IsTrue, ℕ, ◌<◌, Bool, true, false, List, length, get_or, refl, subst}
use Rattle.std.proofs.lemmas.Option.{slice_get_read, slice_get_within}
use Rattle.gw_pattern.specs.declared.form.Pattern.{Pattern}
use Rattle.gw_sets.specs.Relation.{Conflicts}
use Rattle.gw_mux.specs.Table.{IsAt, DoConflict}

pub at_read : (patterns : List Pattern) (i : ℕ) (p : Pattern) → i < length patterns → p ≡ get_or patterns i p → IsAt patterns i p
at_read patterns i p within e = slice_get_read patterns (length patterns) i p refl within e

pub same_at : (patterns : List Pattern) (i : ℕ) (p q : Pattern) → IsAt patterns i p → IsAt patterns i q → p ≡ q
same_at patterns i p q a b = cc

pub conflict_there : (patterns : List Pattern) (i j : ℕ) (p q : Pattern) (b : Bool) → i < j → IsAt patterns i p → IsAt patterns j q → (IsTrue b ↔ Conflicts p q) → b ≡ true → DoConflict patterns i j
unfolding DoConflict
conflict_there patterns i j p q b below at at' h e = (below, p, q, at, at', h.0 e)

both_at : (patterns : List Pattern) (i j : ℕ) (p q p' q' : Pattern) → IsAt patterns i p → IsAt patterns j q → IsAt patterns i p' → IsAt patterns j q' → Conflicts p' q' → Conflicts p q
both_at patterns i j p q p' q' a b a' b' h =
    subst (λ x. Conflicts x q) (same_at patterns i p' p a' a) (subst (λ x. Conflicts p' x) (same_at patterns j q' q b' b) h)

pub conflict_not : (patterns : List Pattern) (i j : ℕ) (p q : Pattern) (b : Bool) → IsAt patterns i p → IsAt patterns j q → (IsTrue b ↔ Conflicts p q) → b ≡ false → DoConflict patterns i j → ⊥
unfolding DoConflict
conflict_not patterns i j p q b at at' h e k =
    let t : b ≡ true = h.1 (both_at patterns i j p q k.1 k.2 at at' k.3 k.4 k.5) in cc

pub conflict_below : (patterns : List Pattern) (i j : ℕ) → DoConflict patterns i j → i < j
unfolding DoConflict
conflict_below patterns i j k = k.0

pub conflict_within : (patterns : List Pattern) (i j : ℕ) → DoConflict patterns i j → j < length patterns
unfolding DoConflict
conflict_within patterns i j k = slice_get_within patterns j k.2 k.4
