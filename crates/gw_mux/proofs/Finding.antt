-- What the walk finds is what is found for the clean path.
use Rattle.std.proofs.Common.{◌≡◌, ◌↔◌, IsTrue, ℕ, Bool, true, false, List, Some, None, sym, subst, ◌∙◌}
use Rattle.gw_pattern.specs.declared.form.Pattern.{Pattern}
use Rattle.gw_mux.specs.Best.{IsAnswered, IsExactOf, WantsSlashBy}
use Rattle.gw_mux.specs.Decision.{HasExactBest, HasNoBest, IsBest, WantsSlash}
use Rattle.gw_mux.specs.Request.{asked_for, is_exact}
use Rattle.gw_mux.specs.Table.{IsAt}
use Rattle.gw_mux.specs.Walk.{asked_by}
use Rattle.gw_mux.proofs.Conflicting.{same_at}
use Rattle.gw_mux.proofs.Paths.{IsSeen}

pub exact_decided : (patterns : List Pattern) (i : ℕ) (p : Pattern) (parts : List (List ℕ)) (r : Bool) → IsAt patterns i p → r ≡ is_exact p.segs.items parts → IsTrue r ↔ IsExactOf patterns parts (Some i)
exact_decided patterns i p parts r at e =
    (λ t. (p, at, sym e ∙ t), λ h. e ∙ subst (λ x. is_exact x.segs.items parts ≡ true) (same_at patterns i h.0 p h.1 at) h.2)

pub wants_seen : (patterns : List Pattern) (method host path body : List ℕ) (slash : Bool) → IsSeen method host path body slash → WantsSlashBy patterns method host body slash → WantsSlash patterns method host path
wants_seen patterns method host path body slash s w =
    (λ x. w.0 (subst (λ a. HasExactBest patterns a) s.same x), s.ends ∙ w.1, subst (λ a. HasExactBest patterns a) (sym (s.more w.1)) w.2)

pub wants_by : (patterns : List Pattern) (method host path body : List ℕ) (slash : Bool) → IsSeen method host path body slash → WantsSlash patterns method host path → WantsSlashBy patterns method host body slash
wants_by patterns method host path body slash s w =
    let e : slash ≡ false = sym s.ends ∙ w.1 in
    (λ x. w.0 (subst (λ a. HasExactBest patterns a) (sym s.same) x), e, subst (λ a. HasExactBest patterns a) (s.more e) w.2)

pub best_seen : (patterns : List Pattern) (method host path body : List ℕ) (slash : Bool) (i : ℕ) → IsSeen method host path body slash → IsAnswered patterns (asked_by method host body slash) (Some i) → IsBest patterns (asked_for method host path) i
best_seen patterns method host path body slash i s h = subst (λ a. IsBest patterns a i) (sym s.same) h

pub no_best_seen : (patterns : List Pattern) (method host path body : List ℕ) (slash : Bool) → IsSeen method host path body slash → IsAnswered patterns (asked_by method host body slash) None → HasNoBest patterns (asked_for method host path)
no_best_seen patterns method host path body slash s h = λ i b. h i (subst (λ a. IsBest patterns a i) s.same b).0
