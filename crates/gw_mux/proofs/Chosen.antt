-- The search for the best pattern, step by step.
use Rattle.std.proofs.Common.{◌≡◌, ◌≢◌, ◌↔◌, ℕ, ◌+◌, ◌<◌, ◌==◌, Bool, true, List, [], ◌∷◌, length, eqb, Option, Some, None, MatchOption, ◌⊎◌, inl, inr, ⊎_elim, sym, refl, subst, ◌∙◌, arith, below_more}
use Rattle.std.proofs.lemmas.Bool.{cases_Bool, eqb-true, eqb-false}
use Rattle.std.proofs.lemmas.Bool.Decides.{nat_tests}
use Rattle.gw_pattern.specs.declared.form.Pattern.{Pattern}
use Rattle.gw_sets.specs.Shape.{Asked}
use Rattle.gw_sets.specs.Matches.{HostMatches}
use Rattle.gw_mux.specs.Best.{IsAnswered, IsChosen, IsExactOf}
use Rattle.gw_mux.specs.Decision.{DoesTake, HasExactBest, IsBest, IsMoreSpecific}
use Rattle.gw_mux.proofs.Orders.{take_within, specific_trans, specific_asym}

same_or_not : (i j : ℕ) → (i ≡ j) ⊎ (i ≢ j)
same_or_not i j = ⊎_elim (λ e. inl (eqb-true i j e)) (λ e. inr (eqb-false i j e)) (cases_Bool (eqb i j))

-- ---- one pattern more

pub chosen_skip : (patterns : List Pattern) (a : Asked) (n : ℕ) (best : Option ℕ) → IsChosen patterns a n best → (DoesTake patterns a a.host n → ⊥) → IsChosen patterns a (n + 1) best
chosen_skip patterns a n None h out = below_more (λ j. DoesTake patterns a a.host j → ⊥) n h out
chosen_skip patterns a n (Some b) h out =
    (omega (arith, h.0), h.1, below_more (λ j. DoesTake patterns a a.host j → j ≢ b → IsMoreSpecific patterns b j) n h.2 (λ t ne. absurd (out t)))

pub chosen_first : (patterns : List Pattern) (a : Asked) (n : ℕ) → IsChosen patterns a n None → DoesTake patterns a a.host n → IsChosen patterns a (n + 1) (Some n)
chosen_first patterns a n h t =
    (omega arith, t, below_more (λ j. DoesTake patterns a a.host j → j ≢ n → IsMoreSpecific patterns n j) n (λ j lt u ne. absurd (h j lt u)) (λ u ne. absurd (ne refl)))

chosen_same : (patterns : List Pattern) (a : Asked) (n b : ℕ) → IsChosen patterns a n (Some b) → IsMoreSpecific patterns b n → IsChosen patterns a (n + 1) (Some b)
chosen_same patterns a n b h m =
    (omega (arith, h.0), h.1, below_more (λ j. DoesTake patterns a a.host j → j ≢ b → IsMoreSpecific patterns b j) n h.2 (λ t ne. m))

chosen_more : (patterns : List Pattern) (a : Asked) (n b : ℕ) → IsChosen patterns a n (Some b) → DoesTake patterns a a.host n → IsMoreSpecific patterns n b → IsChosen patterns a (n + 1) (Some n)
chosen_more patterns a n b h t m = (
  omega arith,
  t,
  below_more (λ j. DoesTake patterns a a.host j → j ≢ n → IsMoreSpecific patterns n j) n
      (λ j lt u ne. ⊎_elim
      (λ e. subst (λ x. IsMoreSpecific patterns n x) (sym e) m)
      (λ other. specific_trans patterns n b j m (h.2 j lt u other))
      (same_or_not j b))
      (λ u ne. absurd (ne refl)),
)

pub chosen_next : (patterns : List Pattern) (a : Asked) (n b k : ℕ) → IsChosen patterns a n (Some b) → DoesTake patterns a a.host n → ((k ≡ b) × IsMoreSpecific patterns b n) ⊎ ((k ≡ n) × IsMoreSpecific patterns n b) → IsChosen patterns a (n + 1) (Some k)
chosen_next patterns a n b k h t m =
    ⊎_elim
    (λ e. subst (λ x. IsChosen patterns a (n + 1) (Some x)) (sym e.0) (chosen_same patterns a n b h e.1))
    (λ e. subst (λ x. IsChosen patterns a (n + 1) (Some x)) (sym e.0) (chosen_more patterns a n b h t e.1))
    m

-- ---- the candidates

pub best_of_own : (patterns : List Pattern) (a : Asked) (i : ℕ) → IsChosen patterns a (length patterns) (Some i) → IsBest patterns a i
best_of_own patterns a i h =
    (inl h.1, λ j c ne. ⊎_elim (λ t. h.2 j (take_within patterns a a.host j t) t ne) (λ t. absurd (t.1 i h.1)) c)

pub own_host : (own host : List ℕ) → own ≡ host → HostMatches own host
own_host [] host e = tt
own_host (b ∷ own) host e = sym e

-- what has no host takes whatever host is asked for
pub free_host : (own host : List ℕ) → own ≡ [] → HostMatches own host
free_host [] host e = tt
free_host (b ∷ own) host e = cc

abbrev pub at_host : Asked → List ℕ → Asked
at_host a host = record { method = a.method; host = host; segs = a.segs; slash = a.slash }

take_free : (patterns : List Pattern) (a : Asked) (host : List ℕ) (i : ℕ) → DoesTake patterns a [] i → DoesTake patterns (at_host a host) [] i
unfolding DoesTake
take_free patterns a host i t = (t.0, t.1, t.2, (t.3.0, free_host t.0.host host t.2, t.3.2))

pub best_of_free : (patterns : List Pattern) (a : Asked) (r : Option ℕ) → IsChosen patterns a (length patterns) None → IsChosen patterns (at_host a []) (length patterns) r → IsAnswered patterns a r
best_of_free patterns a None none h =
    λ i c. ⊎_elim (λ t. none i (take_within patterns a a.host i t) t) (λ t. h i (take_within patterns a [] i t.0) (take_free patterns a [] i t.0)) c
best_of_free patterns a (Some i) none h = (
  inr (take_free patterns (at_host a []) a.host i h.1, λ j t. none j (take_within patterns a a.host j t) t),
  λ j c ne. ⊎_elim
      (λ t. absurd (none j (take_within patterns a a.host j t) t))
      (λ t. h.2 j (take_within patterns a [] j t.0) (take_free patterns a [] j t.0) ne)
      c,
)

pub no_bytes : (xs : List ℕ) (b : Bool) → b ≡ (length xs == 0) → b ≡ true → xs ≡ []
no_bytes [] b e h = refl
no_bytes (x ∷ xs) b e h = let some : (length (x ∷ xs) == 0) ≡ true = sym e ∙ h in absurd (grind (arith, nat_tests))

-- where no host is asked for, those without a host are the request's own
pub none_of_own : (patterns : List Pattern) (a : Asked) → a.host ≡ [] → IsChosen patterns a (length patterns) None → IsAnswered patterns a None
none_of_own patterns a e none =
    λ i c. ⊎_elim
    (λ t. none i (take_within patterns a a.host i t) t)
    (λ t. none i (take_within patterns a [] i t.0) (subst (λ host. DoesTake patterns a host i) (sym e) t.0))
    c

-- ---- the best

pub answered_within : (patterns : List Pattern) (a : Asked) (r : Option ℕ) → IsAnswered patterns a r → MatchOption r (Unit {0}) (λ i. i < length patterns)
answered_within patterns a None h = tt
answered_within patterns a (Some i) h = ⊎_elim (λ t. take_within patterns a a.host i t) (λ t. take_within patterns a [] i t.0) h.0

pub one_best : (patterns : List Pattern) (a : Asked) (i j : ℕ) → IsBest patterns a i → IsBest patterns a j → i ≡ j
one_best patterns a i j h k =
    ⊎_elim (λ e. e) (λ ne. absurd (specific_asym patterns i j (h.1 j k.0 (λ e. ne (sym e))) (k.1 i h.0 ne))) (same_or_not i j)

pub exact_best : (patterns : List Pattern) (a : Asked) (r : Option ℕ) → IsAnswered patterns a r → IsExactOf patterns a.segs r ↔ HasExactBest patterns a
exact_best patterns a None h = (λ e. absurd e, λ e. absurd (h e.0 e.1.0))
exact_best patterns a (Some i) h =
    (λ e. (i, h, e), λ e. subst (λ x. IsExactOf patterns a.segs (Some x)) (one_best patterns a e.0 i e.1 h) e.2)
