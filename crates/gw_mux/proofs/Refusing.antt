-- Where only some methods are allowed, one is named.
use Rattle.std.proofs.Common.{◌≡◌, ℕ, ◌<◌, Bool, true, false, List, [], ◌∷◌, ◌++◌, length, map, Option, Some, None, ◌⊎◌, inl, inr, ⊎_elim, sym, refl, ap, subst, ◌∙◌, arith}
use Rattle.std.proofs.lemmas.Bool.{cases_Bool}
use Rattle.percent_encoding.specs.Percent.{percent_decode}
use Rattle.gw_pattern.specs.declared.form.Pattern.{Pattern}
use Rattle.gw_pattern.specs.declared.form.Seg.{Seg}
use Rattle.gw_pattern.specs.declared.form.Seg.TheVariants.{Literal, One, Rest, End}
use Rattle.gw_pattern.specs.Path.{slash, ends_in_slash}
use Rattle.gw_sets.specs.Matches.{HostMatches, MethodMatches, SegsMatch}
use Rattle.gw_sets.specs.Shape.{AreBytes, Asked, IsShape}
use Rattle.gw_mux.specs.declared.answer.Decision.{Decision}
use Rattle.gw_mux.specs.declared.answer.Decision.TheVariants.{Route as Routed, Redirect, NotAllowed, NotFound}
use Rattle.gw_mux.specs.Allow.{DoesServe, IsAllow, ServesPath}
use Rattle.gw_mux.specs.Answer.{Decides}
use Rattle.gw_mux.specs.Decision.{DoesTake, HasExactBest, HasNoBest, IsBest, IsCandidate, IsExact, WantsSlash, with_slash}
use Rattle.gw_mux.specs.Laws.{NamesMethod}
use Rattle.gw_mux.specs.Request.{asked_for, is_exact, segments_of, sent_segments}
use Rattle.gw_mux.specs.Table.{AreProper, HasNoConflict, IsAt}
use Rattle.gw_mux.proofs.HostServing.{host_cases}
use Rattle.gw_mux.proofs.Lawful.{best_there}
use Rattle.gw_mux.proofs.Paths.{ends_push, sent_push}
use Rattle.gw_mux.proofs.Shapes.{shape_asked}

-- ---- what a pattern without a method serves has a best pattern

abbrev asked : List ℕ → List ℕ → List (List ℕ) → Bool → Asked
asked method host parts slash = record { method = method; host = host; segs = parts; slash = slash }

module _ (patterns : List Pattern) (proper : AreProper patterns) (apart : HasNoConflict patterns) where
  no_candidate : (a : Asked) → IsShape a → HasNoBest patterns a → (i : ℕ) → IsCandidate patterns a i → ⊥
  no_candidate a shape none i c =
      let b = best_there patterns a i proper apart shape c in none b.0 b.1

  no_take : (a : Asked) → IsShape a → HasNoBest patterns a → (i : ℕ) → DoesTake patterns a a.host i ⊎ DoesTake patterns a [] i → ⊥
  no_take a shape none i t =
      ⊎_elim
      (λ u. no_candidate a shape none i (inl u))
      (λ u. no_candidate a shape none i (inr (u, λ j v. no_candidate a shape none j (inl v))))
      t

  no_service : (a : Asked) → IsShape a → HasNoBest patterns a → (i : ℕ) (p : Pattern) → IsAt patterns i p → p.method ≡ None → HostMatches p.host a.host → SegsMatch p.segs.items a.segs a.slash → ⊥
  unfolding DoesTake
  no_service a shape none i p at free host segs =
      let m : MethodMatches p.method a.method = subst (λ o. MethodMatches o a.method) (sym free) tt in
      no_take a shape none i
      (⊎_elim (λ e. inl (p, at, e, (m, host, segs))) (λ e. inr (p, at, e, (m, host, segs))) (host_cases p.host a.host host))

  -- ---- the path with a slash more

  inexact : (segs : List Seg) (parts : List (List ℕ)) → is_exact segs parts ≡ false → SegsMatch segs parts true → SegsMatch segs parts false
  inexact [] [] e h = refl
  inexact [] (part ∷ parts) e h = absurd h
  inexact (End ∷ segs) [] e h = absurd (cc)
  inexact (End ∷ segs) (part ∷ parts) e h = absurd h
  inexact (Rest name ∷ segs) [] e h = absurd (cc)
  inexact (Rest name ∷ segs) (part ∷ parts) e h = tt
  inexact (Literal bytes ∷ segs) [] e h = absurd h
  inexact (Literal bytes ∷ segs) (part ∷ parts) e h = (h.0, inexact segs parts e h.1)
  inexact (One name ∷ segs) [] e h = absurd h
  inexact (One name ∷ segs) (part ∷ parts) e h = inexact segs parts e h

  module _ (method host : List ℕ) (parts : List (List ℕ)) (shape : IsShape (asked method host parts false)) (none : HasNoBest patterns (asked method host parts false)) where
    abbrev more : Asked
    more = asked method host parts true

    taken_exactly : (at_host : List ℕ) (i : ℕ) → (DoesTake patterns (asked method host parts false) at_host i → ⊥) → DoesTake patterns more at_host i → IsExact patterns more i
    unfolding DoesTake
    taken_exactly at_host i out t =
        ⊎_elim
        (λ e. (t.0, t.1, e))
        (λ e. absurd (out (t.0, t.1, t.2, (t.3.0, t.3.1, inexact t.0.segs.items parts e t.3.2))))
        (cases_Bool (is_exact t.0.segs.items parts))

    best_exact : (i : ℕ) → IsBest patterns more i → IsExact patterns more i
    best_exact i b =
        ⊎_elim
        (λ t. taken_exactly host i (λ u. no_take (asked method host parts false) shape none i (inl u)) t)
        (λ t. taken_exactly [] i (λ u. no_take (asked method host parts false) shape none i (inr u)) t.0)
        b.0

-- ---- the methods

asked_short : (method host path : List ℕ) → ends_in_slash path ≡ false → asked_for method host path ≡ asked method host (segments_of path) false
unfolding asked_for
asked_short method host path e = ap (λ s. asked method host (segments_of path) s) e

asked_long : (method host path : List ℕ) → asked_for method host (with_slash path) ≡ asked method host (segments_of path) true
unfolding asked_for
asked_long method host path =
    ap (λ s. asked method host (map percent_decode (sent_segments (path ++ slash ∷ []))) s) (ends_push path)
    ∙ ap (λ s. asked method host (map percent_decode s) true) (sent_push path)

named : (patterns : List Pattern) (host path : List ℕ) (methods : List (List ℕ)) (i : ℕ) (p : Pattern) (own : Option (List ℕ)) → IsAllow patterns host path methods → IsAt patterns i p → ServesPath p host path → p.method ≡ own → (p.method ≡ None → ⊥) → 0 < length methods
named patterns host path methods i p None h at serves e some = absurd (some e)
named patterns host path methods i p (Some own) h at serves e some =
    let c = (h.1 own).1 (i, p, own, at, e, serves, inl refl) in omega (arith, c.1)

module _ (patterns : List Pattern) (method host path : List ℕ) (proper : AreProper patterns) (apart : HasNoConflict patterns) (shape : IsShape (asked_for method host path)) (none : HasNoBest patterns (asked_for method host path)) (direct : WantsSlash patterns method host path → ⊥) where
  none_short : (i : ℕ) (p : Pattern) → IsAt patterns i p → p.method ≡ None → DoesServe p (asked_for [] host path) → ⊥
  unfolding DoesServe asked_for
  none_short i p at free s = no_service patterns proper apart (asked_for method host path) shape none i p at free s.0 s.1

  none_long : (i : ℕ) (p : Pattern) → IsAt patterns i p → p.method ≡ None → ends_in_slash path ≡ false → DoesServe p (asked_for [] host (with_slash path)) → ⊥
  unfolding DoesServe
  none_long i p at free e s =
      let parts = segments_of path in
      let short : asked_for method host path ≡ asked method host parts false = asked_short method host path e in
      let fits : HostMatches p.host host × SegsMatch p.segs.items parts true = subst (λ a. HostMatches p.host a.host × SegsMatch p.segs.items a.segs a.slash) (asked_long [] host path) s in
      let shape' : IsShape (asked method host parts false) = subst IsShape short shape in
      let none' : HasNoBest patterns (asked method host parts false) = subst (λ a. HasNoBest patterns a) short none in
      no_service patterns proper apart (asked method host parts true) shape'
      (λ b best. direct
      (λ x. none x.0 x.1, e, subst (λ a. HasExactBest patterns a) (sym (asked_long method host path)) (b, best, best_exact patterns proper apart method host parts shape' none' b best)))
      i p at free fits.0 fits.1

  has_method : (i : ℕ) (p : Pattern) → IsAt patterns i p → ServesPath p host path → p.method ≡ None → ⊥
  unfolding ServesPath
  has_method i p at s free = ⊎_elim (λ a. none_short i p at free a) (λ a. none_long i p at free a.0 a.1) s

pub method_named : (patterns : List Pattern) (method host path : List ℕ) (query : Option (List ℕ)) (decision : Decision) → AreProper patterns → HasNoConflict patterns → AreBytes method → AreBytes host → AreBytes path → Decides patterns method host path query decision → NamesMethod decision
method_named patterns method host path query (Routed hit) proper apart m n b h = tt
method_named patterns method host path query (Redirect location) proper apart m n b h = tt
method_named patterns method host path query (NotAllowed methods) proper apart m n b h =
    let i = h.2.0 in
    let s = h.2.1 in
    named patterns host path methods.items i s.0 s.0.method h.3 s.1 s.2 refl
    (has_method patterns method host path proper apart (shape_asked method host path m n b) h.1 h.0.0 i s.0 s.1 s.2)
method_named patterns method host path query NotFound proper apart m n b h = tt
