-- The patterns whose segments end at a node, by their methods.
use Rattle.std.proofs.Common.{◌≡◌, ℕ, ◌+◌, false, List, [], ◌∷◌, drop, codes, Option, Some, None, Contains, inl, inr, ⊎_elim, sym, refl, ap, subst, ◌∙◌, arith}
use Rattle.std.proofs.lemmas.List.{drop-drop}
use Rattle.gw_pattern.specs.declared.form.Pattern.{Pattern}
use Rattle.gw_sets.specs.Comparison.{relation_of_methods}
use Rattle.gw_sets.specs.Matches.{MethodMatches, SegsMatch}
use Rattle.gw_mux.specs.Found.{Fits, IsFirst, IsNode, IsWith, Precedes}
use Rattle.gw_mux.specs.Keys.{first_key, here_key, keys_at, method_key, tail_at, tail_keys}
use Rattle.gw_mux.specs.Order.{IsRun}
use Rattle.gw_mux.specs.Table.{IsAt}
use Rattle.gw_mux.proofs.Conflicting.{same_at}
use Rattle.gw_mux.proofs.Heads.{no_head, same_kind, same_rest, stopped}
use Rattle.gw_mux.proofs.Nodes.{in_key, key_in, pattern_there}
use Rattle.gw_mux.proofs.Ranks.{IsAhead, head_get, method_none, method_same, none_none}

own_method : (own : Option (List ℕ)) (method : List ℕ) → method_key own ≡ 5 ∷ method → own ≡ Some method
own_method None method e = absurd (let h = same_kind 6 5 [] method e in omega (arith, h))
own_method (Some own) method e = ap Some (same_rest 5 5 own method e)

no_method : (own : Option (List ℕ)) → method_key own ≡ 6 ∷ [] → own ≡ None
no_method None e = refl
no_method (Some own) e = absurd (let h = same_kind 5 6 own [] e in omega (arith, h))

module _ (patterns : List Pattern) (at : ℕ) (numbers run : List ℕ) (method : List ℕ) (node : IsNode patterns at numbers) (is : IsRun patterns (at + 1) here_key numbers run) where
  -- the pattern of one of the numbers has no segment left
  ended : (i : ℕ) (p : Pattern) → Contains run i → IsAt patterns i p → drop at p.segs.items ≡ []
  ended i p c a = no_head (drop at p.segs.items) p.method (key_in patterns at numbers node i p here_key (is.within i c) a)

  method_at : (i : ℕ) (p : Pattern) → Contains run i → IsAt patterns i p → first_key (tail_at patterns (at + 1 + 1) i) ≡ method_key p.method
  method_at i p c a =
      let e : tail_at patterns (at + 1) i ≡ here_key ∷ method_key p.method ∷ [] = node.branches i p (is.within i c).0 a ∙ ap (λ s. tail_keys s p.method) (ended i p c a) in
      ap first_key (sym (drop-drop 1 (at + 1) (keys_at patterns i)) ∙ ap (drop 1) e)

  -- what fits is one of the run
  in_run : (j : ℕ) (p : Pattern) → Contains numbers j → IsAt patterns j p → SegsMatch (drop at p.segs.items) [] false → Contains run j
  in_run j p c a h =
      let k = in_key patterns at numbers node j p here_key c a (ap (λ s. first_key (tail_keys s p.method)) (stopped (drop at p.segs.items) h)) in
      is.all j k.0 k.1

  none_with : (key : List ℕ) → IsWith patterns (at + 1 + 1) key run None → (j : ℕ) (p : Pattern) → Contains run j → IsAt patterns j p → method_key p.method ≡ key → ⊥
  none_with key h j p c a e = h j c (method_at j p c a ∙ e)

  ahead : (i j : ℕ) (p q : Pattern) → Contains run i → Contains run j → IsAt patterns i p → IsAt patterns j q → IsAhead (relation_of_methods p.method q.method) [] [] → IsAhead (relation_of_methods p.method q.method) (drop at p.segs.items) (drop at q.segs.items)
  ahead i j p q c d a b h =
      subst (λ s. IsAhead (relation_of_methods p.method q.method) s (drop at q.segs.items)) (sym (ended i p c a)) (subst (λ s. IsAhead (relation_of_methods p.method q.method) [] s) (sym (ended j q d b)) h)

  -- the first of those with a method, where each other method that may be there comes behind it
  chosen : (own : Option (List ℕ)) (i : ℕ) → MethodMatches own method → (Contains run i × (first_key (tail_at patterns (at + 1 + 1) i) ≡ method_key own)) → ((p : Pattern) → method_key p.method ≡ method_key own → p.method ≡ own) → ((j : ℕ) (q : Pattern) → Contains run j → IsAt patterns j q → MethodMatches q.method method → IsAhead (relation_of_methods own q.method) [] []) → IsFirst patterns numbers at method [] false (Some i)
  unfolding Fits Precedes
  chosen own i matches h says rank =
      let x = pattern_there patterns i (node.there i (is.within i h.0).0) in
      let own_at : (p : Pattern) → IsAt patterns i p → p.method ≡ own = λ p a. says p (sym (method_at i p h.0 a) ∙ h.1) in (
        (is.within i h.0).0,
        (x.0, x.1, subst (λ o. MethodMatches o method) (sym (own_at x.0 x.1)) matches, subst (λ s. SegsMatch s [] false) (sym (ended i x.0 h.0 x.1)) refl),
        λ j c f p q a b.
            let e = same_at patterns j f.0 q f.1 b in
            let g = subst (λ y. MethodMatches y.method method × SegsMatch (drop at y.segs.items) [] false) e (f.2, f.3) in
            let d = in_run j q c b g.1 in
            ahead i j p q h.0 d a b (subst (λ o. IsAhead (relation_of_methods o q.method) [] []) (sym (own_at p a)) (rank j q d b g.0)),
      )

  own_rank : (own : Option (List ℕ)) → MethodMatches own method → IsAhead (relation_of_methods (Some method) own) [] []
  own_rank None h = method_none method
  own_rank (Some own) h =
      ⊎_elim
      (λ e. subst (λ o. IsAhead (relation_of_methods (Some method) (Some o)) [] []) e (method_same method))
      (λ e. subst (λ o. IsAhead (relation_of_methods (Some method) (Some o)) [] []) (sym e.0) (subst (λ m. IsAhead (relation_of_methods (Some m) (Some (codes "GET"))) [] []) (sym e.1) head_get))
      h

  pub by_own : (i : ℕ) → IsWith patterns (at + 1 + 1) (5 ∷ method) run (Some i) → IsFirst patterns numbers at method [] false (Some i)
  by_own i h = chosen (Some method) i (inl refl) h (λ p e. own_method p.method method e) (λ j q c a m. own_rank q.method m)

  get_rank : (own : Option (List ℕ)) → MethodMatches own method → (method_key own ≡ 5 ∷ method → ⊥) → IsAhead (relation_of_methods (Some (codes "GET")) own) [] []
  get_rank None h out = method_none (codes "GET")
  get_rank (Some own) h out =
      ⊎_elim
      (λ e. absurd (out (ap (λ m. 5 ∷ m) (sym e))))
      (λ e. subst (λ o. IsAhead (relation_of_methods (Some (codes "GET")) (Some o)) [] []) (sym e.0) (method_same (codes "GET")))
      h

  pub by_get : (i : ℕ) → method ≡ codes "HEAD" → IsWith patterns (at + 1 + 1) (5 ∷ method) run None → IsWith patterns (at + 1 + 1) (5 ∷ codes "GET") run (Some i) → IsFirst patterns numbers at method [] false (Some i)
  by_get i head none h =
      chosen (Some (codes "GET")) i (inr (refl, head)) h (λ p e. own_method p.method (codes "GET") e) (λ j q c a m. get_rank q.method m (none_with (5 ∷ method) none j q c a))

  none_rank : (own : Option (List ℕ)) → MethodMatches own method → (method_key own ≡ 5 ∷ method → ⊥) → (method ≡ codes "HEAD" → method_key own ≡ 5 ∷ codes "GET" → ⊥) → own ≡ None
  none_rank None h out no_get = refl
  none_rank (Some own) h out no_get =
      ⊎_elim (λ e. absurd (out (ap (λ m. 5 ∷ m) (sym e)))) (λ e. absurd (no_get e.1 (ap (λ m. 5 ∷ m) e.0))) h

  pub by_none : (r : Option ℕ) → IsWith patterns (at + 1 + 1) (5 ∷ method) run None → (method ≡ codes "HEAD" → IsWith patterns (at + 1 + 1) (5 ∷ codes "GET") run None) → IsWith patterns (at + 1 + 1) (6 ∷ []) run r → IsFirst patterns numbers at method [] false r
  unfolding Fits
  by_none None none no_get h =
      λ j c f. let d = in_run j f.0 c f.1 f.3 in
      let e = none_rank f.0.method f.2 (none_with (5 ∷ method) none j f.0 d f.1) (λ head. none_with (5 ∷ codes "GET") (no_get head) j f.0 d f.1) in
      none_with (6 ∷ []) h j f.0 d f.1 (ap method_key e)
  by_none (Some i) none no_get h =
      chosen None i tt h (λ p e. no_method p.method e)
      (λ j q c a m. subst (λ o. IsAhead (relation_of_methods None o) [] []) (sym (none_rank q.method m (none_with (5 ∷ method) none j q c a) (λ head. none_with (5 ∷ codes "GET") (no_get head) j q c a))) none_none)
