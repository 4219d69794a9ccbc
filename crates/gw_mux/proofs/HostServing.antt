-- The patterns that the walks from a host's node and from that of no host add.
use Rattle.std.proofs.Common.{◌≡◌, ◌↔◌, ℕ, Bool, true, false, List, [], ◌∷◌, Contains, ◌⊎◌, inl, inr, ⊎_elim, sym, refl, ap, subst, ◌∙◌, arith}
use Rattle.gw_pattern.specs.declared.form.Pattern.{Pattern}
use Rattle.gw_sets.specs.Matches.{HostMatches, SegsMatch}
use Rattle.gw_mux.specs.Allow.{IsServed}
use Rattle.gw_mux.specs.Found.{IsAdded, Remains}
use Rattle.gw_mux.specs.Keys.{first_key, host_key, keys_there}
use Rattle.gw_mux.specs.Order.{IsOrder, IsRun}
use Rattle.gw_mux.specs.Served.{Serves}
use Rattle.gw_mux.specs.Table.{IsAt}
use Rattle.gw_mux.specs.Walk.{segments_in}
use Rattle.std.proofs.lemmas.Option.{slice_get_within}
use Rattle.gw_mux.proofs.Adding.{added_as, added_both}
use Rattle.gw_mux.proofs.Chosen.{own_host, free_host}
use Rattle.gw_mux.proofs.Heads.{same_rest}
use Rattle.gw_mux.proofs.Paths.{IsSeen}
use Rattle.gw_mux.proofs.Serving.{from_served, to_serve}

module _ (patterns : List Pattern) (host order roots : List ℕ) (parts : List (List ℕ)) (is_order : IsOrder patterns order) (is : IsRun patterns 0 (host_key host) order roots) where
  abbrev Matched : Bool → ℕ → Type 0
  Matched slash i = (p : Pattern) × IsAt patterns i p × (p.host ≡ host) × SegsMatch p.segs.items parts slash

  matched_of : (slash : Bool) (i : ℕ) → Remains patterns roots 0 parts slash i → Matched slash i
  unfolding Remains
  matched_of slash i r =
      let e : host_key r.1.host ≡ host_key host = sym (ap (λ o. first_key (keys_there o)) r.2) ∙ (is.within i r.0).1 in
      (r.1, r.2, same_rest 7 7 r.1.host host e, r.3)

  remains_of : (slash : Bool) (i : ℕ) → Matched slash i → Remains patterns roots 0 parts slash i
  unfolding Remains
  remains_of slash i m =
      (is.all i ((is_order.all i).1 (slice_get_within patterns i m.0 m.1)) (ap (λ o. first_key (keys_there o)) m.1 ∙ ap host_key m.2), m.0, m.1, m.3)

  pub host_slashed : (old new : List ℕ) → IsAdded (Remains patterns roots 0 parts true) old new → IsAdded (Serves patterns host parts true) old new
  unfolding Serves
  host_slashed old new h =
      added_as (Remains patterns roots 0 parts true) (Serves patterns host parts true) old new
      (λ i r. let m = matched_of true i r in (m.0, m.1, m.2, inl m.3))
      (λ i s. remains_of true i (s.0, s.1, s.2, ⊎_elim (λ x. x) (λ x. x.1) s.3))
      h

  pub host_both : (old mid new : List ℕ) → IsAdded (Remains patterns roots 0 parts false) old mid → IsAdded (Remains patterns roots 0 parts true) mid new → IsAdded (Serves patterns host parts false) old new
  unfolding Serves
  host_both old mid new h k =
      added_both (Remains patterns roots 0 parts false) (Remains patterns roots 0 parts true) (Serves patterns host parts false) old mid new
      (λ i s. ⊎_elim (λ x. inl (remains_of false i (s.0, s.1, s.2, x))) (λ x. inr (remains_of true i (s.0, s.1, s.2, x.1))) s.3)
      (λ i r. let m = matched_of false i r in (m.0, m.1, m.2, inl m.3))
      (λ i r. let m = matched_of true i r in (m.0, m.1, m.2, inr (refl, m.3)))
      h k

pub host_cases : (own host : List ℕ) → HostMatches own host → (own ≡ host) ⊎ (own ≡ [])
host_cases [] host h = inr refl
host_cases (b ∷ own) host h = inl (sym h)

nothing_in : (i : ℕ) → Contains [] i → ⊥
nothing_in i c = omega (arith, c.1)

module _ (patterns : List Pattern) (host path body : List ℕ) (slash : Bool) (seen : IsSeen [] host path body slash) where
  to_served : (own : List ℕ) (i : ℕ) → ((p : Pattern) → p.host ≡ own → HostMatches p.host host) → Serves patterns own (segments_in body) slash i → IsServed patterns host path i
  unfolding Serves
  to_served own i matches s = (s.0, s.1, to_serve s.0 host path body slash seen (matches s.0 s.2, s.3))

  pub all_served : (old mid new : List ℕ) → old ≡ [] → IsAdded (Serves patterns host (segments_in body) slash) old mid → IsAdded (Serves patterns [] (segments_in body) slash) mid new → (i : ℕ) → Contains new i ↔ IsServed patterns host path i
  unfolding Serves
  all_served old mid new e h k i = (
    λ c. ⊎_elim
        (λ x. ⊎_elim (λ y. absurd (nothing_in i (subst (λ l. Contains l i) e y))) (λ y. to_served host i (λ p is. own_host p.host host is) y) (h.within i x))
        (λ x. to_served [] i (λ p is. free_host p.host host is) x)
        (k.within i c),
    λ s. let d = from_served s.0 host path body slash seen s.2 in
        ⊎_elim (λ e. k.kept i (h.added i (s.0, s.1, e, d.1))) (λ e. k.added i (s.0, s.1, e, d.1)) (host_cases s.0.host host d.0),
  )

  -- where no host is asked for, those without a host are the request's own
  pub own_served : (old new : List ℕ) → old ≡ [] → host ≡ [] → IsAdded (Serves patterns host (segments_in body) slash) old new → (i : ℕ) → Contains new i ↔ IsServed patterns host path i
  own_served old new e none h =
      all_served old new new e h
      (record {
        within = λ i c. inl c;
        kept = λ i c. c;
        added = λ i s. h.added i (subst (λ own. Serves patterns own (segments_in body) slash i) (sym none) s);
      })
