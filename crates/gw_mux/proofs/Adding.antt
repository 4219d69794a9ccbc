-- Numbers that a walk adds to a list.
use Rattle.std.proofs.Common.{◌≡◌, ℕ, ◌+◌, Bool, true, false, List, [], ◌∷◌, ◌++◌, drop, map, All, Option, Some, None, Contains, ◌⊎◌, inl, inr, ⊎_elim, sym, refl, ap, subst}
use Rattle.std.proofs.lemmas.List.Elements.{Contains-append_left, Contains-append_right, Contains-append_cases}
use Rattle.percent_encoding.specs.Percent.{percent_decode}
use Rattle.gw_pattern.specs.declared.form.Pattern.{Pattern}
use Rattle.gw_pattern.specs.declared.form.Seg.{Seg}
use Rattle.gw_pattern.specs.declared.form.Seg.TheVariants.{Rest}
use Rattle.gw_pattern.specs.Pattern.{IsWellFormed}
use Rattle.gw_sets.specs.Matches.{MethodMatches, SegsMatch}
use Rattle.gw_mux.specs.Found.{Fits, IsAdded, IsNode, Remains}
use Rattle.gw_mux.specs.Keys.{first_key, here_key, tail_keys}
use Rattle.gw_mux.specs.Order.{IsRun}
use Rattle.gw_mux.specs.Request.{parts_in}
use Rattle.gw_mux.specs.Table.{IsAt}
use Rattle.gw_mux.specs.Walk.{segments_in}
use Rattle.gw_mux.proofs.Branching.{back_kid, back_one, split}
use Rattle.gw_mux.proofs.Heads.{end_head, end_heads, no_head, rest_head, stopped}
use Rattle.gw_mux.proofs.Nodes.{InRun, in_key, key_in, pattern_there}

-- ---- lists

pub added_run : (old run new : List ℕ) → new ≡ old ++ run → IsAdded (λ i. Contains run i) old new
added_run old run new e = record {
  within = λ i c. Contains-append_cases old run i (subst (λ x. Contains x i) e c);
  kept = λ i c. subst (λ x. Contains x i) (sym e) (Contains-append_left old run i c);
  added = λ i c. subst (λ x. Contains x i) (sym e) (Contains-append_right old run i c);
}

pub added_as : (P R : ℕ → Type 0) (old new : List ℕ) → ((i : ℕ) → P i → R i) → ((i : ℕ) → R i → P i) → IsAdded P old new → IsAdded R old new
added_as P R old new to from h = record {
  within = λ i c. ⊎_elim (λ x. inl x) (λ x. inr (to i x)) (h.within i c);
  kept = λ i c. h.kept i c;
  added = λ i r. h.added i (from i r);
}

pub added_both : (P Q R : ℕ → Type 0) (old mid new : List ℕ) → ((i : ℕ) → R i → P i ⊎ Q i) → ((i : ℕ) → P i → R i) → ((i : ℕ) → Q i → R i) → IsAdded P old mid → IsAdded Q mid new → IsAdded R old new
added_both P Q R old mid new split first second h k = record {
  within = λ i c. ⊎_elim (λ x. ⊎_elim (λ y. inl y) (λ y. inr (first i y)) (h.within i x)) (λ x. inr (second i x)) (k.within i c);
  kept = λ i c. k.kept i (h.kept i c);
  added = λ i r. ⊎_elim (λ p. k.kept i (h.added i p)) (λ q. k.added i q) (split i r);
}

pub added_none : (P : ℕ → Type 0) (old : List ℕ) → ((i : ℕ) → P i → ⊥) → IsAdded P old old
added_none P old none = record {
  within = λ i c. inl c;
  kept = λ i c. c;
  added = λ i p. absurd (none i p);
}

-- ---- each pattern's method matches some request

some_method : (own : Option (List ℕ)) → (method : List ℕ) × MethodMatches own method
some_method None = ([], tt)
some_method (Some own) = (own, inl refl)

module _ (patterns : List Pattern) (at : ℕ) (numbers : List ℕ) (formed : All IsWellFormed patterns) (node : IsNode patterns at numbers) where
  rest_in : (i : ℕ) (p : Pattern) → InRun patterns at numbers (4 ∷ []) i → IsAt patterns i p → (name : List ℕ) × (t : List Seg) × (drop at p.segs.items ≡ Rest name ∷ t)
  rest_in i p c a = rest_head (drop at p.segs.items) p.method (key_in patterns at numbers node i p (4 ∷ []) c a)

  -- ---- a part

  module _ (part : List ℕ) (parts : List (List ℕ)) (slash : Bool) (kids ones rests : List ℕ) (is_kids : IsRun patterns (at + 1) (1 ∷ part) numbers kids) (is_ones : IsRun patterns (at + 1) (2 ∷ []) numbers ones) (is_rests : IsRun patterns (at + 1) (4 ∷ []) numbers rests) where
    abbrev Whole : ℕ → Type 0
    Whole = Remains patterns numbers at (part ∷ parts) slash

    abbrev Below : List ℕ → ℕ → Type 0
    Below run = Remains patterns run (at + 1) parts slash

    remains_split : (i : ℕ) → Whole i → Below kids i ⊎ (Below ones i ⊎ Contains rests i)
    unfolding Remains Fits
    remains_split i r =
        let m = some_method r.1.method in
        ⊎_elim
        (λ x. inl (is_kids.all i x.0.0 x.0.1, x.1.0, x.1.1, x.1.3))
        (λ y. ⊎_elim (λ x. inr (inl (is_ones.all i x.0.0 x.0.1, x.1.0, x.1.1, x.1.3))) (λ x. inr (inr (is_rests.all i x.0.0 x.0.1))) y)
        (split patterns at numbers m.0 formed node part parts slash i (r.0, (r.1, r.2, m.1, r.3)))

    from_kid : (i : ℕ) → Below kids i → Whole i
    unfolding Remains Fits
    from_kid i r =
        let m = some_method r.1.method in
        let f = back_kid patterns at numbers m.0 formed node part parts slash i (is_kids.within i r.0, (r.1, r.2, m.1, r.3)) in
        (f.0, f.1.0, f.1.1, f.1.3)

    from_one : (i : ℕ) → Below ones i → Whole i
    unfolding Remains Fits
    from_one i r =
        let m = some_method r.1.method in
        let f = back_one patterns at numbers m.0 formed node part parts slash i (is_ones.within i r.0, (r.1, r.2, m.1, r.3)) in
        (f.0, f.1.0, f.1.1, f.1.3)

    from_rest : (i : ℕ) → Contains rests i → Whole i
    unfolding Remains
    from_rest i c =
        let w = is_rests.within i c in
        let x = pattern_there patterns i (node.there i w.0) in
        let h = rest_in i x.0 w x.1 in
        (w.0, x.0, x.1, subst (λ s. SegsMatch s (part ∷ parts) slash) (sym h.2) tt)

    pub added_part : (old first second new : List ℕ) → IsAdded (Below kids) old first → IsAdded (Below ones) first second → new ≡ second ++ rests → IsAdded Whole old new
    added_part old first second new h k e =
        added_both (Below kids) (λ i. Below ones i ⊎ Contains rests i) Whole old first new remains_split from_kid (λ i x. ⊎_elim (λ y. from_one i y) (λ y. from_rest i y) x) h
        (added_both (Below ones) (λ i. Contains rests i) (λ i. Below ones i ⊎ Contains rests i) first second new (λ i x. x) (λ i x. inl x) (λ i x. inr x) k (added_run second rests new e))

-- ---- the path's end

module _ (patterns : List Pattern) (at : ℕ) (numbers : List ℕ) (node : IsNode patterns at numbers) where
  pub added_stopped : (run old new : List ℕ) → IsRun patterns (at + 1) here_key numbers run → new ≡ old ++ run → IsAdded (Remains patterns numbers at [] false) old new
  unfolding Remains
  added_stopped run old new is e =
      added_as (λ i. Contains run i) (Remains patterns numbers at [] false) old new
      (λ i c. let w = is.within i c in
      let x = pattern_there patterns i (node.there i w.0) in
      (w.0, x.0, x.1, subst (λ s. SegsMatch s [] false) (sym (no_head (drop at x.0.segs.items) x.0.method (key_in patterns at numbers node i x.0 here_key w x.1))) refl))
      (λ i r. let k = in_key patterns at numbers node i r.1 here_key r.0 r.2 (ap (λ s. first_key (tail_keys s r.1.method)) (stopped (drop at r.1.segs.items) r.3)) in is.all i k.0 k.1)
      (added_run old run new e)

  pub added_ended : (ends rests old mid new : List ℕ) → IsRun patterns (at + 1) (3 ∷ []) numbers ends → IsRun patterns (at + 1) (4 ∷ []) numbers rests → mid ≡ old ++ ends → new ≡ mid ++ rests → IsAdded (Remains patterns numbers at [] true) old new
  unfolding Remains
  added_ended ends rests old mid new is_ends is_rests e f =
      added_both (λ i. Contains ends i) (λ i. Contains rests i) (Remains patterns numbers at [] true) old mid new
      (λ i r. ⊎_elim
      (λ x. let k = in_key patterns at numbers node i r.1 (3 ∷ []) r.0 r.2 (ap (λ s. first_key (tail_keys s r.1.method)) x.1) in inl (is_ends.all i k.0 k.1))
      (λ x. let k = in_key patterns at numbers node i r.1 (4 ∷ []) r.0 r.2 (ap (λ s. first_key (tail_keys s r.1.method)) x.2) in inr (is_rests.all i k.0 k.1))
      (end_heads (drop at r.1.segs.items) r.3))
      (λ i c. let w = is_ends.within i c in
      let x = pattern_there patterns i (node.there i w.0) in
      let h = end_head (drop at x.0.segs.items) x.0.method (key_in patterns at numbers node i x.0 (3 ∷ []) w x.1) in
      (w.0, x.0, x.1, subst (λ s. SegsMatch s [] true) (sym h.1) refl))
      (λ i c. let w = is_rests.within i c in
      let x = pattern_there patterns i (node.there i w.0) in
      let h = rest_head (drop at x.0.segs.items) x.0.method (key_in patterns at numbers node i x.0 (4 ∷ []) w x.1) in
      (w.0, x.0, x.1, subst (λ s. SegsMatch s [] true) (sym h.2) refl))
      (added_run old ends mid e) (added_run mid rests new f)

-- the same, said of the path of which a part was taken
pub added_path : (patterns : List Pattern) (numbers : List ℕ) (at : ℕ) (path part after : List ℕ) (slash left : Bool) (old new : List ℕ) → parts_in path ≡ part ∷ parts_in after → left ≡ slash → IsAdded (Remains patterns numbers at (percent_decode part ∷ segments_in after) left) old new → IsAdded (Remains patterns numbers at (segments_in path) slash) old new
added_path patterns numbers at path part after slash left old new e f h =
    subst (λ s. IsAdded (Remains patterns numbers at (segments_in path) s) old new) f
    (subst (λ parts. IsAdded (Remains patterns numbers at parts left) old new) (sym (ap (map percent_decode) e)) h)
