-- A walk at a node: the literal's branch, then that of `{x}`, then the rest.
use Rattle.std.proofs.Common.{◌≡◌, ℕ, ◌+◌, Bool, true, false, List, [], ◌∷◌, drop, All, Option, Some, None, ◌⊎◌, inl, inr, ⊎_elim, sym, refl, ap, subst, ◌∙◌}
use Rattle.gw_pattern.specs.declared.form.Pattern.{Pattern}
use Rattle.gw_pattern.specs.declared.form.Seg.{Seg}
use Rattle.gw_pattern.specs.declared.form.Seg.TheVariants.{Literal, One, Rest, End}
use Rattle.gw_pattern.specs.Pattern.{IsWellFormed}
use Rattle.gw_sets.specs.Comparison.{relation_of_methods}
use Rattle.gw_sets.specs.Matches.{SegsMatch}
use Rattle.gw_mux.specs.Found.{Fits, IsFirst, IsNode, Precedes}
use Rattle.gw_mux.specs.Keys.{first_key, tail_keys}
use Rattle.gw_mux.specs.Table.{IsAt}
use Rattle.gw_mux.proofs.Firsts.{First, Fitting, FittingIn, found_first, found_later, from_first}
use Rattle.gw_mux.proofs.Heads.{behind, end_head, end_heads, formed_at, last_seg, literal_head, one_head, part_heads, rest_head}
use Rattle.gw_mux.proofs.Nodes.{InRun, SaysSegment, in_key, key_in}
use Rattle.gw_mux.proofs.Ranks.{IsAhead, end_rest, end_same, literal_one, literal_rest, literal_same, one_rest, one_same, rest_same}

pub says_literal : (bytes : List ℕ) → SaysSegment (1 ∷ bytes)
says_literal bytes segs method e = let h = literal_head segs method bytes e in (Literal bytes, h.0, h.1)

pub says_one : SaysSegment (2 ∷ [])
says_one segs method e = let h = one_head segs method e in (One h.0, h.1, h.2)

pub says_end : SaysSegment (3 ∷ [])
says_end segs method e = let h = end_head segs method e in (End, h.0, h.1)

pub says_rest : SaysSegment (4 ∷ [])
says_rest segs method e = let h = rest_head segs method e in (Rest h.0, h.1, h.2)

-- ahead, once what is left of both is said
ahead_at : (p q : Pattern) (at : ℕ) (s t : List Seg) → drop at p.segs.items ≡ s → drop at q.segs.items ≡ t → IsAhead (relation_of_methods p.method q.method) s t → IsAhead (relation_of_methods p.method q.method) (drop at p.segs.items) (drop at q.segs.items)
ahead_at p q at s t e f h =
    subst (λ x. IsAhead (relation_of_methods p.method q.method) x (drop at q.segs.items)) (sym e) (subst (λ x. IsAhead (relation_of_methods p.method q.method) s x) (sym f) h)

ahead_of : (p q : Pattern) (at : ℕ) (s t : List Seg) → drop at p.segs.items ≡ s → drop at q.segs.items ≡ t → IsAhead (relation_of_methods p.method q.method) (drop at p.segs.items) (drop at q.segs.items) → IsAhead (relation_of_methods p.method q.method) s t
ahead_of p q at s t e f h =
    subst (λ x. IsAhead (relation_of_methods p.method q.method) x t) e (subst (λ x. IsAhead (relation_of_methods p.method q.method) (drop at p.segs.items) x) f h)

matched : (p : Pattern) (at : ℕ) (s : List Seg) (parts : List (List ℕ)) (slash : Bool) → drop at p.segs.items ≡ s → SegsMatch s parts slash → SegsMatch (drop at p.segs.items) parts slash
matched p at s parts slash e h = subst (λ x. SegsMatch x parts slash) (sym e) h

matched_of : (p : Pattern) (at : ℕ) (s : List Seg) (parts : List (List ℕ)) (slash : Bool) → drop at p.segs.items ≡ s → SegsMatch (drop at p.segs.items) parts slash → SegsMatch s parts slash
matched_of p at s parts slash e h = subst (λ x. SegsMatch x parts slash) e h

module _ (patterns : List Pattern) (at : ℕ) (numbers : List ℕ) (method : List ℕ) (formed : All IsWellFormed patterns) (node : IsNode patterns at numbers) where
  -- nothing stands behind the rest, or behind the end
  rest_alone : (i : ℕ) (p : Pattern) (name : List ℕ) (t : List Seg) → IsAt patterns i p → drop at p.segs.items ≡ Rest name ∷ t → t ≡ []
  rest_alone i p name t a e = last_seg p.segs.items at (Rest name) t (λ h. h) (formed_at patterns i p formed a) e

  end_alone : (i : ℕ) (p : Pattern) (t : List Seg) → IsAt patterns i p → drop at p.segs.items ≡ End ∷ t → t ≡ []
  end_alone i p t a e = last_seg p.segs.items at End t (λ h. h) (formed_at patterns i p formed a) e

  -- ---- a part

  module _ (part : List ℕ) (parts : List (List ℕ)) (slash : Bool) where
    abbrev Each : ℕ → Type 0
    Each = Fitting patterns numbers at method (part ∷ parts) slash

    abbrev Kids : ℕ → Type 0
    Kids = FittingIn patterns at numbers (1 ∷ part) method parts slash

    abbrev Ones : ℕ → Type 0
    Ones = FittingIn patterns at numbers (2 ∷ []) method parts slash

    abbrev Rests : ℕ → Type 0
    Rests = FittingIn patterns at numbers (4 ∷ []) method [] false

    abbrev Later : ℕ → Type 0
    Later j = Ones j ⊎ Rests j

    kid_segs : (i : ℕ) (p : Pattern) → InRun patterns at numbers (1 ∷ part) i → IsAt patterns i p → (t : List Seg) × (drop at p.segs.items ≡ Literal part ∷ t)
    kid_segs i p c a = literal_head (drop at p.segs.items) p.method part (key_in patterns at numbers node i p (1 ∷ part) c a)

    one_segs : (i : ℕ) (p : Pattern) → InRun patterns at numbers (2 ∷ []) i → IsAt patterns i p → (name : List ℕ) × (t : List Seg) × (drop at p.segs.items ≡ One name ∷ t)
    one_segs i p c a = one_head (drop at p.segs.items) p.method (key_in patterns at numbers node i p (2 ∷ []) c a)

    rest_segs : (i : ℕ) (p : Pattern) → InRun patterns at numbers (4 ∷ []) i → IsAt patterns i p → (name : List ℕ) × (t : List Seg) × (drop at p.segs.items ≡ Rest name ∷ t)
    rest_segs i p c a = rest_head (drop at p.segs.items) p.method (key_in patterns at numbers node i p (4 ∷ []) c a)

    pub split : (j : ℕ) → Each j → Kids j ⊎ Later j
    unfolding Fits
    split j f =
        let p = f.1.0 in
        let a = f.1.1 in
        ⊎_elim
        (λ x. inl (
          in_key patterns at numbers node j p (1 ∷ part) f.0 a (ap (λ s. first_key (tail_keys s p.method)) x.1),
          (p, a, f.1.2, matched p (at + 1) x.0 parts slash (behind p.segs.items at (Literal part) x.0 x.1) x.2),
        ))
        (λ y. ⊎_elim
        (λ x. inr (inl (
          in_key patterns at numbers node j p (2 ∷ []) f.0 a (ap (λ s. first_key (tail_keys s p.method)) x.2),
          (p, a, f.1.2, matched p (at + 1) x.1 parts slash (behind p.segs.items at (One x.0) x.1 x.2) x.3),
        )))
        (λ x. inr (inr (
          in_key patterns at numbers node j p (4 ∷ []) f.0 a (ap (λ s. first_key (tail_keys s p.method)) x.2),
          (p, a, f.1.2, matched p (at + 1) [] [] false (behind p.segs.items at (Rest x.0) x.1 x.2 ∙ rest_alone j p x.0 x.1 a x.2) refl),
        )))
        y)
        (part_heads (drop at p.segs.items) part parts slash f.1.3)

    pub back_kid : (j : ℕ) → Kids j → Each j
    unfolding Fits
    back_kid j f =
        let x = kid_segs j f.1.0 f.0 f.1.1 in
        (f.0.0, (f.1.0, f.1.1, f.1.2, matched f.1.0 at (Literal part ∷ x.0) (part ∷ parts) slash x.1 (refl, matched_of f.1.0 (at + 1) x.0 parts slash (behind f.1.0.segs.items at (Literal part) x.0 x.1) f.1.3)))

    pub back_one : (j : ℕ) → Ones j → Each j
    unfolding Fits
    back_one j f =
        let x = one_segs j f.1.0 f.0 f.1.1 in
        (f.0.0, (f.1.0, f.1.1, f.1.2, matched f.1.0 at (One x.0 ∷ x.1) (part ∷ parts) slash x.2 (matched_of f.1.0 (at + 1) x.1 parts slash (behind f.1.0.segs.items at (One x.0) x.1 x.2) f.1.3)))

    back_rest : (j : ℕ) → Rests j → Each j
    unfolding Fits
    back_rest j f =
        let x = rest_segs j f.1.0 f.0 f.1.1 in
        (f.0.0, (f.1.0, f.1.1, f.1.2, matched f.1.0 at (Rest x.0 ∷ x.1) (part ∷ parts) slash x.2 tt))

    kids_same : (i j : ℕ) → Kids i → Kids j → Precedes patterns (at + 1) i j → Precedes patterns at i j
    unfolding Precedes
    kids_same i j f g h = λ p q a b.
        let x = kid_segs i p f.0 a in
        let y = kid_segs j q g.0 b in
        ahead_at p q at (Literal part ∷ x.0) (Literal part ∷ y.0) x.1 y.1
        (literal_same (relation_of_methods p.method q.method) part x.0 y.0 (ahead_of p q (at + 1) x.0 y.0 (behind p.segs.items at (Literal part) x.0 x.1) (behind q.segs.items at (Literal part) y.0 y.1) (h p q a b)))

    ones_same : (i j : ℕ) → Ones i → Ones j → Precedes patterns (at + 1) i j → Precedes patterns at i j
    unfolding Precedes
    ones_same i j f g h = λ p q a b.
        let x = one_segs i p f.0 a in
        let y = one_segs j q g.0 b in
        ahead_at p q at (One x.0 ∷ x.1) (One y.0 ∷ y.1) x.2 y.2
        (one_same (relation_of_methods p.method q.method) x.0 y.0 x.1 y.1 (ahead_of p q (at + 1) x.1 y.1 (behind p.segs.items at (One x.0) x.1 x.2) (behind q.segs.items at (One y.0) y.1 y.2) (h p q a b)))

    rests_same : (i j : ℕ) → Rests i → Rests j → Precedes patterns (at + 1) i j → Precedes patterns at i j
    unfolding Precedes
    rests_same i j f g h = λ p q a b.
        let x = rest_segs i p f.0 a in
        let y = rest_segs j q g.0 b in
        let e = rest_alone i p x.0 x.1 a x.2 in
        let k = rest_alone j q y.0 y.1 b y.2 in
        ahead_at p q at (Rest x.0 ∷ []) (Rest y.0 ∷ []) (x.2 ∙ ap (λ t. Rest x.0 ∷ t) e) (y.2 ∙ ap (λ t. Rest y.0 ∷ t) k)
        (rest_same (relation_of_methods p.method q.method) x.0 y.0 (ahead_of p q (at + 1) [] [] (behind p.segs.items at (Rest x.0) x.1 x.2 ∙ e) (behind q.segs.items at (Rest y.0) y.1 y.2 ∙ k) (h p q a b)))

    kid_before : (i j : ℕ) → Kids i → Later j → Precedes patterns at i j
    unfolding Precedes
    kid_before i j f g = λ p q a b.
        let x = kid_segs i p f.0 a in
        ⊎_elim
        (λ g. let y = one_segs j q g.0 b in ahead_at p q at (Literal part ∷ x.0) (One y.0 ∷ y.1) x.1 y.2 (literal_one (relation_of_methods p.method q.method) part y.0 x.0 y.1))
        (λ g. let y = rest_segs j q g.0 b in ahead_at p q at (Literal part ∷ x.0) (Rest y.0 ∷ y.1) x.1 y.2 (literal_rest (relation_of_methods p.method q.method) part y.0 x.0 y.1))
        g

    one_before : (i j : ℕ) → Ones i → Rests j → Precedes patterns at i j
    unfolding Precedes
    one_before i j f g = λ p q a b.
        let x = one_segs i p f.0 a in
        let y = rest_segs j q g.0 b in
        ahead_at p q at (One x.0 ∷ x.1) (Rest y.0 ∷ y.1) x.2 y.2 (one_rest (relation_of_methods p.method q.method) x.0 y.0 x.1 y.1)

    pub by_kid : (i : ℕ) → First Kids (Precedes patterns (at + 1)) (Some i) → IsFirst patterns numbers at method (part ∷ parts) slash (Some i)
    by_kid i h =
        from_first patterns numbers at method (part ∷ parts) slash (Some i)
        (found_first Each Kids Later (Precedes patterns (at + 1)) (Precedes patterns at) (Precedes patterns at) split i back_kid (λ j f g k. kids_same i j f g k) (λ j f g. kid_before i j f g) h)

    later_back : (j : ℕ) → Later j → Each j
    later_back j l = ⊎_elim (λ f. back_one j f) (λ f. back_rest j f) l

    later : (r : Option ℕ) → First Kids (Precedes patterns (at + 1)) None → First Later (Precedes patterns at) r → IsFirst patterns numbers at method (part ∷ parts) slash r
    later r none h =
        from_first patterns numbers at method (part ∷ parts) slash r
        (found_later Each Kids Later (Precedes patterns (at + 1)) (Precedes patterns at) (Precedes patterns at) split r later_back (λ i j f g k. k) none h)

    pub by_one : (i : ℕ) → First Kids (Precedes patterns (at + 1)) None → First Ones (Precedes patterns (at + 1)) (Some i) → IsFirst patterns numbers at method (part ∷ parts) slash (Some i)
    by_one i none h =
        later (Some i) none
        (found_first Later Ones Rests (Precedes patterns (at + 1)) (Precedes patterns at) (Precedes patterns at) (λ j l. l) i (λ j f. inl f) (λ j f g k. ones_same i j f g k) (λ j f g. one_before i j f g) h)

    pub by_rest : (r : Option ℕ) → First Kids (Precedes patterns (at + 1)) None → First Ones (Precedes patterns (at + 1)) None → First Rests (Precedes patterns (at + 1)) r → IsFirst patterns numbers at method (part ∷ parts) slash r
    by_rest r no_kid no_one h =
        later r no_kid
        (found_later Later Ones Rests (Precedes patterns (at + 1)) (Precedes patterns (at + 1)) (Precedes patterns at) (λ j l. l) r (λ j f. inr f) (λ i j f g k. rests_same i j f g k) no_one h)

  -- ---- the path's end, behind a slash

  abbrev Ended : ℕ → Type 0
  Ended = Fitting patterns numbers at method [] true

  abbrev Ends : ℕ → Type 0
  Ends = FittingIn patterns at numbers (3 ∷ []) method [] false

  abbrev Left : ℕ → Type 0
  Left = FittingIn patterns at numbers (4 ∷ []) method [] false

  end_segs : (i : ℕ) (p : Pattern) → InRun patterns at numbers (3 ∷ []) i → IsAt patterns i p → (t : List Seg) × (drop at p.segs.items ≡ End ∷ t)
  end_segs i p c a = end_head (drop at p.segs.items) p.method (key_in patterns at numbers node i p (3 ∷ []) c a)

  left_segs : (i : ℕ) (p : Pattern) → InRun patterns at numbers (4 ∷ []) i → IsAt patterns i p → (name : List ℕ) × (t : List Seg) × (drop at p.segs.items ≡ Rest name ∷ t)
  left_segs i p c a = rest_head (drop at p.segs.items) p.method (key_in patterns at numbers node i p (4 ∷ []) c a)

  pub split_end : (j : ℕ) → Ended j → Ends j ⊎ Left j
  unfolding Fits
  split_end j f =
      let p = f.1.0 in
      let a = f.1.1 in
      ⊎_elim
      (λ x. inl (
        in_key patterns at numbers node j p (3 ∷ []) f.0 a (ap (λ s. first_key (tail_keys s p.method)) x.1),
        (p, a, f.1.2, matched p (at + 1) [] [] false (behind p.segs.items at End x.0 x.1 ∙ end_alone j p x.0 a x.1) refl),
      ))
      (λ x. inr (
        in_key patterns at numbers node j p (4 ∷ []) f.0 a (ap (λ s. first_key (tail_keys s p.method)) x.2),
        (p, a, f.1.2, matched p (at + 1) [] [] false (behind p.segs.items at (Rest x.0) x.1 x.2 ∙ rest_alone j p x.0 x.1 a x.2) refl),
      ))
      (end_heads (drop at p.segs.items) f.1.3)

  pub back_end : (j : ℕ) → Ends j → Ended j
  unfolding Fits
  back_end j f =
      let x = end_segs j f.1.0 f.0 f.1.1 in
      (f.0.0, (f.1.0, f.1.1, f.1.2, matched f.1.0 at (End ∷ x.0) [] true x.1 refl))

  pub back_left : (j : ℕ) → Left j → Ended j
  unfolding Fits
  back_left j f =
      let x = left_segs j f.1.0 f.0 f.1.1 in
      (f.0.0, (f.1.0, f.1.1, f.1.2, matched f.1.0 at (Rest x.0 ∷ x.1) [] true x.2 refl))

  ends_same : (i j : ℕ) → Ends i → Ends j → Precedes patterns (at + 1) i j → Precedes patterns at i j
  unfolding Precedes
  ends_same i j f g h = λ p q a b.
      let x = end_segs i p f.0 a in
      let y = end_segs j q g.0 b in
      let e = end_alone i p x.0 a x.1 in
      let k = end_alone j q y.0 b y.1 in
      ahead_at p q at (End ∷ []) (End ∷ []) (x.1 ∙ ap (λ t. End ∷ t) e) (y.1 ∙ ap (λ t. End ∷ t) k)
      (end_same (relation_of_methods p.method q.method) (ahead_of p q (at + 1) [] [] (behind p.segs.items at End x.0 x.1 ∙ e) (behind q.segs.items at End y.0 y.1 ∙ k) (h p q a b)))

  left_same : (i j : ℕ) → Left i → Left j → Precedes patterns (at + 1) i j → Precedes patterns at i j
  unfolding Precedes
  left_same i j f g h = λ p q a b.
      let x = left_segs i p f.0 a in
      let y = left_segs j q g.0 b in
      let e = rest_alone i p x.0 x.1 a x.2 in
      let k = rest_alone j q y.0 y.1 b y.2 in
      ahead_at p q at (Rest x.0 ∷ []) (Rest y.0 ∷ []) (x.2 ∙ ap (λ t. Rest x.0 ∷ t) e) (y.2 ∙ ap (λ t. Rest y.0 ∷ t) k)
      (rest_same (relation_of_methods p.method q.method) x.0 y.0 (ahead_of p q (at + 1) [] [] (behind p.segs.items at (Rest x.0) x.1 x.2 ∙ e) (behind q.segs.items at (Rest y.0) y.1 y.2 ∙ k) (h p q a b)))

  end_before : (i j : ℕ) → Ends i → Left j → Precedes patterns at i j
  unfolding Precedes
  end_before i j f g = λ p q a b.
      let x = end_segs i p f.0 a in
      let y = left_segs j q g.0 b in
      ahead_at p q at (End ∷ x.0) (Rest y.0 ∷ y.1) x.1 y.2 (end_rest (relation_of_methods p.method q.method) y.0 x.0 y.1)

  pub by_end : (i : ℕ) → First Ends (Precedes patterns (at + 1)) (Some i) → IsFirst patterns numbers at method [] true (Some i)
  by_end i h =
      from_first patterns numbers at method [] true (Some i)
      (found_first Ended Ends Left (Precedes patterns (at + 1)) (Precedes patterns at) (Precedes patterns at) split_end i back_end (λ j f g k. ends_same i j f g k) (λ j f g. end_before i j f g) h)

  pub by_left : (r : Option ℕ) → First Ends (Precedes patterns (at + 1)) None → First Left (Precedes patterns (at + 1)) r → IsFirst patterns numbers at method [] true r
  by_left r none h =
      from_first patterns numbers at method [] true r
      (found_later Ended Ends Left (Precedes patterns (at + 1)) (Precedes patterns (at + 1)) (Precedes patterns at) split_end r back_left (λ i j f g k. left_same i j f g k) none h)
