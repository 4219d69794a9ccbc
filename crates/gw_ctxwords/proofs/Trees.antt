-- The way up from a node ends, and isn't long.
use Rattle.std.proofs.Common.{◌≡◌, ◌⊎◌, ℕ, zero, suc, ◌+◌, ◌<◌, ◌≤◌, Bool, true, true≢false, List, [], ◌∷◌, ◌++◌, length, slice_index, get_or, if◌then◌else◌, refl, sym, ap, ◌∙◌, subst, ⊎_elim, inl, inr, arith, length-append, append_assoc, append-nil}
use Rattle.std.proofs.Math.Seq.{get_or-append_seam}
use Rattle.std.proofs.lemmas.Bool.{cases_lt, and_parts, ltb-true, leb-true}
use Rattle.std.proofs.lemmas.List.{get_or_append_left}
use Rattle.gw_ctxwords.specs.declared.nodes.NodeSpec.{NodeSpec}
use Rattle.gw_ctxwords.specs.Nodes.{root_spec, spec_at, parent_of, IsTied, Climbs, Under, most_steps, depth_behind, fits_behind, is_forest}

-- the depths of the first nodes
record Deep (nodes : List NodeSpec) (depths : List ℕ) : Type 0 where
  lower : (i : ℕ) → 0 < i → i < length depths → parent_of nodes i < i
  few : (i : ℕ) → i < length depths → slice_index depths i ≤ most_steps
  steps : (i : ℕ) → i < length depths → IsTied nodes i → slice_index depths i ≡ 1 + slice_index depths (parent_of nodes i)

depth_tied : (depths : List ℕ) (node : NodeSpec) → node.tied ≡ true → depth_behind depths node ≡ 1 + slice_index depths node.parent
depth_tied depths node tied = ap (λ (b : Bool). if b then 1 + slice_index depths node.parent else 0) tied

deep_more : (nodes : List NodeSpec) (depths : List ℕ) (node : NodeSpec) → spec_at nodes (length depths) ≡ node → node.parent < length depths → depth_behind depths node ≤ most_steps
    → Deep nodes depths → Deep nodes (depths ++ depth_behind depths node ∷ [])
deep_more nodes depths node here below few deep =
    let d : ℕ = depth_behind depths node in
    let more : List ℕ = depths ++ d ∷ [] in
    let longer : length more ≡ length depths + 1 = length-append depths (d ∷ []) in
    let old : (i : ℕ) → i < length depths → slice_index more i ≡ slice_index depths i = λ i lt. get_or_append_left depths (d ∷ []) 0 i lt in
    let new : slice_index more (length depths) ≡ d = get_or-append_seam depths d [] 0 in
    let parent : parent_of nodes (length depths) ≡ node.parent = ap (λ (n : NodeSpec). n.parent) here in
    let last : (i : ℕ) → i < length more → (i < length depths) ⊎ (i ≡ length depths) = λ i lt. ⊎_elim (λ (a : i < length depths). inl a) (λ (b : length depths ≤ i). inr (omega arith)) (cases_lt i (length depths)) in
    record {
      lower = λ i some lt. ⊎_elim (λ (a : i < length depths). deep.lower i some a) (λ (b : i ≡ length depths). subst (λ k. parent_of nodes k < k) (sym b) (omega (arith, parent))) (last i lt);
      few = λ i lt. ⊎_elim (λ (a : i < length depths). let f = deep.few i a in let o = old i a in omega arith) (λ (b : i ≡ length depths). subst (λ k. slice_index more k ≤ most_steps) (sym b) (omega (arith, new))) (last i lt);
      steps = λ i lt tied. ⊎_elim
          (λ (a : i < length depths).
          let low = deep.lower i tied.0 a in
          let s = deep.steps i a tied in
          let o = old i a in
          let p = old (parent_of nodes i) (omega arith) in
          omega arith)
          (λ (b : i ≡ length depths).
          let is : node.tied ≡ true = ap (λ (n : NodeSpec). n.tied) (sym here) ∙ subst (λ k. (spec_at nodes k).tied ≡ true) b tied.1 in
          let p : slice_index more (parent_of nodes i) ≡ slice_index depths node.parent = ap (λ k. slice_index more (parent_of nodes k)) b ∙ ap (λ k. slice_index more k) parent ∙ old node.parent below in
          ap (λ k. slice_index more k) b ∙ new ∙ depth_tied depths node is ∙ ap (λ k. 1 + k) (sym p))
          (last i lt);
    }

fits_deep : (nodes front rest : List NodeSpec) (depths : List ℕ) → nodes ≡ front ++ rest → length front ≡ length depths → Deep nodes depths → fits_behind depths rest ≡ true
    → (full : List ℕ) × (length full ≡ length nodes) × Deep nodes full
fits_deep nodes front [] depths is same deep fits = (depths, sym same ∙ ap (λ (l : List NodeSpec). length l) (sym (is ∙ append-nil front)), deep)
fits_deep nodes front (node ∷ rest) depths is same deep fits =
    let parts = and_parts _ _ fits in
    let first = and_parts _ _ parts.0 in
    let d : ℕ = depth_behind depths node in
    let here : spec_at nodes (length depths) ≡ node = ap (λ (l : List NodeSpec). get_or l (length depths) root_spec) is ∙ ap (λ k. get_or (front ++ node ∷ rest) k root_spec) (sym same) ∙ get_or-append_seam front node rest root_spec in
    let more = deep_more nodes depths node here (ltb-true _ _ first.0) (leb-true _ _ first.1) deep in
    fits_deep nodes (front ++ node ∷ []) rest (depths ++ d ∷ []) (is ∙ sym (append_assoc front (node ∷ []) rest))
    (length-append front (node ∷ []) ∙ ap (λ k. k + 1) same ∙ sym (length-append depths (d ∷ []))) more parts.1

deep_root : (nodes : List NodeSpec) → Deep nodes (0 ∷ [])
deep_root nodes = record { lower = λ i some lt. absurd (omega arith); few = few_root; steps = λ i lt tied. absurd (let some = tied.0 in omega arith) }
  where
    few_root : (i : ℕ) → i < length {A = ℕ} (0 ∷ []) → slice_index (0 ∷ []) i ≤ most_steps
    few_root zero lt = omega arith
    few_root (suc i) lt = absurd (omega arith)

depths_of : (nodes : List NodeSpec) → is_forest nodes ≡ true → (full : List ℕ) × (length full ≡ length nodes) × Deep nodes full
depths_of [] forest = absurd (true≢false (sym forest))
depths_of (root ∷ nodes) forest = fits_deep (root ∷ nodes) (root ∷ []) nodes (0 ∷ []) refl refl (deep_root (root ∷ nodes)) (and_parts _ _ forest).1

pub some_node : (nodes : List NodeSpec) → is_forest nodes ≡ true → 0 < length nodes
some_node [] forest = absurd (true≢false (sym forest))
some_node (root ∷ nodes) forest = omega arith

pub parent_lower : (nodes : List NodeSpec) (i : ℕ) → is_forest nodes ≡ true → 0 < i → i < length nodes → parent_of nodes i < i
parent_lower nodes i forest some lt = let all = depths_of nodes forest in let same = all.1 in all.2.lower i some (omega arith)

climbs_few : (nodes : List NodeSpec) (depths : List ℕ) → Deep nodes depths → (steps m n : ℕ) → m < length depths → Climbs nodes steps m n → steps ≤ slice_index depths m
climbs_few nodes depths deep zero m n lt climb = omega arith
climbs_few nodes depths deep (suc steps) m n lt climb =
    let low = deep.lower m climb.0.0 lt in
    let more = deep.steps m lt climb.0 in
    let r = climbs_few nodes depths deep steps (parent_of nodes m) n (omega arith) climb.1 in
    omega arith

pub few_steps : (nodes : List NodeSpec) (steps m n : ℕ) → is_forest nodes ≡ true → m < length nodes → Climbs nodes steps m n → steps ≤ most_steps
few_steps nodes steps m n forest lt climb =
    let all = depths_of nodes forest in
    let same = all.1 in
    let r = climbs_few nodes all.0 all.2 steps m n (omega arith) climb in
    let top = all.2.few m (omega arith) in
    omega arith

-- what is under a node is under what that is under
climbs_on : (nodes : List NodeSpec) (steps l m n : ℕ) → Climbs nodes steps l m → Under nodes n m → Under nodes n l
climbs_on nodes zero l m n first second = subst (Under nodes n) (sym first) second
climbs_on nodes (suc steps) l m n first second = let r = climbs_on nodes steps (parent_of nodes l) m n first.1 second in (suc r.0, (first.0, r.1))

pub under_trans : (nodes : List NodeSpec) (l m n : ℕ) → Under nodes m l → Under nodes n m → Under nodes n l
under_trans nodes l m n first second = climbs_on nodes first.0 l m n first.1 second

pub under_root : (nodes : List NodeSpec) (above : ℕ) → Under nodes above 0 → above ≡ 0
under_root nodes above (zero, is) = sym is
under_root nodes above (suc steps, climb) = absurd (let some = climb.0.0 in omega arith)
