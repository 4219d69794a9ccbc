-- The first pattern that the walk from a host's node meets is the most specific.
use Rattle.std.proofs.Common.{◌≡◌, ◌≢◌, ℕ, ◌<◌, Bool, true, false, List, [], ◌∷◌, length, drop, All, bytes_eq, if◌then◌else◌, Option, Some, None, Contains, codes, ⊎_elim, lit<, sym, refl, ap, subst, ◌∙◌}
use Rattle.std.specs.Bool.{MatchBool}
use Rattle.std.proofs.lemmas.List.Elements.{All-nil, All-cons}
use Rattle.std.proofs.lemmas.Slice.Eq.{bytes_eq-Decides}
use Rattle.gw_pattern.specs.declared.form.Pattern.{Pattern}
use Rattle.gw_pattern.specs.Pattern.{IsWellFormed}
use Rattle.gw_sets.specs.declared.relation.Relation.TheVariants.{Equal, MoreSpecific, MoreGeneral, Disjoint}
use Rattle.gw_sets.specs.Comparison.{AreMethodBytes, product, relation_of_hosts, relation_of_methods, relation_of_segs}
use Rattle.gw_sets.specs.Matches.{Matches, MethodMatches, Requests}
use Rattle.gw_sets.specs.Relation.{IsBelow, Conflicts}
use Rattle.gw_sets.specs.Shape.{AreBytes, Asked, IsShape}
use Rattle.gw_sets.proofs.Requests.{whole_relation}
use Rattle.gw_mux.specs.Best.{IsChosen, is_more_general}
use Rattle.gw_mux.specs.Decision.{DoesTake, IsMoreSpecific}
use Rattle.gw_mux.specs.Found.{Fits, IsFirst, IsNode, Precedes}
use Rattle.gw_mux.specs.Keys.{first_key, host_key, keys_there}
use Rattle.gw_mux.specs.Order.{IsOrder, IsRun}
use Rattle.gw_mux.specs.Table.{IsAt, DoConflict, HasNoConflict, IsProper, IsTable}
use Rattle.gw_mux.proofs.Heads.{formed_at, same_rest}
use Rattle.gw_mux.proofs.Lawful.{apart_numbers, compared}
use Rattle.gw_mux.proofs.Chosen.{own_host}
use Rattle.gw_mux.proofs.Orders.{ordered, specific_at, take_within}

-- ---- what matches a shape is bytes

get_bytes : AreBytes (codes "GET")
get_bytes = All-cons (λ b. b < 256) 71 (69 ∷ 84 ∷ []) (lit< tt) (All-cons (λ b. b < 256) 69 (84 ∷ []) (lit< tt) (All-cons (λ b. b < 256) 84 [] (lit< tt) (All-nil (λ b. b < 256))))

method_bytes : (own : Option (List ℕ)) (asked : List ℕ) → AreBytes asked → MethodMatches own asked → AreMethodBytes own
method_bytes None asked b m = tt
method_bytes (Some own) asked b m = ⊎_elim (λ e. subst AreBytes e b) (λ e. subst AreBytes (sym e.0) get_bytes) m

proper_from : (patterns : List Pattern) (a : Asked) (i : ℕ) (p : Pattern) → All IsWellFormed patterns → IsShape a → IsAt patterns i p → (p.host ≡ a.host) × Matches p a → IsProper p
proper_from patterns a i p formed shape at m = record {
  method = method_bytes p.method a.method shape.0 m.1.0;
  host = subst AreBytes (sym m.0) shape.1;
  segs = formed_at patterns i p formed at;
}

-- ---- the relation of two of them

conflict_back : (p q : Pattern) → Conflicts p q → Conflicts q p
conflict_back p q c = (sym c.0, (c.1.0, c.1.2, c.1.1), c.3, c.2)

no_conflict : (patterns : List Pattern) (i j : ℕ) (p q : Pattern) → HasNoConflict patterns → IsAt patterns i p → IsAt patterns j q → i ≢ j → Conflicts p q → ⊥
unfolding DoConflict
no_conflict patterns i j p q apart a b ne c =
    ⊎_elim (λ lt. apart i j (lt, p, q, a, b, c)) (λ lt. apart j i (lt, q, p, b, a, conflict_back p q c)) (apart_numbers i j ne)

same_bytes_host : (g : List ℕ) → relation_of_hosts g g ≡ Equal
same_bytes_host g = ap (λ b. if b then Equal else (if bytes_eq g [] then MoreGeneral else (if bytes_eq g [] then MoreSpecific else Disjoint))) ((bytes_eq-Decides g g).1 refl)

hosts_equal : (g h : List ℕ) → g ≡ h → relation_of_hosts g h ≡ Equal
hosts_equal g h e = subst (λ x. relation_of_hosts g x ≡ Equal) e (same_bytes_host g)

whole_ahead : (p q : Pattern) → p.host ≡ q.host → is_more_general (product (relation_of_methods p.method q.method) (relation_of_segs p.segs.items q.segs.items)) ≡ false → is_more_general (whole_relation p.method q.method p.host q.host p.segs.items q.segs.items) ≡ false
whole_ahead p q e h =
    ap (λ r. is_more_general (product (relation_of_methods p.method q.method) (product r (relation_of_segs p.segs.items q.segs.items)))) (hosts_equal p.host q.host e) ∙ h

below_by : (b : Bool) (A B : Type 0) → b ≡ false → MatchBool b A B → B
below_by true A B e h = absurd (cc)
below_by false A B e h = h

specific : (patterns : List Pattern) (a : Asked) (i j : ℕ) (p q : Pattern) → IsTable patterns → IsShape a → IsAt patterns i p → IsAt patterns j q → (p.host ≡ a.host) × Matches p a → (q.host ≡ a.host) × Matches q a → i ≢ j → is_more_general (product (relation_of_methods p.method q.method) (relation_of_segs p.segs.items q.segs.items)) ≡ false → IsMoreSpecific patterns i j
specific patterns a i j p q table shape at at' m n ne h =
    let r = whole_relation p.method q.method p.host q.host p.segs.items q.segs.items in
    let holds = compared p q (proper_from patterns a i p table.listed.formed shape at m) (proper_from patterns a j q table.listed.formed shape at' n) in
    let e : p.host ≡ q.host = m.0 ∙ sym n.0 in
    let known = ordered p q r a holds (shape, m.1) (shape, n.1) e (no_conflict patterns i j p q table.apart at at' ne) in
    specific_at patterns i j p q at at' (below_by (is_more_general r) (IsBelow Asked (Requests q) (Requests p)) (IsBelow Asked (Requests p) (Requests q)) (whole_ahead p q e h) known)

-- ---- the node of a host

module _ (patterns : List Pattern) (a : Asked) (order roots : List ℕ) (is_order : IsOrder patterns order) (is : IsRun patterns 0 (host_key a.host) order roots) where
  pub host_node : IsNode patterns 0 roots
  host_node = record {
    sorted = is.sorted;
    branches = λ i p c at. ap (λ o. drop 1 (keys_there o)) at;
    there = λ i c. (is_order.all i).0 (is.within i c).0;
  }

  takes_of : (j : ℕ) → Contains roots j → Fits patterns 0 a.method a.segs a.slash j → DoesTake patterns a a.host j
  unfolding Fits DoesTake
  takes_of j c f =
      let e : host_key f.0.host ≡ host_key a.host = sym (ap (λ o. first_key (keys_there o)) f.1) ∙ (is.within j c).1 in
      let same = same_rest 7 7 f.0.host a.host e in
      (f.0, f.1, same, (f.2, own_host f.0.host a.host same, f.3))

  fits_of : (j : ℕ) → DoesTake patterns a a.host j → Contains roots j × Fits patterns 0 a.method a.segs a.slash j
  unfolding Fits DoesTake
  fits_of j t =
      (is.all j ((is_order.all j).1 (take_within patterns a a.host j t)) (ap (λ o. first_key (keys_there o)) t.1 ∙ ap host_key t.2), (t.0, t.1, t.3.0, t.3.2))

  first_specific : (i j : ℕ) → IsTable patterns → IsShape a → DoesTake patterns a a.host i → DoesTake patterns a a.host j → j ≢ i → Precedes patterns 0 i j → IsMoreSpecific patterns i j
  unfolding DoesTake Precedes
  first_specific i j table shape t u ne h =
      specific patterns a i j t.0 u.0 table shape t.1 u.1 (t.2, t.3) (u.2, u.3) (λ e. ne (sym e)) (h t.0 u.0 t.1 u.1)

  pub first_chosen : (r : Option ℕ) → IsTable patterns → IsShape a → IsFirst patterns roots 0 a.method a.segs a.slash r → IsChosen patterns a (length patterns) r
  first_chosen None table shape h = λ j lt t. let f = fits_of j t in h j f.0 f.1
  first_chosen (Some i) table shape h =
      let t = takes_of i h.0 h.1 in
      (take_within patterns a a.host i t, t, λ j lt u ne. let f = fits_of j u in first_specific i j table shape t u ne (h.2 j f.0 f.1))
