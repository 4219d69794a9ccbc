-- The requests of two patterns, compared.
use Rattle.std.proofs.Common.{◌≡◌, ◌↔◌, IsTrue, ℕ, Bool, true, false, List, Option, sym, refl, subst}
use Rattle.std.specs.Bool.{MatchBool}
use Rattle.gw_pattern.specs.declared.form.Seg.{Seg}
use Rattle.gw_sets.specs.declared.relation.Relation.{Relation}
use Rattle.gw_sets.specs.declared.relation.Relation.TheVariants.{Equal, MoreSpecific, MoreGeneral, Disjoint, Overlap}
use Rattle.gw_sets.specs.Shape.{Asked, IsShape, AreBytes}
use Rattle.gw_sets.specs.Matches.{MethodMatches, HostMatches, SegsMatch}
use Rattle.gw_sets.specs.Relation.{DoMeet, IsBelow, Holds}
use Rattle.gw_sets.specs.Comparison.{AreMethodBytes, relation_of_methods, relation_of_hosts, relation_of_segs, product, is_ambiguous}
use Rattle.gw_sets.proofs.Products.{Compared, compared_holds, IsProduct, product_compared}
use Rattle.gw_sets.proofs.Parts.{Methods, Hosts, methods_compared, hosts_compared}
use Rattle.gw_sets.proofs.Segments.{HasSegments, Path, Paths, segs_compared}

abbrev pub RequestsOf : Option (List ℕ) → List ℕ → List Seg → Asked → Type 0
RequestsOf method host segs a =
    IsShape a × (MethodMatches method a.method × HostMatches host a.host × SegsMatch segs a.segs a.slash)

-- what stands behind the method
abbrev Target : Type 0
Target = List ℕ × Path

abbrev Targets : List ℕ → List Seg → Target → Type 0
Targets host segs y = Hosts host y.0 × Paths segs y.1

abbrev target : List ℕ → Path → Target
target x y = (x, y)

abbrev asked : List ℕ → Target → Asked
asked x y = record { method = x; host = y.0; segs = y.1.0; slash = y.1.1 }

target_product : (host : List ℕ) (segs : List Seg) → IsProduct (List ℕ) Path Target target (Hosts host) (Paths segs) (Targets host segs)
target_product host segs = record {
  into = λ x y a c. (a, c);
  out = λ x y h. h;
  parts = λ z h. (z.0, z.1, refl, h.0, h.1);
}

request_product : (method : Option (List ℕ)) (host : List ℕ) (segs : List Seg) → IsProduct (List ℕ) Target Asked asked (Methods method) (Targets host segs) (RequestsOf method host segs)
request_product method host segs = record {
  into = λ x y a c. ((a.0, c.0.0, c.1.0), (a.1, c.0.1, c.1.1));
  out = λ x y h. ((h.0.0, h.1.0), ((h.0.1, h.1.1), (h.0.2, h.1.2)));
  parts = λ z h. (z.method, (z.host, (z.segs, z.slash)), refl, (h.0.0, h.1.0), ((h.0.1, h.1.1), (h.0.2, h.1.2)));
}

abbrev pub whole_relation : Option (List ℕ) → Option (List ℕ) → List ℕ → List ℕ → List Seg → List Seg → Relation
whole_relation m n g h p q = product (relation_of_methods m n) (product (relation_of_hosts g h) (relation_of_segs p q))

pub requests_compared : (m n : Option (List ℕ)) (g h : List ℕ) (p q : List Seg) → AreMethodBytes m → AreMethodBytes n → AreBytes g → AreBytes h → HasSegments p → HasSegments q → Compared Asked (RequestsOf m g p) (RequestsOf n h q) (whole_relation m n g h p q)
requests_compared m n g h p q a b c d e f =
    product_compared (List ℕ) Target Asked asked (Methods m) (Methods n) (Targets g p) (Targets h q) (RequestsOf m g p) (RequestsOf n h q) (request_product m g p) (request_product n h q)
    (relation_of_methods m n) (product (relation_of_hosts g h) (relation_of_segs p q)) (methods_compared m n a b)
    (product_compared (List ℕ) Path Target target (Hosts g) (Hosts h) (Paths p) (Paths q) (Targets g p) (Targets h q) (target_product g p) (target_product h q)
    (relation_of_hosts g h) (relation_of_segs p q) (hosts_compared g h c d) (segs_compared p q e f))

-- ---- conflict

-- they meet, and neither is only a part of the other
abbrev pub Ambiguous : (X : Type 0) (A B : X → Type 0) → Type 0
Ambiguous X A B = DoMeet X A B × (IsBelow X A B → ⊥) × (IsBelow X B A → ⊥)

-- what the caller of the comparison knows: the answer fits the two sets
pub ambiguous_held : (X : Type 0) (A B : X → Type 0) (r : Relation) → (x : X) × A x → (x : X) × B x → Holds X r A B → MatchBool (is_ambiguous r) (Ambiguous X A B) (Ambiguous X A B → ⊥)
ambiguous_held X A B Equal a b h = ((a.0, a.1, h.0 a.0 a.1), λ k. k.1.2 (h.1 k.1.0 k.1.1), λ k. k.1.2 (h.0 k.1.0 k.1.1))
ambiguous_held X A B MoreSpecific a b h = λ k. k.1 h
ambiguous_held X A B MoreGeneral a b h = λ k. k.2 h
ambiguous_held X A B Disjoint a b h = λ k. h k.0.0 k.0.1 k.0.2
ambiguous_held X A B Overlap a b h = (h.0, λ k. h.1.2 (k.0 h.1.0 h.1.1), λ k. h.2.2 (k.0 h.2.0 h.2.1))

-- the answer fits the two sets, of which neither is empty
pub record Answered (X : Type 0) (A B : X → Type 0) (r : Relation) : Type 0 where
  pub relation : Holds X r A B
  pub first : (x : X) × A x
  pub second : (x : X) × B x

pub requests_answered : (m n : Option (List ℕ)) (g h : List ℕ) (p q : List Seg) (r : Relation) → r ≡ whole_relation m n g h p q → AreMethodBytes m → AreMethodBytes n → AreBytes g → AreBytes h → HasSegments p → HasSegments q → Answered Asked (RequestsOf m g p) (RequestsOf n h q) r
requests_answered m n g h p q r e a b c d f k =
    let known = requests_compared m n g h p q a b c d f k in
    record {
      relation = subst (λ s. Holds Asked s (RequestsOf m g p) (RequestsOf n h q)) (sym e) (compared_holds Asked (RequestsOf m g p) (RequestsOf n h q) (whole_relation m n g h p q) known);
      first = known.first;
      second = known.second;
    }

abbrev pub ConflictsOf : Option (List ℕ) → Option (List ℕ) → List ℕ → List ℕ → List Seg → List Seg → Type 0
ConflictsOf m n g h p q =
    (g ≡ h) × DoMeet Asked (RequestsOf m g p) (RequestsOf n h q)
    × (IsBelow Asked (RequestsOf m g p) (RequestsOf n h q) → ⊥)
    × (IsBelow Asked (RequestsOf n h q) (RequestsOf m g p) → ⊥)

conflict_by : (m n : Option (List ℕ)) (g h : List ℕ) (p q : List Seg) (b : Bool) → g ≡ h → MatchBool b (Ambiguous Asked (RequestsOf m g p) (RequestsOf n h q)) (Ambiguous Asked (RequestsOf m g p) (RequestsOf n h q) → ⊥) → IsTrue b ↔ ConflictsOf m n g h p q
conflict_by m n g h p q true same a = (λ t. (same, a.0, a.1, a.2), λ t. refl)
conflict_by m n g h p q false same a = (λ t. let differ : false ≡ true = t in cc, λ t. absurd (a (t.1, t.2, t.3)))

-- whether two conflict, once they are compared and their hosts are the same
pub conflict_when_same : (m n : Option (List ℕ)) (g h : List ℕ) (p q : List Seg) (r : Relation) (b : Bool) → b ≡ is_ambiguous r → g ≡ h → Answered Asked (RequestsOf m g p) (RequestsOf n h q) r → IsTrue b ↔ ConflictsOf m n g h p q
conflict_when_same m n g h p q r b e same a =
    let settled = ambiguous_held Asked (RequestsOf m g p) (RequestsOf n h q) r a.first a.second a.relation in
    subst (λ c. IsTrue c ↔ ConflictsOf m n g h p q) (sym e) (conflict_by m n g h p q (is_ambiguous r) same settled)
