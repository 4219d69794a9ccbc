-- A pattern that the walk meets first is not more general.
use Rattle.std.proofs.Common.{◌≡◌, ℕ, true, false, ◌&&◌, List, [], ◌∷◌, Some, None, codes, bytes_eq, if◌then◌else◌, refl, ap, ◌∙◌}
use Rattle.std.proofs.lemmas.Slice.Eq.{bytes_eq-Decides}
use Rattle.gw_pattern.specs.declared.form.Seg.{Seg}
use Rattle.gw_pattern.specs.declared.form.Seg.TheVariants.{Literal, One, Rest, End}
use Rattle.gw_sets.specs.declared.relation.Relation.{Relation}
use Rattle.gw_sets.specs.declared.relation.Relation.TheVariants.{Equal, MoreSpecific, MoreGeneral, Disjoint, Overlap}
use Rattle.gw_sets.specs.Comparison.{is_get, is_head, product, relation_of_methods, relation_of_segs}
use Rattle.gw_mux.specs.Best.{is_more_general}

-- ---- products

second_specific : (r s : Relation) → is_more_general (product r (product MoreSpecific s)) ≡ false
second_specific Equal Equal = refl
second_specific Equal s = refl
second_specific Disjoint s = refl
second_specific r Equal = refl
second_specific r MoreSpecific = refl
second_specific r MoreGeneral = refl
second_specific r Disjoint = refl
second_specific r Overlap = refl

second_more : (r : Relation) → is_more_general (product r MoreSpecific) ≡ false
second_more Equal = refl
second_more Disjoint = refl
second_more r = refl

product_equal : (r : Relation) → product r Equal ≡ r
product_equal Equal = refl
product_equal Disjoint = refl
product_equal r = refl

-- ---- segments

abbrev pub IsAhead : Relation → List Seg → List Seg → Type 0
IsAhead r s t = is_more_general (product r (relation_of_segs s t)) ≡ false

same_bytes : (b : List ℕ) → bytes_eq b b ≡ true
same_bytes b = (bytes_eq-Decides b b).1 refl

pub literal_same : (r : Relation) (b : List ℕ) (s t : List Seg) → IsAhead r s t → IsAhead r (Literal b ∷ s) (Literal b ∷ t)
literal_same r b s t h =
    ap (λ x. is_more_general (product r (product (if x then Equal else Disjoint) (relation_of_segs s t)))) (same_bytes b) ∙ h

pub one_same : (r : Relation) (m n : List ℕ) (s t : List Seg) → IsAhead r s t → IsAhead r (One m ∷ s) (One n ∷ t)
one_same r m n s t h = h

pub rest_same : (r : Relation) (m n : List ℕ) → IsAhead r [] [] → IsAhead r (Rest m ∷ []) (Rest n ∷ [])
rest_same r m n h = h

pub end_same : (r : Relation) → IsAhead r [] [] → IsAhead r (End ∷ []) (End ∷ [])
end_same r h = h

pub literal_one : (r : Relation) (b n : List ℕ) (s t : List Seg) → IsAhead r (Literal b ∷ s) (One n ∷ t)
literal_one r b n s t = second_specific r (relation_of_segs s t)

pub literal_rest : (r : Relation) (b n : List ℕ) (s t : List Seg) → IsAhead r (Literal b ∷ s) (Rest n ∷ t)
literal_rest r b n s t = second_more r

pub one_rest : (r : Relation) (m n : List ℕ) (s t : List Seg) → IsAhead r (One m ∷ s) (Rest n ∷ t)
one_rest r m n s t = second_more r

pub end_rest : (r : Relation) (n : List ℕ) (s t : List Seg) → IsAhead r (End ∷ s) (Rest n ∷ t)
end_rest r n s t = second_more r

-- ---- methods

equal_ahead : (r : Relation) → is_more_general r ≡ false → IsAhead r [] []
equal_ahead r h = ap is_more_general (product_equal r) ∙ h

pub method_same : (m : List ℕ) → IsAhead (relation_of_methods (Some m) (Some m)) [] []
method_same m = equal_ahead (relation_of_methods (Some m) (Some m)) (ap (λ b. is_more_general (if b then Equal else (if is_get m && is_head m then MoreGeneral else (if is_head m && is_get m then MoreSpecific else Disjoint)))) (same_bytes m))

pub method_none : (m : List ℕ) → IsAhead (relation_of_methods (Some m) None) [] []
method_none m = refl

pub none_none : IsAhead (relation_of_methods None None) [] []
none_none = refl

pub head_get : IsAhead (relation_of_methods (Some (codes "HEAD")) (Some (codes "GET"))) [] []
head_get = refl
