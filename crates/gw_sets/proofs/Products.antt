-- What is known of two sets once they are compared, and that it carries over to sets of pairs.
use Rattle.std.proofs.Common.{◌≡◌, Bool, true, false, ◌&&◌, sym, refl, subst}
use Rattle.std.specs.Bool.{MatchBool}
use Rattle.gw_sets.specs.declared.relation.Relation.{Relation}
use Rattle.gw_sets.specs.declared.relation.Relation.TheVariants.{Equal, MoreSpecific, MoreGeneral, Disjoint, Overlap}
use Rattle.gw_sets.specs.Relation.{IsWithin, DoMeet, IsBeyond, IsDisjoint, Holds}
use Rattle.gw_sets.specs.Comparison.{product}

-- ---- three questions to which an answer stands

-- some are of both sets
abbrev pub meet : Relation → Bool
meet Equal = true
meet MoreSpecific = true
meet MoreGeneral = true
meet Disjoint = false
meet Overlap = true

-- the first set lies within the second
abbrev pub is_inside : Relation → Bool
is_inside Equal = true
is_inside MoreSpecific = true
is_inside MoreGeneral = false
is_inside Disjoint = false
is_inside Overlap = false

-- the second set lies within the first
abbrev pub is_around : Relation → Bool
is_around Equal = true
is_around MoreSpecific = false
is_around MoreGeneral = true
is_around Disjoint = false
is_around Overlap = false

-- both sets have members, and each question is settled
pub record Compared (X : Type 0) (A B : X → Type 0) (r : Relation) : Type 0 where
  pub first : (x : X) × A x
  pub second : (x : X) × B x
  pub meeting : MatchBool (meet r) (DoMeet X A B) (IsDisjoint X A B)
  pub inside : MatchBool (is_inside r) (IsWithin X A B) (IsBeyond X A B)
  pub around : MatchBool (is_around r) (IsWithin X B A) (IsBeyond X B A)

pub compared_holds : (X : Type 0) (A B : X → Type 0) (r : Relation) → Compared X A B r → Holds X r A B
compared_holds X A B Equal h = (h.inside, h.around)
compared_holds X A B MoreSpecific h = (h.inside, h.around)
compared_holds X A B MoreGeneral h = (h.around, h.inside)
compared_holds X A B Disjoint h = h.meeting
compared_holds X A B Overlap h = (h.meeting, h.inside, h.around)

-- ---- how the five are made

pub equal_compared : (X : Type 0) (A B : X → Type 0) → (x : X) × A x → IsWithin X A B → IsWithin X B A → Compared X A B Equal
equal_compared X A B a f g = record {
  first = a;
  second = (a.0, f a.0 a.1);
  meeting = (a.0, a.1, f a.0 a.1);
  inside = f;
  around = g;
}

pub below_compared : (X : Type 0) (A B : X → Type 0) → (x : X) × A x → IsWithin X A B → IsBeyond X B A → Compared X A B MoreSpecific
below_compared X A B a f g = record {
  first = a;
  second = (a.0, f a.0 a.1);
  meeting = (a.0, a.1, f a.0 a.1);
  inside = f;
  around = g;
}

pub above_compared : (X : Type 0) (A B : X → Type 0) → (x : X) × B x → IsWithin X B A → IsBeyond X A B → Compared X A B MoreGeneral
above_compared X A B b f g = record {
  first = (b.0, f b.0 b.1);
  second = b;
  meeting = (b.0, f b.0 b.1, b.1);
  inside = g;
  around = f;
}

pub apart_compared : (X : Type 0) (A B : X → Type 0) → (x : X) × A x → (x : X) × B x → IsDisjoint X A B → Compared X A B Disjoint
apart_compared X A B a b f = record {
  first = a;
  second = b;
  meeting = f;
  inside = (a.0, a.1, λ h. f a.0 a.1 h);
  around = (b.0, b.1, λ h. f b.0 h b.1);
}

-- ---- sets of pairs

-- the members of P are the pairs of a member of A and one of C
pub record IsProduct (X Y Z : Type 0) (pair : X → Y → Z) (A : X → Type 0) (C : Y → Type 0) (P : Z → Type 0) : Type 0 where
  pub into : (x : X) (y : Y) → A x → C y → P (pair x y)
  pub out : (x : X) (y : Y) → P (pair x y) → A x × C y
  pub parts : (z : Z) → P z → (x : X) × (y : Y) × (pair x y ≡ z) × A x × C y

module _ (X Y Z : Type 0) (pair : X → Y → Z) (A B : X → Type 0) (C D : Y → Type 0) (P Q : Z → Type 0) (p : IsProduct X Y Z pair A C P) (q : IsProduct X Y Z pair B D Q) where
  pub both_meet : (m n : Bool) → MatchBool m (DoMeet X A B) (IsDisjoint X A B) → MatchBool n (DoMeet Y C D) (IsDisjoint Y C D) → MatchBool (m && n) (DoMeet Z P Q) (IsDisjoint Z P Q)
  both_meet true true f g = (pair f.0 g.0, p.into f.0 g.0 f.1 g.1, q.into f.0 g.0 f.2 g.2)
  both_meet true false f g =
      λ z h k. let s = p.parts z h in let t = q.out s.0 s.1 (subst Q (sym s.2) k) in g s.1 s.4 t.1
  both_meet false n f g =
      λ z h k. let s = p.parts z h in let t = q.out s.0 s.1 (subst Q (sym s.2) k) in f s.0 s.3 t.0

  pub both_inside : (x : X) × A x → (y : Y) × C y → (m n : Bool) → MatchBool m (IsWithin X A B) (IsBeyond X A B) → MatchBool n (IsWithin Y C D) (IsBeyond Y C D) → MatchBool (m && n) (IsWithin Z P Q) (IsBeyond Z P Q)
  both_inside a c true true f g =
      λ z h. let s = p.parts z h in subst Q s.2 (q.into s.0 s.1 (f s.0 s.3) (g s.1 s.4))
  both_inside a c true false f g = (pair a.0 g.0, p.into a.0 g.0 a.1 g.1, λ k. g.2 (q.out a.0 g.0 k).1)
  both_inside a c false n f g = (pair f.0 c.0, p.into f.0 c.0 f.1 c.1, λ k. f.2 (q.out f.0 c.0 k).0)

meet-product : (r s : Relation) → meet (product r s) ≡ (meet r && meet s)
meet-product Equal s = refl
meet-product r Equal = refl
meet-product r s = refl

is_inside-product : (r s : Relation) → is_inside (product r s) ≡ (is_inside r && is_inside s)
is_inside-product Equal s = refl
is_inside-product r Equal = refl
is_inside-product r s = refl

is_around-product : (r s : Relation) → is_around (product r s) ≡ (is_around r && is_around s)
is_around-product Equal s = refl
is_around-product r Equal = refl
is_around-product r s = refl

pub product_compared : (X Y Z : Type 0) (pair : X → Y → Z) (A B : X → Type 0) (C D : Y → Type 0) (P Q : Z → Type 0) (p : IsProduct X Y Z pair A C P) (q : IsProduct X Y Z pair B D Q) (r s : Relation) → Compared X A B r → Compared Y C D s → Compared Z P Q (product r s)
product_compared X Y Z pair A B C D P Q p q r s f g = record {
  first = (pair f.first.0 g.first.0, p.into f.first.0 g.first.0 f.first.1 g.first.1);
  second = (pair f.second.0 g.second.0, q.into f.second.0 g.second.0 f.second.1 g.second.1);
  meeting = subst (λ b. MatchBool b (DoMeet Z P Q) (IsDisjoint Z P Q)) (sym (meet-product r s)) (both_meet X Y Z pair A B C D P Q p q (meet r) (meet s) f.meeting g.meeting);
  inside = subst (λ b. MatchBool b (IsWithin Z P Q) (IsBeyond Z P Q)) (sym (is_inside-product r s)) (both_inside X Y Z pair A B C D P Q p q f.first g.first (is_inside r) (is_inside s) f.inside g.inside);
  around = subst (λ b. MatchBool b (IsWithin Z Q P) (IsBeyond Z Q P)) (sym (is_around-product r s)) (both_inside X Y Z pair B A D C Q P q p f.second g.second (is_around r) (is_around s) f.around g.around);
}

-- ---- the product as the code folds it

pub product-assoc : (r s t : Relation) → product (product r s) t ≡ product r (product s t)
product-assoc Equal s t = refl
product-assoc Disjoint s t = refl
product-assoc r Equal t = refl
product-assoc r Disjoint t = refl
product-assoc r s Equal = refl
product-assoc r s t = refl

pub product-disjoint : (r : Relation) → product r Disjoint ≡ Disjoint
product-disjoint Equal = refl
product-disjoint r = refl
