-- The sets of paths that lists of segments match, compared.
use Rattle.std.proofs.Common.{◌≡◌, ℕ, ◌<◌, Bool, true, false, List, [], ◌∷◌, refl, lit<, arith}
use Rattle.std.proofs.lemmas.List.Elements.{All-nil, All-cons}
use Rattle.gw_pattern.specs.declared.form.Seg.{Seg}
use Rattle.gw_pattern.specs.declared.form.Seg.TheVariants.{Literal, One, Rest, End}
use Rattle.gw_pattern.specs.Pattern.{AreWellFormed}
use Rattle.gw_sets.specs.declared.relation.Relation.TheVariants.{Equal, MoreSpecific, MoreGeneral, Disjoint}
use Rattle.gw_sets.specs.Shape.{IsSegment, AreSegments}
use Rattle.gw_sets.specs.Matches.{SegsMatch}
use Rattle.gw_sets.specs.Comparison.{relation_of_two, relation_of_segs}
use Rattle.gw_sets.proofs.Products.{Compared, equal_compared, below_compared, above_compared, apart_compared, IsProduct, product_compared}
use Rattle.gw_sets.proofs.Parts.{longer, single_compared}

-- ---- what the comparison needs of a list: its literals are segments

abbrev pub HasSegments : List Seg → Type 0
HasSegments [] = Unit {0}
HasSegments (Literal bytes ∷ segs) = IsSegment bytes × HasSegments segs
HasSegments (One name ∷ segs) = HasSegments segs
HasSegments (Rest name ∷ segs) = Unit {0}
HasSegments (End ∷ segs) = Unit {0}

pub has_segments : (segs : List Seg) → AreWellFormed segs → HasSegments segs
has_segments [] h = absurd h
has_segments (Literal bytes ∷ []) h = (h, tt)
has_segments (One name ∷ []) h = tt
has_segments (Rest name ∷ []) h = tt
has_segments (End ∷ []) h = tt
has_segments (Literal bytes ∷ next ∷ segs) h = (h.0, has_segments (next ∷ segs) h.1)
has_segments (One name ∷ next ∷ segs) h = has_segments (next ∷ segs) h.1
has_segments (Rest name ∷ next ∷ segs) h = tt
has_segments (End ∷ next ∷ segs) h = tt

-- ---- paths

abbrev pub Path : Type 0
Path = List (List ℕ) × Bool

abbrev pub Paths : List Seg → Path → Type 0
Paths segs z = AreSegments z.0 × SegsMatch segs z.0 z.1

is_segment : IsSegment (97 ∷ [])
is_segment = (lit< tt, All-cons (λ b. b < 256) 97 [] (lit< tt) (All-nil (λ b. b < 256)))

-- a well-formed list matches some path
pub member : (segs : List Seg) → HasSegments segs → (z : Path) × Paths segs z
member [] h = (([], false), (tt, refl))
member (Literal bytes ∷ segs) h =
    let m = member segs h.1 in ((bytes ∷ m.0.0, m.0.1), ((h.0, m.1.0), (refl, m.1.1)))
member (One name ∷ segs) h =
    let m = member segs h in (((97 ∷ []) ∷ m.0.0, m.0.1), ((is_segment, m.1.0), m.1.1))
member (Rest name ∷ segs) h = (([], true), (tt, refl))
member (End ∷ segs) h = (([], true), (tt, refl))

-- ---- segments that take one part

abbrev Exactly : List ℕ → List ℕ → Type 0
Exactly bytes x = IsSegment x × (x ≡ bytes)

abbrev Each : List ℕ → Type 0
Each x = IsSegment x

abbrev join : List ℕ → Path → Path
join x y = (x ∷ y.0, y.1)

literal_parts : (bytes : List ℕ) (segs : List Seg) (parts : List (List ℕ)) (slash : Bool) → Paths (Literal bytes ∷ segs) (parts, slash) → (x : List ℕ) × (y : Path) × (join x y ≡ (parts, slash)) × Exactly bytes x × Paths segs y
literal_parts bytes segs [] slash h = absurd h.1
literal_parts bytes segs (x ∷ parts) slash h = (x, (parts, slash), refl, (h.0.0, h.1.0), (h.0.1, h.1.1))

literal_product : (bytes : List ℕ) (segs : List Seg) → IsProduct (List ℕ) Path Path join (Exactly bytes) (Paths segs) (Paths (Literal bytes ∷ segs))
literal_product bytes segs = record {
  into = λ x y a c. ((a.0, c.0), (a.1, c.1));
  out = λ x y h. ((h.0.0, h.1.0), (h.0.1, h.1.1));
  parts = λ z h. literal_parts bytes segs z.0 z.1 h;
}

one_parts : (name : List ℕ) (segs : List Seg) (parts : List (List ℕ)) (slash : Bool) → Paths (One name ∷ segs) (parts, slash) → (x : List ℕ) × (y : Path) × (join x y ≡ (parts, slash)) × Each x × Paths segs y
one_parts name segs [] slash h = absurd h.1
one_parts name segs (x ∷ parts) slash h = (x, (parts, slash), refl, h.0.0, (h.0.1, h.1))

one_product : (name : List ℕ) (segs : List Seg) → IsProduct (List ℕ) Path Path join Each (Paths segs) (Paths (One name ∷ segs))
one_product name segs = record {
  into = λ x y a c. ((a, c.0), c.1);
  out = λ x y h. (h.0.0, (h.0.1, h.1));
  parts = λ z h. one_parts name segs z.0 z.1 h;
}

literal_below : (bytes : List ℕ) → IsSegment bytes → Compared (List ℕ) (Exactly bytes) Each MoreSpecific
literal_below bytes h =
    below_compared (List ℕ) (Exactly bytes) Each (bytes, (h, refl)) (λ x k. k.0)
    (97 ∷ bytes, (omega arith, All-cons (λ b. b < 256) 97 bytes (lit< tt) h.1), λ k. longer 97 bytes k.1)

literal_above : (bytes : List ℕ) → IsSegment bytes → Compared (List ℕ) Each (Exactly bytes) MoreGeneral
literal_above bytes h =
    above_compared (List ℕ) Each (Exactly bytes) (bytes, (h, refl)) (λ x k. k.0)
    (97 ∷ bytes, (omega arith, All-cons (λ b. b < 256) 97 bytes (lit< tt) h.1), λ k. longer 97 bytes k.1)

each_equal : Compared (List ℕ) Each Each Equal
each_equal = equal_compared (List ℕ) Each Each (97 ∷ [], is_segment) (λ x h. h) (λ x h. h)

-- ---- segments that take all that is left

-- the list begins with a segment that takes one part
abbrev BeginsWithPart : List Seg → Type 0
BeginsWithPart [] = ⊥
BeginsWithPart (Literal bytes ∷ segs) = Unit {0}
BeginsWithPart (One name ∷ segs) = Unit {0}
BeginsWithPart (Rest name ∷ segs) = ⊥
BeginsWithPart (End ∷ segs) = ⊥

none_is_longer : (seg : Seg) (segs : List Seg) (parts : List (List ℕ)) (slash : Bool) → SegsMatch [] parts slash → SegsMatch (seg ∷ segs) parts slash → ⊥
none_is_longer seg segs (x ∷ parts) slash h k = h
none_is_longer (Literal bytes) segs [] slash h k = k
none_is_longer (One name) segs [] slash h k = k
none_is_longer (Rest name) segs [] slash h k = cc
none_is_longer End segs [] slash h k = cc

end_apart : (segs q : List Seg) → BeginsWithPart q → (parts : List (List ℕ)) (slash : Bool) → SegsMatch (End ∷ segs) parts slash → SegsMatch q parts slash → ⊥
end_apart segs [] b parts slash h k = b
end_apart segs (t ∷ q) b (x ∷ parts) slash h k = h
end_apart segs (Literal bytes ∷ q) b [] slash h k = k
end_apart segs (One name ∷ q) b [] slash h k = k
end_apart segs (Rest name ∷ q) b [] slash h k = b
end_apart segs (End ∷ q) b [] slash h k = b

end_same : (p q : List Seg) (parts : List (List ℕ)) (slash : Bool) → SegsMatch (End ∷ p) parts slash → SegsMatch (End ∷ q) parts slash
end_same p q [] slash h = h
end_same p q (x ∷ parts) slash h = h

rest_same : (m n : List ℕ) (p q : List Seg) (parts : List (List ℕ)) (slash : Bool) → SegsMatch (Rest m ∷ p) parts slash → SegsMatch (Rest n ∷ q) parts slash
rest_same m n p q [] slash h = h
rest_same m n p q (x ∷ parts) slash h = tt

end_inside : (n : List ℕ) (p q : List Seg) (parts : List (List ℕ)) (slash : Bool) → SegsMatch (End ∷ p) parts slash → SegsMatch (Rest n ∷ q) parts slash
end_inside n p q [] slash h = h
end_inside n p q (x ∷ parts) slash h = tt

part_inside : (n : List ℕ) (p q : List Seg) → BeginsWithPart p → (parts : List (List ℕ)) (slash : Bool) → SegsMatch p parts slash → SegsMatch (Rest n ∷ q) parts slash
part_inside n [] q b parts slash h = absurd b
part_inside n (s ∷ p) q b (x ∷ parts) slash h = tt
part_inside n (Literal bytes ∷ p) q b [] slash h = absurd h
part_inside n (One name ∷ p) q b [] slash h = absurd h
part_inside n (Rest name ∷ p) q b [] slash h = absurd b
part_inside n (End ∷ p) q b [] slash h = absurd b

-- no part, and a slash
no_part : (p : List Seg) → BeginsWithPart p → SegsMatch p [] true → ⊥
no_part [] b h = b
no_part (Literal bytes ∷ p) b h = h
no_part (One name ∷ p) b h = h
no_part (Rest name ∷ p) b h = b
no_part (End ∷ p) b h = b

ends_apart : (p q : List Seg) → BeginsWithPart q → HasSegments q → Compared Path (Paths (End ∷ p)) (Paths q) Disjoint
ends_apart p q b h =
    apart_compared Path (Paths (End ∷ p)) (Paths q) (([], true), (tt, refl)) (member q h) (λ z k l. end_apart p q b z.0 z.1 k.1 l.1)

apart_ends : (p q : List Seg) → BeginsWithPart p → HasSegments p → Compared Path (Paths p) (Paths (End ∷ q)) Disjoint
apart_ends p q b h =
    apart_compared Path (Paths p) (Paths (End ∷ q)) (member p h) (([], true), (tt, refl)) (λ z k l. end_apart q p b z.0 z.1 l.1 k.1)

rest_above : (n : List ℕ) (p q : List Seg) → BeginsWithPart q → HasSegments q → Compared Path (Paths (Rest n ∷ p)) (Paths q) MoreGeneral
rest_above n p q b h =
    above_compared Path (Paths (Rest n ∷ p)) (Paths q) (member q h) (λ z k. (k.0, part_inside n q p b z.0 z.1 k.1))
    (([], true), (tt, refl), λ k. no_part q b k.1)

rest_below : (n : List ℕ) (p q : List Seg) → BeginsWithPart p → HasSegments p → Compared Path (Paths p) (Paths (Rest n ∷ q)) MoreSpecific
rest_below n p q b h =
    below_compared Path (Paths p) (Paths (Rest n ∷ q)) (member p h) (λ z k. (k.0, part_inside n p q b z.0 z.1 k.1))
    (([], true), (tt, refl), λ k. no_part p b k.1)

-- ---- lists

pub segs_compared : (p q : List Seg) → HasSegments p → HasSegments q → Compared Path (Paths p) (Paths q) (relation_of_segs p q)
segs_compared [] [] h k = equal_compared Path (Paths []) (Paths []) (([], false), (tt, refl)) (λ z m. m) (λ z m. m)
segs_compared [] (t ∷ q) h k =
    apart_compared Path (Paths []) (Paths (t ∷ q)) (([], false), (tt, refl)) (member (t ∷ q) k) (λ z m n. none_is_longer t q z.0 z.1 m.1 n.1)
segs_compared (s ∷ p) [] h k =
    apart_compared Path (Paths (s ∷ p)) (Paths []) (member (s ∷ p) h) (([], false), (tt, refl)) (λ z m n. none_is_longer s p z.0 z.1 n.1 m.1)
segs_compared (Literal b ∷ p) (Literal c ∷ q) h k =
    product_compared (List ℕ) Path Path join (Exactly b) (Exactly c) (Paths p) (Paths q) (Paths (Literal b ∷ p)) (Paths (Literal c ∷ q)) (literal_product b p) (literal_product c q)
    (relation_of_two (Literal b) (Literal c)) (relation_of_segs p q) (single_compared IsSegment b c h.0 k.0) (segs_compared p q h.1 k.1)
segs_compared (Literal b ∷ p) (One n ∷ q) h k =
    product_compared (List ℕ) Path Path join (Exactly b) Each (Paths p) (Paths q) (Paths (Literal b ∷ p)) (Paths (One n ∷ q)) (literal_product b p) (one_product n q)
    MoreSpecific (relation_of_segs p q) (literal_below b h.0) (segs_compared p q h.1 k)
segs_compared (Literal b ∷ p) (Rest n ∷ q) h k = rest_below n (Literal b ∷ p) q tt h
segs_compared (Literal b ∷ p) (End ∷ q) h k = apart_ends (Literal b ∷ p) q tt h
segs_compared (One m ∷ p) (Literal c ∷ q) h k =
    product_compared (List ℕ) Path Path join Each (Exactly c) (Paths p) (Paths q) (Paths (One m ∷ p)) (Paths (Literal c ∷ q)) (one_product m p) (literal_product c q)
    MoreGeneral (relation_of_segs p q) (literal_above c k.0) (segs_compared p q h k.1)
segs_compared (One m ∷ p) (One n ∷ q) h k =
    product_compared (List ℕ) Path Path join Each Each (Paths p) (Paths q) (Paths (One m ∷ p)) (Paths (One n ∷ q)) (one_product m p) (one_product n q)
    Equal (relation_of_segs p q) each_equal (segs_compared p q h k)
segs_compared (One m ∷ p) (Rest n ∷ q) h k = rest_below n (One m ∷ p) q tt h
segs_compared (One m ∷ p) (End ∷ q) h k = apart_ends (One m ∷ p) q tt h
segs_compared (Rest m ∷ p) (Literal c ∷ q) h k = rest_above m p (Literal c ∷ q) tt k
segs_compared (Rest m ∷ p) (One n ∷ q) h k = rest_above m p (One n ∷ q) tt k
segs_compared (Rest m ∷ p) (Rest n ∷ q) h k =
    equal_compared Path (Paths (Rest m ∷ p)) (Paths (Rest n ∷ q)) (([], true), (tt, refl)) (λ z g. (g.0, rest_same m n p q z.0 z.1 g.1)) (λ z g. (g.0, rest_same n m q p z.0 z.1 g.1))
segs_compared (Rest m ∷ p) (End ∷ q) h k =
    above_compared Path (Paths (Rest m ∷ p)) (Paths (End ∷ q)) (([], true), (tt, refl)) (λ z g. (g.0, end_inside m q p z.0 z.1 g.1))
    (((97 ∷ []) ∷ [], true), ((is_segment, tt), tt), λ g. g.1)
segs_compared (End ∷ p) (Literal c ∷ q) h k = ends_apart p (Literal c ∷ q) tt k
segs_compared (End ∷ p) (One n ∷ q) h k = ends_apart p (One n ∷ q) tt k
segs_compared (End ∷ p) (Rest n ∷ q) h k =
    below_compared Path (Paths (End ∷ p)) (Paths (Rest n ∷ q)) (([], true), (tt, refl)) (λ z g. (g.0, end_inside n p q z.0 z.1 g.1))
    (((97 ∷ []) ∷ [], true), ((is_segment, tt), tt), λ g. g.1)
segs_compared (End ∷ p) (End ∷ q) h k =
    equal_compared Path (Paths (End ∷ p)) (Paths (End ∷ q)) (([], true), (tt, refl)) (λ z g. (g.0, end_same p q z.0 z.1 g.1)) (λ z g. (g.0, end_same q p z.0 z.1 g.1))
