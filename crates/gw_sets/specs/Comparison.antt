-- What the private steps of matching and of the comparison answer.
use Rattle.std.specs.Prelude.{ℕ, Bool, true, false, not, ◌&&◌, ◌||◌, List, [], ◌∷◌, Option, Some, None, codes, bytes_eq, if◌then◌else◌}
use Rattle.std.specs.Borrow.{Bor}
use Rattle.gw_pattern.specs.declared.form.Seg.{Seg}
use Rattle.gw_pattern.specs.declared.form.Seg.TheVariants.{Literal, One, Rest, End}
use Rattle.gw_sets.specs.declared.relation.Relation.{Relation}
use Rattle.gw_sets.specs.declared.relation.Relation.TheVariants.{Equal, MoreSpecific, MoreGeneral, Disjoint, Overlap}
use Rattle.gw_sets.specs.Shape.{AreBytes}

-- ---- matching

abbrev pub is_get : List ℕ → Bool
is_get method = bytes_eq method (codes "GET")

abbrev pub is_head : List ℕ → Bool
is_head method = bytes_eq method (codes "HEAD")

abbrev pub matches_method : Option (List ℕ) → List ℕ → Bool
matches_method None asked = true
matches_method (Some method) asked = bytes_eq asked method || is_get method && is_head asked

abbrev pub matches_host : List ℕ → List ℕ → Bool
matches_host host asked = bytes_eq host [] || bytes_eq asked host

-- the segment takes all that is left of a path
abbrev pub is_last : Seg → Bool
is_last (Literal bytes) = false
is_last (One name) = false
is_last (Rest name) = true
is_last End = true

-- the segment takes that part of a path, and leaves what follows
abbrev pub takes : Seg → List ℕ → Bool
takes (Literal bytes) part = bytes_eq part bytes
takes (One name) part = true
takes (Rest name) part = false
takes End part = false

abbrev pub matches_segs : List Seg → List (List ℕ) → Bool → Bool
matches_segs [] [] slash = not slash
matches_segs [] (part ∷ parts) slash = false
matches_segs (End ∷ segs) [] slash = slash
matches_segs (End ∷ segs) (part ∷ parts) slash = false
matches_segs (Rest name ∷ segs) [] slash = slash
matches_segs (Rest name ∷ segs) (part ∷ parts) slash = true
matches_segs (Literal bytes ∷ segs) [] slash = false
matches_segs (Literal bytes ∷ segs) (part ∷ parts) slash = if bytes_eq part bytes then matches_segs segs parts slash else false
matches_segs (One name ∷ segs) [] slash = false
matches_segs (One name ∷ segs) (part ∷ parts) slash = matches_segs segs parts slash

-- ---- the relation

-- the relation of two sets of pairs, of the relations of what their first and their second parts are
abbrev pub product : Relation → Relation → Relation
product Equal second = second
product Disjoint second = Disjoint
product MoreSpecific Equal = MoreSpecific
product MoreSpecific MoreSpecific = MoreSpecific
product MoreSpecific Disjoint = Disjoint
product MoreSpecific second = Overlap
product MoreGeneral Equal = MoreGeneral
product MoreGeneral MoreGeneral = MoreGeneral
product MoreGeneral Disjoint = Disjoint
product MoreGeneral second = Overlap
product Overlap Disjoint = Disjoint
product Overlap second = Overlap

-- the bytes of a method, if there is one
abbrev pub bytes_of : Option (Bor (List ℕ)) → Option (List ℕ)
bytes_of None = None
bytes_of (Some method) = Some method.now

abbrev pub AreMethodBytes : Option (List ℕ) → Type 0
AreMethodBytes None = Unit {0}
AreMethodBytes (Some method) = AreBytes method

abbrev pub relation_of_named : List ℕ → List ℕ → Relation
relation_of_named p q =
    if bytes_eq p q then Equal
    else (if is_get p && is_head q then MoreGeneral
    else (if is_head p && is_get q then MoreSpecific
    else Disjoint))

abbrev pub relation_of_methods : Option (List ℕ) → Option (List ℕ) → Relation
relation_of_methods None None = Equal
relation_of_methods None (Some q) = MoreGeneral
relation_of_methods (Some p) None = MoreSpecific
relation_of_methods (Some p) (Some q) = relation_of_named p q

abbrev pub relation_of_hosts : List ℕ → List ℕ → Relation
relation_of_hosts p q =
    if bytes_eq p q then Equal
    else (if bytes_eq p [] then MoreGeneral
    else (if bytes_eq q [] then MoreSpecific
    else Disjoint))

-- of what two segments take: a part of the path, or all that is left of it
abbrev pub relation_of_two : Seg → Seg → Relation
relation_of_two (Literal p) (Literal q) = if bytes_eq p q then Equal else Disjoint
relation_of_two (Literal p) (One q) = MoreSpecific
relation_of_two (Literal p) (Rest q) = MoreSpecific
relation_of_two (Literal p) End = Disjoint
relation_of_two (One p) (Literal q) = MoreGeneral
relation_of_two (One p) (One q) = Equal
relation_of_two (One p) (Rest q) = MoreSpecific
relation_of_two (One p) End = Disjoint
relation_of_two (Rest p) (Literal q) = MoreGeneral
relation_of_two (Rest p) (One q) = MoreGeneral
relation_of_two (Rest p) (Rest q) = Equal
relation_of_two (Rest p) End = MoreGeneral
relation_of_two End (Literal q) = Disjoint
relation_of_two End (One q) = Disjoint
relation_of_two End (Rest q) = MoreSpecific
relation_of_two End End = Equal

abbrev pub relation_of_segs : List Seg → List Seg → Relation
relation_of_segs [] [] = Equal
relation_of_segs [] (t ∷ q) = Disjoint
relation_of_segs (s ∷ p) [] = Disjoint
relation_of_segs (s ∷ p) (t ∷ q) =
    if is_last s || is_last t then relation_of_two s t else product (relation_of_two s t) (relation_of_segs p q)

-- neither set lies within the other as a part of it, and they meet
abbrev pub is_ambiguous : Relation → Bool
is_ambiguous Equal = true
is_ambiguous MoreSpecific = false
is_ambiguous MoreGeneral = false
is_ambiguous Disjoint = false
is_ambiguous Overlap = true

abbrev pub is_disjoint : Relation → Bool
is_disjoint Equal = false
is_disjoint MoreSpecific = false
is_disjoint MoreGeneral = false
is_disjoint Disjoint = true
is_disjoint Overlap = false
