-- How the sets of requests that two patterns match lie to each other. Everything here is said of all requests.
use Rattle.std.specs.Prelude.{◌≡◌}
use Rattle.gw_pattern.specs.declared.form.Pattern.{Pattern}
use Rattle.gw_sets.specs.declared.relation.Relation.{Relation}
use Rattle.gw_sets.specs.declared.relation.Relation.TheVariants.{Equal, MoreSpecific, MoreGeneral, Disjoint, Overlap}
use Rattle.gw_sets.specs.Shape.{Asked}
use Rattle.gw_sets.specs.Matches.{Requests}

-- each of the first is one of the second
abbrev pub IsWithin : (X : Type 0) (A B : X → Type 0) → Type 0
IsWithin X A B = (x : X) → A x → B x

-- some are of both
abbrev pub DoMeet : (X : Type 0) (A B : X → Type 0) → Type 0
DoMeet X A B = (x : X) × A x × B x

-- some of the first is none of the second
abbrev pub IsBeyond : (X : Type 0) (A B : X → Type 0) → Type 0
IsBeyond X A B = (x : X) × A x × (B x → ⊥)

-- each of the first is one of the second, and some of the second is none of the first
abbrev pub IsBelow : (X : Type 0) (A B : X → Type 0) → Type 0
IsBelow X A B = IsWithin X A B × IsBeyond X B A

abbrev pub IsEqual : (X : Type 0) (A B : X → Type 0) → Type 0
IsEqual X A B = IsWithin X A B × IsWithin X B A

-- none is of both
abbrev pub IsDisjoint : (X : Type 0) (A B : X → Type 0) → Type 0
IsDisjoint X A B = (x : X) → A x → B x → ⊥

-- some are of both, some of the first alone, and some of the second alone
abbrev pub IsOverlap : (X : Type 0) (A B : X → Type 0) → Type 0
IsOverlap X A B = DoMeet X A B × IsBeyond X A B × IsBeyond X B A

-- the relation that is answered is that of the two sets
abbrev pub Holds : (X : Type 0) → Relation → (A B : X → Type 0) → Type 0
Holds X Equal A B = IsEqual X A B
Holds X MoreSpecific A B = IsBelow X A B
Holds X MoreGeneral A B = IsBelow X B A
Holds X Disjoint A B = IsDisjoint X A B
Holds X Overlap A B = IsOverlap X A B

-- equal host bytes, some request is matched by both, and neither matches only a part of what the other matches
abbrev pub Conflicts : Pattern → Pattern → Type 0
Conflicts p q =
    (p.host ≡ q.host)
    × DoMeet Asked (Requests p) (Requests q)
    × (IsBelow Asked (Requests p) (Requests q) → ⊥)
    × (IsBelow Asked (Requests q) (Requests p) → ⊥)
