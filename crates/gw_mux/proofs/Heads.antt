-- The first of the segments that are left, by the key of its branch.
use Rattle.std.proofs.Common.{◌≡◌, ℕ, zero, suc, ◌+◌, Bool, true, false, List, [], ◌∷◌, drop, All, Option, ◌⊎◌, inl, inr, sym, refl, ap, subst, ◌∙◌, arith}
use Rattle.std.proofs.lemmas.List.{drop-drop}
use Rattle.std.proofs.lemmas.Option.{slice_get_within, get_or_from_slice_get}
use Rattle.gw_pattern.specs.declared.form.Pattern.{Pattern}
use Rattle.gw_pattern.specs.declared.form.Seg.{Seg}
use Rattle.gw_pattern.specs.declared.form.Seg.TheVariants.{Literal, One, Rest, End}
use Rattle.gw_pattern.specs.Pattern.{AreWellFormed, IsWellFormed, MayStand}
use Rattle.gw_sets.specs.Matches.{SegsMatch}
use Rattle.gw_mux.specs.Keys.{first_key, tail_keys}
use Rattle.gw_mux.specs.Table.{IsAt}

-- ---- by the key

pub same_kind : (a b : ℕ) (xs ys : List ℕ) → (a ∷ xs) ≡ (b ∷ ys) → a ≡ b
same_kind a b xs ys e = cc

pub same_rest : (a b : ℕ) (xs ys : List ℕ) → (a ∷ xs) ≡ (b ∷ ys) → xs ≡ ys
same_rest a b xs ys e = cc

pub literal_head : (segs : List Seg) (method : Option (List ℕ)) (bytes : List ℕ) → first_key (tail_keys segs method) ≡ 1 ∷ bytes → (t : List Seg) × (segs ≡ Literal bytes ∷ t)
literal_head [] method bytes e = absurd (let h = same_kind 0 1 [] bytes e in omega (arith, h))
literal_head (Literal b ∷ t) method bytes e = (t, ap (λ x. Literal x ∷ t) (same_rest 1 1 b bytes e))
literal_head (One name ∷ t) method bytes e = absurd (let h = same_kind 2 1 [] bytes e in omega (arith, h))
literal_head (End ∷ t) method bytes e = absurd (let h = same_kind 3 1 [] bytes e in omega (arith, h))
literal_head (Rest name ∷ t) method bytes e = absurd (let h = same_kind 4 1 [] bytes e in omega (arith, h))

pub one_head : (segs : List Seg) (method : Option (List ℕ)) → first_key (tail_keys segs method) ≡ 2 ∷ [] → (name : List ℕ) × (t : List Seg) × (segs ≡ One name ∷ t)
one_head [] method e = absurd (let h = same_kind 0 2 [] [] e in omega (arith, h))
one_head (Literal b ∷ t) method e = absurd (let h = same_kind 1 2 b [] e in omega (arith, h))
one_head (One name ∷ t) method e = (name, t, refl)
one_head (End ∷ t) method e = absurd (let h = same_kind 3 2 [] [] e in omega (arith, h))
one_head (Rest name ∷ t) method e = absurd (let h = same_kind 4 2 [] [] e in omega (arith, h))

pub end_head : (segs : List Seg) (method : Option (List ℕ)) → first_key (tail_keys segs method) ≡ 3 ∷ [] → (t : List Seg) × (segs ≡ End ∷ t)
end_head [] method e = absurd (let h = same_kind 0 3 [] [] e in omega (arith, h))
end_head (Literal b ∷ t) method e = absurd (let h = same_kind 1 3 b [] e in omega (arith, h))
end_head (One name ∷ t) method e = absurd (let h = same_kind 2 3 [] [] e in omega (arith, h))
end_head (End ∷ t) method e = (t, refl)
end_head (Rest name ∷ t) method e = absurd (let h = same_kind 4 3 [] [] e in omega (arith, h))

pub rest_head : (segs : List Seg) (method : Option (List ℕ)) → first_key (tail_keys segs method) ≡ 4 ∷ [] → (name : List ℕ) × (t : List Seg) × (segs ≡ Rest name ∷ t)
rest_head [] method e = absurd (let h = same_kind 0 4 [] [] e in omega (arith, h))
rest_head (Literal b ∷ t) method e = absurd (let h = same_kind 1 4 b [] e in omega (arith, h))
rest_head (One name ∷ t) method e = absurd (let h = same_kind 2 4 [] [] e in omega (arith, h))
rest_head (End ∷ t) method e = absurd (let h = same_kind 3 4 [] [] e in omega (arith, h))
rest_head (Rest name ∷ t) method e = (name, t, refl)

pub no_head : (segs : List Seg) (method : Option (List ℕ)) → first_key (tail_keys segs method) ≡ 0 ∷ [] → segs ≡ []
no_head [] method e = refl
no_head (Literal b ∷ t) method e = absurd (let h = same_kind 1 0 b [] e in omega (arith, h))
no_head (One name ∷ t) method e = absurd (let h = same_kind 2 0 [] [] e in omega (arith, h))
no_head (End ∷ t) method e = absurd (let h = same_kind 3 0 [] [] e in omega (arith, h))
no_head (Rest name ∷ t) method e = absurd (let h = same_kind 4 0 [] [] e in omega (arith, h))

-- ---- by what it matches

pub part_heads : (segs : List Seg) (part : List ℕ) (parts : List (List ℕ)) (slash : Bool) → SegsMatch segs (part ∷ parts) slash → ((t : List Seg) × (segs ≡ Literal part ∷ t) × SegsMatch t parts slash) ⊎ (((name : List ℕ) × (t : List Seg) × (segs ≡ One name ∷ t) × SegsMatch t parts slash) ⊎ ((name : List ℕ) × (t : List Seg) × (segs ≡ Rest name ∷ t)))
part_heads [] part parts slash h = absurd h
part_heads (End ∷ t) part parts slash h = absurd h
part_heads (Literal bytes ∷ t) part parts slash h = inl (t, ap (λ x. Literal x ∷ t) (sym h.0), h.1)
part_heads (One name ∷ t) part parts slash h = inr (inl (name, t, refl, h))
part_heads (Rest name ∷ t) part parts slash h = inr (inr (name, t, refl))

pub end_heads : (segs : List Seg) → SegsMatch segs [] true → ((t : List Seg) × (segs ≡ End ∷ t)) ⊎ ((name : List ℕ) × (t : List Seg) × (segs ≡ Rest name ∷ t))
end_heads [] h = absurd (cc)
end_heads (End ∷ t) h = inl (t, refl)
end_heads (Literal bytes ∷ t) h = absurd h
end_heads (One name ∷ t) h = absurd h
end_heads (Rest name ∷ t) h = inr (name, t, refl)

pub stopped : (segs : List Seg) → SegsMatch segs [] false → segs ≡ []
stopped [] h = refl
stopped (End ∷ t) h = absurd (cc)
stopped (Literal bytes ∷ t) h = absurd h
stopped (One name ∷ t) h = absurd h
stopped (Rest name ∷ t) h = absurd (cc)

-- ---- the last one

none_left : (at : ℕ) (seg : Seg) (t : List Seg) → drop at [] ≡ seg ∷ t → ⊥
none_left zero seg t e = cc
none_left (suc at) seg t e = cc

-- what may stand only last has nothing behind it
pub last_seg : (segs : List Seg) (at : ℕ) (seg : Seg) (t : List Seg) → (MayStand seg → ⊥) → AreWellFormed segs → drop at segs ≡ seg ∷ t → t ≡ []
last_seg [] at seg t last h e = absurd h
last_seg (s ∷ []) zero seg t last h e = cc
last_seg (s ∷ next ∷ segs) zero seg t last h e = let same : s ≡ seg = cc in absurd (last (subst MayStand same h.0))
last_seg (s ∷ []) (suc at) seg t last h e = absurd (none_left at seg t e)
last_seg (s ∷ next ∷ segs) (suc at) seg t last h e = last_seg (next ∷ segs) at seg t last h.1 e

pub formed_at : (patterns : List Pattern) (i : ℕ) (p : Pattern) → All IsWellFormed patterns → IsAt patterns i p → AreWellFormed p.segs.items
formed_at patterns i p h at = subst IsWellFormed (get_or_from_slice_get patterns i p p at) (h i p (slice_get_within patterns i p at))

-- what is left one segment further
pub behind : (segs : List Seg) (at : ℕ) (seg : Seg) (t : List Seg) → drop at segs ≡ seg ∷ t → drop (at + 1) segs ≡ t
behind segs at seg t e = sym (drop-drop 1 at segs) ∙ ap (drop 1) e
