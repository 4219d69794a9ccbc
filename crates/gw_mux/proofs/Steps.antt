-- One step of a walk over segments and a path.
use Rattle.std.proofs.Common.{◌≡◌, ℕ, suc, ◌<◌, false, ◌==◌, List, [], ◌∷◌, length, map, get_or, drop, sym, refl, ap, ◌∙◌, arith, drop-cons}
use Rattle.std.proofs.lemmas.Bool.{ne_eqb}
use Rattle.percent_encoding.specs.Percent.{percent_decode}
use Rattle.gw_pattern.specs.declared.form.Seg.{Seg}
use Rattle.gw_pattern.specs.declared.form.Seg.TheVariants.{Rest}
use Rattle.gw_pattern.specs.Path.{parts_of}
use Rattle.gw_pattern.proofs.Tidy.{some_parts}
use Rattle.gw_mux.specs.Request.{is_exact}
use Rattle.gw_mux.specs.Walk.{segments_in}

-- the segment that the walk is at
pub at_seg : (segs : List Seg) (i : ℕ) (seg here : Seg) → i < length segs → seg ≡ get_or segs i seg → seg ≡ here → drop i segs ≡ here ∷ drop (suc i) segs
at_seg segs i seg here within e h = drop-cons segs i seg within ∙ ap (λ s. s ∷ drop (suc i) segs) (sym e ∙ h)

mapped : (parts : List (List ℕ)) → 0 < length parts → 0 < length (map percent_decode parts)
mapped [] h = absurd (omega arith)
mapped (part ∷ parts) h = omega arith

exact_here : (name : List ℕ) (segs : List Seg) (parts : List (List ℕ)) → 0 < length parts → is_exact (Rest name ∷ segs) parts ≡ false
exact_here name segs [] h = absurd (omega arith)
exact_here name segs (part ∷ parts) h = refl

pub exact_rest : (name : List ℕ) (segs : List Seg) (left : List ℕ) → (length left == 0) ≡ is_exact (Rest name ∷ segs) (segments_in left)
exact_rest name segs [] = refl
exact_rest name segs (b ∷ tail) =
    let other : (length (b ∷ tail) == 0) ≡ false = ne_eqb (length (b ∷ tail)) 0 (λ e. omega arith) in
    other ∙ sym (exact_here name segs (segments_in (b ∷ tail)) (mapped (parts_of tail) (some_parts tail)))
