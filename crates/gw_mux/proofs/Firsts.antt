-- The first of two lots of candidates.
use Rattle.std.proofs.Common.{◌≡◌, ℕ, ◌+◌, Option, Some, None, List, ◌∷◌, map, Bool, sym, ap, subst, Contains, ◌⊎◌, ⊎_elim}
use Rattle.gw_pattern.specs.declared.form.Pattern.{Pattern}
use Rattle.percent_encoding.specs.Percent.{percent_decode}
use Rattle.gw_mux.specs.Found.{Fits, IsFirst, Precedes}
use Rattle.gw_mux.specs.Order.{IsRun}
use Rattle.gw_mux.specs.Request.{parts_in}
use Rattle.gw_mux.specs.Walk.{segments_in}
use Rattle.gw_mux.proofs.Nodes.{InRun}

-- none is there, or that is one that precedes each
abbrev pub First : (ℕ → Type 0) → (ℕ → ℕ → Type 0) → Option ℕ → Type 0
First F Y None = (j : ℕ) → F j → ⊥
First F Y (Some i) = F i × ((j : ℕ) → F j → Y i j)

module _ (F A B : ℕ → Type 0) (X Y Z : ℕ → ℕ → Type 0) (split : (j : ℕ) → F j → A j ⊎ B j) where
  pub found_first : (i : ℕ) → ((j : ℕ) → A j → F j) → ((j : ℕ) → A i → A j → X i j → Z i j) → ((j : ℕ) → A i → B j → Z i j) → First A X (Some i) → First F Z (Some i)
  found_first i back same cross h = (back i h.0, λ j f. ⊎_elim (λ a. same j h.0 a (h.1 j a)) (λ b. cross j h.0 b) (split j f))

  pub found_later : (r : Option ℕ) → ((j : ℕ) → B j → F j) → ((i j : ℕ) → B i → B j → Y i j → Z i j) → First A X None → First B Y r → First F Z r
  found_later None back same none h = λ j f. ⊎_elim (λ a. none j a) (λ b. h j b) (split j f)
  found_later (Some i) back same none h = (back i h.0, λ j f. ⊎_elim (λ a. absurd (none j a)) (λ b. same i j h.0 b (h.1 j b)) (split j f))

-- those of the numbers whose patterns fit
abbrev pub Fitting : List Pattern → List ℕ → ℕ → List ℕ → List (List ℕ) → Bool → ℕ → Type 0
Fitting patterns numbers at method parts slash j = Contains numbers j × Fits patterns at method parts slash j

-- those of a run
abbrev pub FittingIn : List Pattern → ℕ → List ℕ → List ℕ → List ℕ → List (List ℕ) → Bool → ℕ → Type 0
FittingIn patterns at numbers key method parts slash j = InRun patterns at numbers key j × Fits patterns (at + 1) method parts slash j

pub run_first : (patterns : List Pattern) (at : ℕ) (numbers key run method : List ℕ) (parts : List (List ℕ)) (slash : Bool) (r : Option ℕ) → IsRun patterns (at + 1) key numbers run → IsFirst patterns run (at + 1) method parts slash r → First (FittingIn patterns at numbers key method parts slash) (Precedes patterns (at + 1)) r
run_first patterns at numbers key run method parts slash None is h = λ j f. h j (is.all j f.0.0 f.0.1) f.1
run_first patterns at numbers key run method parts slash (Some i) is h = ((is.within i h.0, h.1), λ j f. h.2 j (is.all j f.0.0 f.0.1) f.1)

pub from_first : (patterns : List Pattern) (numbers : List ℕ) (at : ℕ) (method : List ℕ) (parts : List (List ℕ)) (slash : Bool) (r : Option ℕ) → First (Fitting patterns numbers at method parts slash) (Precedes patterns at) r → IsFirst patterns numbers at method parts slash r
from_first patterns numbers at method parts slash None h = λ j c f. h j (c, f)
from_first patterns numbers at method parts slash (Some i) h = (h.0.0, h.0.1, λ j c f. h.1 j (c, f))

-- the same, said of the path of which a part was taken
pub part_first : (patterns : List Pattern) (numbers : List ℕ) (at : ℕ) (method path part after : List ℕ) (slash left : Bool) (r : Option ℕ) → parts_in path ≡ part ∷ parts_in after → left ≡ slash → IsFirst patterns numbers at method (percent_decode part ∷ segments_in after) left r → IsFirst patterns numbers at method (segments_in path) slash r
part_first patterns numbers at method path part after slash left r e f h =
    subst (λ s. IsFirst patterns numbers at method (segments_in path) s r) f
    (subst (λ parts. IsFirst patterns numbers at method parts left r) (sym (ap (map percent_decode) e)) h)
