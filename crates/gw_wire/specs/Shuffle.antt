-- Two rows of acts that interleave, and how each is found again by the number of its link.
use Rattle.std.specs.Prelude.{ℕ, ◌≡◌, true, false, List, [], ◌∷◌, All, ◌⊎◌}
use Rattle.gw_wire.specs.declared.values.Act.{Act}
use Rattle.gw_wire.specs.Acts.{is_of, acts_of, bytes_read, bytes_written}

-- the acts are those of the one row and those of the other, each row in its order
abbrev pub Shuffle : List Act → List Act → List Act → Type 0
Shuffle one other [] = (one ≡ []) × (other ≡ [])
Shuffle one other (act ∷ acts) =
    ((rest : List Act) × (one ≡ act ∷ rest) × Shuffle rest other acts) ⊎ ((rest : List Act) × (other ≡ act ∷ rest) × Shuffle one rest acts)

-- each act is one on the link
abbrev pub Ours : ℕ → List Act → Type 0
Ours link acts = All (λ act. is_of link act ≡ true) acts

-- no act is one on the link
abbrev pub Others : ℕ → List Act → Type 0
Others link acts = All (λ act. is_of link act ≡ false) acts

-- what a list of acts has of a link is what the row has of it
pub record HasSide (link : ℕ) (row acts : List Act) : Type 0 where
  pub own : acts_of link acts ≡ row
  pub read : bytes_read link acts ≡ bytes_read link row
  pub written : bytes_written link acts ≡ bytes_written link row

-- where one row is the link's and the other has nothing of it, the filters by its number give the one row
abbrev pub SidesAreFound : Type 0
SidesAreFound =
    (link : ℕ) (one other acts : List Act) → Ours link one → Others link other → Shuffle one other acts → HasSide link one acts

-- and so where it is the second row
abbrev pub SecondSidesAreFound : Type 0
SecondSidesAreFound =
    (link : ℕ) (one other acts : List Act) → Others link one → Ours link other → Shuffle one other acts → HasSide link other acts

-- the acts on a link are none of another one's
abbrev pub OtherLinksDiffer : Type 0
OtherLinksDiffer = (link another : ℕ) (acts : List Act) → (link ≡ another → ⊥) → Ours another acts → Others link acts
