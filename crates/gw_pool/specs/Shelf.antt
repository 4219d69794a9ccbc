-- The connections of the pool beside their rows: which were handed out.
use Rattle.std.specs.Prelude.{◌≡◌, ℕ, Bool, true, false, List, [], ◌∷◌, ◌++◌, ◌==◌, Option, Some, None, option_map}
use Rattle.std.specs.List.{list_any}
use Rattle.gw_wire.specs.Link.{LinkView}
use Rattle.gw_pool.specs.declared.rows.ConnRow.{ConnRow}
use Rattle.gw_pool.specs.declared.rows.Place.{Place}
use Rattle.gw_pool.specs.declared.rows.Place.TheVariants.{Out, Idle}
use Rattle.gw_pool.specs.declared.shelf.Shelved.{Shelved}
use Rattle.gw_pool.specs.declared.shelf.Resting.{Resting}

-- what contracts see of a shelf: its rows, the wants whose connection was handed out, how many rows there is room for
pub record ShelfView : Type 0 where
  pub rows : List ConnRow
  pub taken : List ℕ
  pub room : ℕ

abbrev pub is_among : ℕ → List ℕ → Bool
is_among want taken = list_any (λ w. w == want) taken

-- whether the connection at a place was handed out
abbrev pub is_lent : List ℕ → Place → Bool
is_lent taken (Out want caller) = is_among want taken
is_lent taken (Idle stamp since) = false

abbrev pub lent_to : Place → List ℕ
lent_to (Out want caller) = want ∷ []
lent_to (Idle stamp since) = []

-- the wants whose connection was handed out
abbrev pub taken_of : {C : Type 0} → List ConnRow → List (Option C) → List ℕ
taken_of [] held = []
taken_of (row ∷ rows) [] = []
taken_of (row ∷ rows) (Some conn ∷ held) = taken_of rows held
taken_of (row ∷ rows) (None ∷ held) = lent_to row.place ++ taken_of rows held

-- the connections that weren't handed out are those of their rows; an idle one wasn't
abbrev pub AreKept : {C : Type 0} → (C → LinkView) → List ConnRow → List (Option C) → Type 0
AreKept link [] [] = Unit {0}
AreKept link [] (conn ∷ held) = ⊥
AreKept link (row ∷ rows) [] = ⊥
AreKept link (row ∷ rows) (Some conn ∷ held) = ((link conn).number ≡ row.link) × AreKept link rows held
AreKept link (row ∷ rows) (None ∷ held) = ((want : ℕ) × (caller : ℕ) × (row.place ≡ Out want caller)) × AreKept link rows held

-- a connection beside a row: it is the row's, and where there is none, it was handed out
abbrev pub IsKept : {C : Type 0} → (C → LinkView) → List ℕ → ConnRow → Option C → Type 0
IsKept link taken row (Some conn) = (link conn).number ≡ row.link
IsKept link taken row None = is_lent taken row.place ≡ true

-- a connection beside a row is there, and the row's
abbrev pub HasConn : {C : Type 0} → (C → LinkView) → ConnRow → Option C → Type 0
HasConn link row (Some conn) = (link conn).number ≡ row.link
HasConn link row None = ⊥

abbrev pub resting_row : {C : Type 0} → Option (Resting C) → Option ConnRow
resting_row taken = option_map (λ r. r.row) taken

abbrev pub row_of : {C : Type 0} → Option (Shelved C) → Option ConnRow
row_of shelved = option_map (λ s. s.row) shelved

-- nothing was handed out since
abbrev pub LeavesTaken : List ℕ → List ℕ → Type 0
LeavesTaken old new = (want : ℕ) → is_among want old ≡ false → is_among want new ≡ false

-- nothing was handed out since but to one want
abbrev pub LeavesOthers : ℕ → List ℕ → List ℕ → Type 0
LeavesOthers taker old new = (want : ℕ) → (want ≡ taker → ⊥) → is_among want old ≡ false → is_among want new ≡ false
