-- What the bytes so far and a piece say of the end of the head.
use Rattle.std.specs.Prelude.{◌≡◌, ℕ, ◌+◌, ◌<◌, ◌≤◌, List, ◌++◌, length, take, Some, None}
use Rattle.gw_head.specs.declared.mark.Place.{Place}
use Rattle.gw_head.specs.declared.mark.Place.TheVariants.{Blank}
use Rattle.gw_head.specs.declared.reader.Gathered.{Gathered}
use Rattle.gw_head.specs.declared.reader.Gathered.TheVariants.{More, Whole, TooLong}
use Rattle.gw_head.specs.Mark.{IsWhole}
use Rattle.gw_head.specs.Mark.{head_limit, end_in_limit}
use Rattle.gw_head.specs.Scan.{place_after}

-- the bytes so far have no end within the limit; the buffer has room for a head
pub record IsReading (kept : List ℕ) (place : Place) (capacity : ℕ) : Type 0 where
  pub reached : place_after Blank kept ≡ Some place
  pub short : length kept < head_limit
  pub room : head_limit ≤ capacity

-- what the bytes so far and a piece say of the head's end
abbrev pub Gathers : List ℕ → List ℕ → Gathered → List ℕ → Place → ℕ → Type 0
Gathers stream piece More kept place capacity =
    (end_in_limit (stream ++ piece) ≡ None) × (kept ≡ stream ++ piece) × IsReading kept place capacity
Gathers stream piece (Whole used) kept place capacity =
    (end_in_limit (stream ++ piece) ≡ Some (length stream + used)) × (used ≤ length piece)
    × (kept ≡ stream ++ take used piece) × IsWhole kept × (head_limit ≤ capacity)
Gathers stream piece TooLong kept place capacity =
    (end_in_limit (stream ++ piece) ≡ None) × (head_limit ≤ length (stream ++ piece)) × (head_limit ≤ capacity)
