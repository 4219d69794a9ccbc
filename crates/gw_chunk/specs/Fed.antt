-- What one call of the decoder says of a piece.
use Rattle.std.specs.Prelude.{◌≡◌, ℕ, ◌+◌, ◌<◌, ◌≤◌, ◌↔◌, List, [], ◌++◌, length, take, min, true, slice_range}
use Rattle.gw_chunk.specs.declared.error.ChunkError.{ChunkError}
use Rattle.gw_chunk.specs.declared.position.Position.{Position}
use Rattle.gw_chunk.specs.declared.position.Position.TheVariants.{Line, Content, Closing, Fields, Ended, Refused}
use Rattle.gw_chunk.specs.declared.decoder.ChunkFed.{ChunkFed}
use Rattle.gw_chunk.specs.declared.decoder.ChunkStep.{ChunkStep}
use Rattle.gw_chunk.specs.declared.decoder.ChunkStep.TheVariants.{Data, More, Done, Bad}
use Rattle.gw_chunk.specs.Position.{left_of, is_undecided, after, given, Leads, Has, Fails}

-- the bytes, which have this data, were taken from the front of what the old position is before. So a rest has data
-- from the new position exactly where the bytes and it have, from the old one, the data given and then that data;
-- and the faults likewise.
pub record Takes (old : Position) (bytes d : List ℕ) (new : Position) : Type 0 where
  pub leads : Leads old bytes d new
  pub has : (rest e : List ℕ) → Has new rest e ↔ Has old (bytes ++ rest) (d ++ e)
  pub fails : (rest : List ℕ) (error : ChunkError) → Fails new rest error ↔ Fails old (bytes ++ rest) error

-- a range of data, the first in the piece, up to the end of the chunk's data or of the piece
pub record GivesData (old : Position) (piece : List ℕ) (used «from» to : ℕ) (new : Position) : Type 0 where
  pub some : «from» < to
  pub within : to ≤ length piece
  pub used_up_to : used ≡ to
  pub takes : Takes old (take used piece) (slice_range piece «from» to) new
  pub begins : Position
  pub first_data : Leads old (take «from» piece) [] begins
  pub longest : to ≡ min («from» + left_of begins) (length piece)

-- there is no data in the piece, and neither an end nor a fault
pub record DecidesNothing (old : Position) (piece : List ℕ) : Type 0 where
  pub no_data : given old piece ≡ []
  pub undecided : is_undecided (after old piece) ≡ true

-- nothing is decided
pub record WantsMore (old : Position) (piece : List ℕ) (used : ℕ) (new : Position) : Type 0 where
  pub used_all : used ≡ length piece
  pub takes : Takes old piece [] new
  pub undecided : is_undecided new ≡ true

-- the text has ended with the bytes used
pub record Ends (old : Position) (piece : List ℕ) (used : ℕ) (new : Position) : Type 0 where
  pub within : used ≤ length piece
  pub takes : Takes old (take used piece) [] new
  pub ended : new ≡ Ended

-- the piece has the fault, and no data before it
pub record Refuses (old : Position) (piece : List ℕ) (used : ℕ) (error : ChunkError) (new : Position) : Type 0 where
  pub used_none : used ≡ 0
  pub no_data : given old piece ≡ []
  pub fails : Fails old piece error
  pub refused : new ≡ Refused error

-- what a piece brings, by the step
abbrev pub Steps : Position → List ℕ → ℕ → ChunkStep → Position → Type 0
Steps old piece used (Data «from» to) new = GivesData old piece used «from» to new
Steps old piece used More new = WantsMore old piece used new
Steps old piece used Done new = Ends old piece used new
Steps old piece used (Bad error) new = Refuses old piece used error new

abbrev pub Feeds : Position → List ℕ → ChunkFed → Position → Type 0
Feeds old piece fed new = Steps old piece fed.used fed.step new

-- at the end, and behind a fault, nothing is used and nothing changes
abbrev pub Stays : Position → ChunkFed → Position → Type 0
Stays (Line form read size sum) fed new = Unit {0}
Stays (Content left sum) fed new = Unit {0}
Stays (Closing good sum) fed new = Unit {0}
Stays (Fields form read) fed new = Unit {0}
Stays Ended fed new = (fed.used ≡ 0) × (fed.step ≡ Done) × (new ≡ Ended)
Stays (Refused error) fed new = (fed.used ≡ 0) × (fed.step ≡ Bad error) × (new ≡ Refused error)
