-- What one call of the reader says of a piece, and what it says of the link's end.
use Rattle.std.specs.Prelude.{◌≡◌, ℕ, ◌+◌, ◌<◌, ◌≤◌, ◌↔◌, List, [], ◌++◌, length, take, min, slice_range, ◌==◌, if◌then◌else◌}
use Rattle.gw_chunk.specs.declared.error.ChunkError.{ChunkError}
use Rattle.gw_chunk.specs.declared.decoder.ChunkFed.{ChunkFed}
use Rattle.gw_chunk.specs.declared.decoder.ChunkStep.{ChunkStep}
use Rattle.gw_chunk.specs.declared.decoder.ChunkStep.TheVariants.{Data, More, Done, Bad}
use Rattle.gw_chunk.specs.Fed as Chunks
use Rattle.gw_body.specs.declared.place.Place.{Place}
use Rattle.gw_body.specs.declared.place.Place.TheVariants.{Counted, Chunked, ToEnd, Refused}
use Rattle.gw_body.specs.Places.{ended, HasBody, FailsBody, data_among, left_behind}

-- the bytes, which have this data, were taken from the front of what the old place is before: what follows has data
-- from the new place exactly where the bytes and it have, from the old one, the data given and then that data; the
-- faults likewise; and so has the data among any bytes, a body or not
pub record Takes (old : Place) (bytes d : List ℕ) (new : Place) : Type 0 where
  pub has : (more e rest : List ℕ) → HasBody new more e rest ↔ HasBody old (bytes ++ more) (d ++ e) rest
  pub fails : (more : List ℕ) (error : ChunkError) → FailsBody new more error ↔ FailsBody old (bytes ++ more) error
  pub among : (more : List ℕ) → data_among old (bytes ++ more) ≡ d ++ data_among new more

-- a range of data, the first in the piece, as far as the data and the piece go
pub record GivesData (old : Place) (piece : List ℕ) (used «from» to : ℕ) (new : Place) : Type 0 where
  pub some : «from» < to
  pub within : to ≤ length piece
  pub used_up_to : used ≡ to
  pub takes : Takes old (take used piece) (slice_range piece «from» to) new
  pub none_before : data_among old (take «from» piece) ≡ []
  pub longest : to ≡ min («from» + left_behind old (take «from» piece)) (length piece)

-- there is no data in the piece, and neither an end nor a fault
abbrev pub DecidesNothing : Place → List ℕ → Type 0
DecidesNothing (Counted left) piece = (0 < left) × (piece ≡ [])
DecidesNothing (Chunked p) piece = Chunks.DecidesNothing p piece
DecidesNothing (ToEnd left) piece = piece ≡ []
DecidesNothing (Refused fault) piece = ⊥

-- nothing is decided
pub record WantsMore (old : Place) (piece : List ℕ) (used : ℕ) (new : Place) : Type 0 where
  pub used_all : used ≡ length piece
  pub takes : Takes old piece [] new

-- the body has ended with the bytes used
pub record Ends (old : Place) (piece : List ℕ) (used : ℕ) (new : Place) : Type 0 where
  pub within : used ≤ length piece
  pub takes : Takes old (take used piece) [] new
  pub at_end : new ≡ ended

-- the piece has the fault, and no data before it
pub record Refuses (old : Place) (piece : List ℕ) (used : ℕ) (error : ChunkError) (new : Place) : Type 0 where
  pub used_none : used ≡ 0
  pub no_data : data_among old piece ≡ []
  pub fails : FailsBody old piece error
  pub refused : new ≡ Refused error

-- what a piece brings, by the step
abbrev pub Steps : Place → List ℕ → ℕ → ChunkStep → Place → Type 0
Steps old piece used (Data «from» to) new = GivesData old piece used «from» to new
Steps old piece used More new = WantsMore old piece used new
Steps old piece used Done new = Ends old piece used new
Steps old piece used (Bad error) new = Refuses old piece used error new

abbrev pub Feeds : Place → List ℕ → ChunkFed → Place → Type 0
Feeds old piece fed new = Steps old piece fed.used fed.step new

-- at the end, and behind a fault, nothing is used and nothing changes
abbrev pub Stays : Place → ChunkFed → Place → Type 0
Stays (Counted left) fed new = left ≡ 0 → (fed.used ≡ 0) × (fed.step ≡ Done) × (new ≡ Counted 0)
Stays (Chunked p) fed new = Unit {0}
Stays (ToEnd left) fed new = Unit {0}
Stays (Refused fault) fed new = (fed.used ≡ 0) × (fed.step ≡ Bad fault) × (new ≡ Refused fault)

-- a range of so many bytes at the front, if there are some
abbrev pub front_step : ℕ → ChunkStep
front_step used = if used == 0 then More else Data 0 used

-- behind the link's end: what ran up to it is whole
abbrev pub behind_link : Place → Place
behind_link (Counted left) = Counted left
behind_link (Chunked p) = Chunked p
behind_link (ToEnd left) = ended
behind_link (Refused fault) = Refused fault
