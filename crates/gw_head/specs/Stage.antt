-- A reader of a head, fed with the pieces of a stream: what it has read, and what a piece brings.
use Rattle.std.specs.Prelude.{◌≡◌, ℕ, ◌+◌, ◌<◌, ◌≤◌, ◌⊎◌, List, ◌++◌, length, take, Some, None}
use Rattle.gw_head.specs.declared.error.HeadError.{HeadError}
use Rattle.gw_head.specs.declared.error.HeadError.TheVariants.{Malformed, TooLong}
use Rattle.gw_head.specs.declared.reader.Fed.{Fed}
use Rattle.gw_head.specs.declared.reader.Step.{Step}
use Rattle.gw_head.specs.declared.reader.Step.TheVariants.{More, Head, Bad, NoMemory}
use Rattle.gw_head.specs.Mark.{head_limit, end_in_limit}

-- a reader reads a head, and the stream so far is the front of it; or it is closed, has these bytes of the stream, and
-- answers the error to each later piece
pub data Stage : Type 0 where
  reads : List ℕ → Stage
  closed : HeadError → List ℕ → Stage

-- the bytes that a reader has
abbrev pub bytes_of : Stage → List ℕ
bytes_of (reads stream) = stream
bytes_of (closed error bytes) = bytes

-- nothing is decided: the bytes have no end mark, and are fewer than a head may have
pub record IsUndecided (bytes : List ℕ) : Type 0 where
  pub no_end : end_in_limit bytes ≡ None
  pub short : length bytes < head_limit

-- the bytes have no end mark within the limit
pub record IsTooLong (bytes : List ℕ) : Type 0 where
  pub no_end : end_in_limit bytes ≡ None
  pub long : head_limit ≤ length bytes

-- the head ends behind so many bytes of the piece, within the limit
pub record EndsIn (stream piece : List ℕ) (used : ℕ) : Type 0 where
  pub within : used ≤ length piece
  pub end : end_in_limit (stream ++ piece) ≡ Some (length stream + used)

-- nothing is decided yet: the whole piece is kept
pub record GoesOn (stream piece : List ℕ) (used : ℕ) (new : Stage) : Type 0 where
  pub undecided : IsUndecided (stream ++ piece)
  pub used_all : used ≡ length piece
  pub stage : new ≡ reads (stream ++ piece)

-- the head has ended: the bytes up to its end are such a head, and the reader has them
pub record Gives
    {H : Type 0} (HeadOf : List ℕ → H → Type 0)
    (stream piece : List ℕ) (used : ℕ) (head : H) (new : Stage) : Type 0 where
  pub ends : EndsIn stream piece used
  pub is_head : HeadOf (stream ++ take used piece) head
  pub stage : new ≡ closed Malformed (stream ++ take used piece)

-- the reader is closed by the error
abbrev pub IsClosedBy : HeadError → Stage → Type 0
IsClosedBy error new = (bytes : List ℕ) × (new ≡ closed error bytes)

-- the head has ended and is refused for the first check that it fails, or (H2) it has too many bytes without an end
pub record Refuses
    (BadHead : List ℕ → HeadError → Type 0)
    (stream piece : List ℕ) (used : ℕ) (error : HeadError) (new : Stage) : Type 0 where
  pub cause : (EndsIn stream piece used × BadHead (stream ++ take used piece) error)
      ⊎ (IsTooLong (stream ++ piece) × (used ≡ length piece) × (error ≡ TooLong))
  pub stage : IsClosedBy error new

-- what a piece brings to a reader that reads, by the step
abbrev pub Brings :
    {H : Type 0} → (List ℕ → H → Type 0) → (List ℕ → HeadError → Type 0)
    → List ℕ → List ℕ → ℕ → Step H → Stage → Type 0
Brings HeadOf BadHead stream piece used More new = GoesOn stream piece used new
Brings HeadOf BadHead stream piece used (Head head) new = Gives HeadOf stream piece used head new
Brings HeadOf BadHead stream piece used (Bad error) new = Refuses BadHead stream piece used error new
Brings {H} HeadOf BadHead stream piece used NoMemory new =
    (head : H) × Gives HeadOf stream piece used head new

-- what a piece brings; a closed reader uses nothing of it, and stays closed
abbrev pub Feeds :
    {H : Type 0} → (List ℕ → H → Type 0) → (List ℕ → HeadError → Type 0)
    → Stage → List ℕ → Fed H → Stage → Type 0
Feeds HeadOf BadHead (reads stream) piece fed new =
    Brings HeadOf BadHead stream piece fed.used fed.step new
Feeds HeadOf BadHead (closed error bytes) piece fed new =
    (fed.used ≡ 0) × (fed.step ≡ Bad error) × (new ≡ closed error bytes)
