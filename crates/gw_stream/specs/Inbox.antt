-- The bytes of a link that were read and aren't used yet, in the buffer that has them.
use Rattle.std.specs.Prelude.{ℕ, ◌-◌, ◌<◌, ◌≤◌, List, length, take, drop}

abbrev pub ahead_of : List ℕ → ℕ → ℕ → List ℕ
ahead_of buffer start to = take (to - start) (drop start buffer)

pub record HasPlaces (buffer : List ℕ) (start to : ℕ) : Type 0 where
  pub room : 0 < length buffer
  pub ordered : start ≤ to
  pub within : to ≤ length buffer
