-- What is left of a path that is walked, and how long its first parts are.
use Rattle.std.specs.Prelude.{◌≡◌, ℕ, List, length, map, take}
use Rattle.gw_mux.specs.declared.sent.SentPath.{SentPath}
use Rattle.gw_mux.specs.Request.{parts_in}
use Rattle.gw_mux.specs.Walk.{TakesPart}

-- so long are the first parts of the path
abbrev pub AreLengths : List ℕ → List ℕ → Type 0
AreLengths lengths path = lengths ≡ take (length lengths) (map length (parts_in path))

-- the path begins with that part, and the rest is left
pub record GoesOn (path : SentPath) (part : List ℕ) (left : SentPath) : Type 0 where
  pub takes : TakesPart path.body.now part left.body.now
  pub lengths : AreLengths left.lengths.now left.body.now
  pub slash : left.slash ≡ path.slash
