-- What is true of what is sent.
use Rattle.std.specs.Prelude.{◌≡◌, ℕ, List}
use Rattle.gw_proxy.specs.Date.{IsDateAt}

abbrev pub OneDate : Type 0
OneDate = (moment : ℕ) (text other : List ℕ) → IsDateAt moment text → IsDateAt moment other → text ≡ other
