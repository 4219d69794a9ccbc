-- A moment has one date.
use Rattle.std.proofs.Common.{◌≡◌, ℕ, List, sym, ap, ◌∙◌}
use Rattle.httpdate.proofs.Theorems.{unix_secs_injective}
use Rattle.httpdate.specs.Text.{imf_fixdate}
use Rattle.gw_proxy.specs.Date.{IsDateAt}

pub one_date : (moment : ℕ) (text other : List ℕ) → IsDateAt moment text → IsDateAt moment other → text ≡ other
one_date moment text other first second =
    first.2 ∙ ap imf_fixdate (unix_secs_injective first.0 second.0 (first.1 ∙ sym second.1)) ∙ sym second.2
