-- The date of a message.
use Rattle.std.specs.Prelude.{◌≡◌, ℕ, ◌/◌, List}
use Rattle.httpdate.specs.declared.date.HttpDate.{HttpDate}
use Rattle.httpdate.specs.Date.{unix_secs, date_text}

-- the text of the second in which the moment lies, in milliseconds since 1970 (RFC 9110, section 5.6.7)
abbrev pub IsDateAt : ℕ → List ℕ → Type 0
IsDateAt moment text = (date : HttpDate) × (unix_secs date ≡ moment / 1000) × (text ≡ date_text date)
