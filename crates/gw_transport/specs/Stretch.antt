-- A stretch of work beside a guard that is looked at.
use Rattle.std.specs.Prelude.{◌≡◌}
use Rattle.gw_account.specs.Did.{Span, Doing}
use Rattle.gw_account.specs.Work.{Work, At, at_of}
use Rattle.gw_stream.specs.Guard.{GuardView}
use Rattle.gw_stream.specs.Watched.{Watched}

-- a stretch of work was done beside a guard, of which this holds
pub record Stretch (s : Span) (from to : GuardView) (P : At → Work → Type 0) : Type 0 where
  pub work : Work
  pub doing : Doing s work
  pub watched : Watched s.old s.new from to
  pub does : P (at_of s.old s.before) work

-- a stretch of work was done in which no wait began
pub record Part (s : Span) (P : At → Work → Type 0) : Type 0 where
  pub work : Work
  pub doing : Doing s work
  pub asked : s.new.asked ≡ s.old.asked
  pub does : P (at_of s.old s.before) work
