-- Data that is pulled of a link straight to where it will be sent from.
use Rattle.std.specs.Prelude.{ℕ, ◌≡◌, List, ◌++◌, length, Option}
use Rattle.gw_body.specs.declared.place.Place.{Place}
use Rattle.gw_stream.specs.declared.drawing.Pull.{Pull}
use Rattle.gw_stream.specs.Drawing.{Pulled, count_of, pull_bill}
use Rattle.gw_stream.specs.Outbox.{OutView}
use Rattle.gw_stream.specs.Waits.{Side, Waited}

-- where a body stands that is passed on: its place, the bytes ahead, and what is on its way
pub record Passing : Type 0 where
  pub place : Place
  pub ahead : List ℕ
  pub out : OutView

abbrev pub passing : Place → List ℕ → OutView → Passing
passing place ahead out = record { place = place; ahead = ahead; out = out }

-- one pull, whose data follows that of the piece that has begun
pub record FillStep (old new : Side) (link : ℕ) (before after : Passing) (silence : Option ℕ) (result : Pull) : Type 0 where
  pub given : List ℕ
  pub count : length given ≡ count_of result
  pub out : after.out ≡ record before.out { begun = before.out.begun ++ given }
  pub waited : Waited old new (pull_bill silence result) (Pulled link before.place before.ahead after.place after.ahead given result)
