-- The beginning of a body, up to its first piece.
use Rattle.std.specs.Prelude.{ℕ, ◌≡◌, ◌<◌, List, ◌++◌, length, Option}
use Rattle.gw_wire.specs.declared.values.Act.{Act}
use Rattle.gw_wire.specs.Link.{LinkView}
use Rattle.gw_chunk.specs.Chunked.{piece_limit}
use Rattle.gw_body.specs.declared.place.Place.{Place}
use Rattle.gw_account.specs.Work.{Bill, free}
use Rattle.gw_stream.specs.declared.beginning.Began.{Began}
use Rattle.gw_stream.specs.declared.beginning.Began.TheVariants as began
use Rattle.gw_stream.specs.Drawing.{Completes, Draws, Faults, Loses}
use Rattle.gw_stream.specs.Filling.{Passing}
use Rattle.gw_stream.specs.Waits.{Side, LossCause, Waited, loss_bill}

-- how much data there is then of the piece that has begun
abbrev pub IsBegun : Began → List ℕ → Type 0
IsBegun began.Piece begun = length begun ≡ piece_limit
IsBegun began.Spent begun = Unit {0}
IsBegun _ begun = length begun < piece_limit

-- what came of the link
abbrev pub Begins : ℕ → Place → List ℕ → List ℕ → Place → List ℕ → Began → List Act → Type 0
Begins link old ahead d new left began.Piece acts = Draws link old ahead d new left acts
Begins link old ahead d new left began.Whole acts = Completes link old ahead d new left acts
Begins link old ahead d new left (began.Bad error) acts = Faults link old ahead d new error acts
Begins link old ahead d new left (began.Lost why) acts = Loses link old ahead d new why acts
Begins link old ahead d new left began.Spent acts = Draws link old ahead d new left acts

-- what that costs
abbrev pub began_bill : Option ℕ → Began → Bill
began_bill silence (began.Lost why) = loss_bill silence why
began_bill silence _ = free

-- the data that came follows that of the piece that has begun; nothing else was done
pub record FirstStep (old new : Side) (link : ℕ) (before after : Passing) (silence : Option ℕ) (result : Began) : Type 0 where
  pub given : List ℕ
  pub out : after.out ≡ record before.out { begun = before.out.begun ++ given }
  pub begun : IsBegun result after.out.begun
  pub waited : Waited old new (began_bill silence result) (Begins link before.place before.ahead given after.place after.ahead result)

-- when nothing more may come
abbrev pub BeganCause : Side → Side → LinkView → LinkView → Option ℕ → Began → Type 0
BeganCause old new source source_now silence (began.Lost why) = LossCause old new source source_now silence why
BeganCause old new source source_now silence _ = Unit {0}
