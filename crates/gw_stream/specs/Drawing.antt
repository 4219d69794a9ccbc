-- What was drawn of a body: bytes that were ahead, and those that were read of its link behind them.
use Rattle.std.specs.Prelude.{ℕ, ◌≡◌, ◌<◌, ◌≤◌, ◌⊎◌, true, List, [], ◌∷◌, ◌++◌, length, take, Option}
use Rattle.gw_wire.specs.declared.values.Act.{Act}
use Rattle.gw_wire.specs.declared.values.Act.TheVariants.{Read}
use Rattle.gw_wire.specs.declared.values.Act.TheVariants.{End as LinkEnd}
use Rattle.gw_wire.specs.Link.{LinkView}
use Rattle.gw_wire.specs.Stretch.{Acts, Then}
use Rattle.gw_chunk.specs.declared.error.ChunkError.{ChunkError}
use Rattle.gw_body.specs.declared.place.Place.{Place}
use Rattle.gw_body.specs.Places.{ended, is_inside, HasBody, FailsBody}
use Rattle.gw_body.specs.declared.place.Place.TheVariants.{Refused}
use Rattle.gw_body.specs.Taken.{Takes, behind_link}
use Rattle.gw_account.specs.Work.{Bill, free}
use Rattle.gw_stream.specs.declared.drawing.Drawn.{Drawn}
use Rattle.gw_stream.specs.declared.drawing.Drawn.TheVariants as drawn
use Rattle.gw_stream.specs.declared.drawing.Pull.{Pull}
use Rattle.gw_stream.specs.declared.drawing.Pull.TheVariants as pulled
use Rattle.gw_stream.specs.declared.waits.Loss.{Loss}
use Rattle.gw_stream.specs.declared.waits.Loss.TheVariants as loss
use Rattle.gw_stream.specs.Waits.{Side, LossCause, loss_acts, loss_bill}

-- a stretch of reads of one link: behind the bytes that were ahead they make these, and nothing was read where what had
-- come by then was enough
abbrev pub HearsWhile : (List ℕ → Type 0) → ℕ → List ℕ → List ℕ → List Act → Type 0
HearsWhile Wanting link ahead bytes [] = bytes ≡ ahead
HearsWhile Wanting link ahead bytes (act ∷ acts) =
    Wanting ahead × (piece : List ℕ) × (act ≡ Read link piece) × HearsWhile Wanting link (ahead ++ piece) bytes acts

-- bytes from a place on that leave the body open: neither its end nor a fault has come
pub record IsPartFrom (old : Place) (bytes : List ℕ) : Type 0 where
  pub among : List ℕ
  pub behind : Place
  pub takes : Takes old bytes among behind
  pub inside : is_inside behind ≡ true

-- while the body isn't whole
abbrev pub HearsPart : ℕ → Place → List ℕ → List ℕ → List Act → Type 0
HearsPart link old = HearsWhile (IsPartFrom old) link

-- from a place on data was drawn, up to another place: the bytes ahead and those that were read are those that were
-- taken and those that are ahead now
pub record Draws (link : ℕ) (old : Place) (ahead d : List ℕ) (new : Place) (left : List ℕ) (acts : List Act) : Type 0 where
  pub used : List ℕ
  pub takes : Takes old used d new
  pub reads : HearsPart link old ahead (used ++ left) acts

-- what ends a body at a place: nothing more where it is whole there, or the link's end where it goes up to that (RFC
-- 9112, section 6.3); where the reader stands then
abbrev pub EndsBy : ℕ → Place → Place → List ℕ → List Act → Type 0
EndsBy link at new left ending =
    ((at ≡ ended) × (ending ≡ []) × (new ≡ ended))
    ⊎ ((is_inside at ≡ true) × HasBody at [] [] [] × (left ≡ []) × (ending ≡ LinkEnd link ∷ []) × (new ≡ behind_link at))

-- the rest of the body was drawn, and it is whole
pub record Completes (link : ℕ) (old : Place) (ahead d : List ℕ) (new : Place) (left : List ℕ) (acts : List Act) : Type 0 where
  pub at : Place
  pub ending : List Act
  pub ends : EndsBy link at new left ending
  pub draws : Then (Draws link old ahead d at left) (Acts ending) acts

-- data was drawn, and what comes then has the fault
pub record Faults (link : ℕ) (old : Place) (ahead d : List ℕ) (new : Place) (error : ChunkError) (acts : List Act) : Type 0 where
  pub at : Place
  pub front : List ℕ
  pub left : List ℕ
  pub draws : Draws link old ahead d at (front ++ left) acts
  pub fails : FailsBody at front error
  pub behind : new ≡ Refused error

-- the link's end cuts a body short that doesn't go up to it; whatever else brings nothing does so to each
abbrev pub IsShort : Place → Loss → Type 0
IsShort at loss.End = HasBody at [] [] [] → ⊥
IsShort at loss.Failed = Unit {0}
IsShort at (loss.Stopped why) = Unit {0}

-- data was drawn, and then nothing more came inside the body
pub record Loses (link : ℕ) (old : Place) (ahead d : List ℕ) (new : Place) (why : Loss) (acts : List Act) : Type 0 where
  pub at : Place
  pub inside : is_inside at ≡ true
  pub short : IsShort at why
  pub draws : Then (Draws link old ahead d at []) (Acts (loss_acts link why)) acts
  pub behind : new ≡ at

-- ---- one pull

-- the data that a pull gave, at the buffer's front
abbrev pub count_of : Pull → ℕ
count_of (pulled.Data n) = n
count_of _ = 0

abbrev pub data_of : List ℕ → Pull → List ℕ
data_of buffer result = take (count_of result) buffer

-- the link was read once at most, and only where nothing was ahead
abbrev pub ReadsOnce : List ℕ → List Act → Type 0
ReadsOnce ahead acts = (acts ≡ []) ⊎ ((ahead ≡ []) × (length acts ≤ 1))

-- what was done by one pull: data comes of the bytes ahead alone
abbrev pub Pulled : ℕ → Place → List ℕ → Place → List ℕ → List ℕ → Pull → List Act → Type 0
Pulled link old ahead new left d (pulled.Data n) acts = Draws link old ahead d new left acts × (0 < n) × (length d ≡ n) × (acts ≡ [])
Pulled link old ahead new left d pulled.More acts = Draws link old ahead [] new left acts × ReadsOnce ahead acts
Pulled link old ahead new left d pulled.Done acts = Completes link old ahead [] new left acts × ReadsOnce ahead acts
Pulled link old ahead new left d (pulled.Bad error) acts = Faults link old ahead [] new error acts × (acts ≡ [])
Pulled link old ahead new left d (pulled.Lost why) acts = Loses link old ahead [] new why acts × ReadsOnce ahead acts

-- what it costs
abbrev pub pull_bill : Option ℕ → Pull → Bill
pull_bill silence (pulled.Lost why) = loss_bill silence why
pull_bill silence _ = free

-- when it may bring nothing
abbrev pub PullCause : Side → Side → LinkView → LinkView → Option ℕ → Pull → Type 0
PullCause old new from to silence (pulled.Lost why) = LossCause old new from to silence why
PullCause old new from to silence _ = Unit {0}

-- ---- on the way

-- bytes of a body were taken from the front of those ahead, with this data
pub record TakesFront (old : Place) (ahead d : List ℕ) (new : Place) (left : List ℕ) : Type 0 where
  pub used : List ℕ
  pub bytes : ahead ≡ used ++ left
  pub takes : Takes old used d new

abbrev pub drawn_count : Drawn → ℕ
drawn_count (drawn.Data n) = n
drawn_count _ = 0

-- what the bytes ahead made of a body, without a read
abbrev pub Drew : Place → List ℕ → Place → List ℕ → List ℕ → Drawn → Type 0
Drew old ahead new left d (drawn.Data n) = TakesFront old ahead d new left × (0 < n) × (length d ≡ n)
Drew old ahead new left d drawn.More = TakesFront old ahead [] new left × (is_inside new ≡ true)
Drew old ahead new left d drawn.Done = TakesFront old ahead [] new left × (new ≡ ended)
Drew old ahead new left d (drawn.Bad error) = (front : List ℕ) × (rest : List ℕ) × (ahead ≡ front ++ rest) × FailsBody old front error × (new ≡ Refused error)

-- what a link that brought nothing more leaves of a body
abbrev pub Leaves : Place → Place → Loss → Pull → Type 0
Leaves at new why (pulled.Data n) = ⊥
Leaves at new why pulled.More = ⊥
Leaves at new why pulled.Done = (why ≡ loss.End) × HasBody at [] [] [] × (new ≡ behind_link at)
Leaves at new why (pulled.Bad error) = ⊥
Leaves at new why (pulled.Lost cause) = (cause ≡ why) × IsShort at why × (new ≡ at)
