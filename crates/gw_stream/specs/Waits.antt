-- Waits for a link beside a guard: rows of reads, or of writes, in which nothing comes or goes.
use Rattle.std.specs.Prelude.{ℕ, Bool, ◌||◌, ◌≡◌, ◌<◌, ◌≤◌, ◌+◌, ◌++◌, nat_lt, List, [], ◌∷◌, length, take, All, Option, Some, None}
use Rattle.gw_wire.specs.declared.values.Act.{Act}
use Rattle.gw_wire.specs.declared.values.Act.TheVariants.{Read, Wrote, ReadFailed, WriteFailed}
use Rattle.gw_wire.specs.declared.values.Act.TheVariants.{End as LinkEnd}
use Rattle.gw_wire.specs.Acts.{bytes_written}
use Rattle.gw_wire.specs.Causes.{Rose}
use Rattle.gw_wire.specs.Link.{LinkView, LinkLater}
use Rattle.gw_wire.specs.Stretch.{Acts, Then}
use Rattle.gw_wire.specs.Wire.{WireView}
use Rattle.gw_account.specs.Did.{Went}
use Rattle.gw_account.specs.Work.{Bill, free, Only}
use Rattle.gw_stream.specs.declared.waits.Heard.{Heard}
use Rattle.gw_stream.specs.declared.waits.Heard.TheVariants as heard
use Rattle.gw_stream.specs.declared.waits.Limit.{Limit}
use Rattle.gw_stream.specs.declared.waits.Loss.{Loss}
use Rattle.gw_stream.specs.declared.waits.Loss.TheVariants as loss
use Rattle.gw_stream.specs.declared.waits.Sent.{Sent}
use Rattle.gw_stream.specs.declared.waits.Sent.TheVariants as sent
use Rattle.gw_stream.specs.declared.waits.Stop.{Stop}
use Rattle.gw_stream.specs.declared.waits.Stop.TheVariants as stops
use Rattle.gw_stream.specs.declared.waits.Taken.{Taken}
use Rattle.gw_stream.specs.declared.waits.Taken.TheVariants as taken
use Rattle.gw_stream.specs.Guard.{GuardView, GuardGoes, IsBefore, IsDue}
use Rattle.gw_stream.specs.Watched.{Watched}

-- a wire, and the guard that is looked at beside it
pub record Side : Type 0 where
  pub wire : WireView
  pub guard : GuardView

abbrev pub side : WireView → GuardView → Side
side wire guard = record { wire = wire; guard = guard }

-- calls were made on a wire beside a guard, of whose acts this holds, with this bill; no wait began at or past the deadline
pub record Waited (old new : Side) (bill : Bill) (P : List Act → Type 0) : Type 0 where
  pub went : Went old.wire new.wire (Only bill P)
  pub watched : Watched old.wire new.wire old.guard new.guard

-- ---- why a wait is given up, and what that costs

-- more milliseconds than the peer may be silent
abbrev pub above : Option ℕ → ℕ
above None = 0
above (Some most) = most + 1

abbrev pub stop_bill : Option ℕ → Stop → Bill
stop_bill silence stops.Cancelled = free
stop_bill silence stops.Deadline = free
stop_bill silence stops.Silent = record free { millis = above silence }
stop_bill silence stops.Ticks = record free { ticks = 1000000 }

-- The guard's count of cancellations rose, or its deadline has come, or the peer is one that may be silent for so long
-- only. What the clock and the ticks show is the bill's.
abbrev pub StopCause : GuardView → GuardView → ℕ → Option ℕ → Stop → Type 0
StopCause old new moment silence stops.Cancelled = Rose old.cancels new.cancels
StopCause old new moment silence stops.Deadline = IsDue old.deadline moment
StopCause old new moment silence stops.Silent = (most : ℕ) × (silence ≡ Some most)
StopCause old new moment silence stops.Ticks = Unit {0}

-- ---- a look before a read or a write

-- the peer was silent from the wait's first moment up to this one, for longer than it may be
abbrev pub IsSilent : Option ℕ → ℕ → ℕ → Type 0
IsSilent silence since now = (most : ℕ) × (silence ≡ Some most) × (since + most < now)

-- when each answer of such a look may come
abbrev pub CheckCause : GuardView → GuardView → Limit → ℕ → Option Stop → Type 0
CheckCause old new limit now None = IsBefore old.deadline now
CheckCause old new limit now (Some stops.Cancelled) = Rose old.cancels new.cancels
CheckCause old new limit now (Some stops.Deadline) = IsDue old.deadline now
CheckCause old new limit now (Some stops.Silent) = IsSilent limit.silence limit.since now
CheckCause old new limit now (Some stops.Ticks) = ⊥

pub record CheckStep (old new : GuardView) (limit : Limit) (now : ℕ) (result : Option Stop) : Type 0 where
  pub goes : GuardGoes old new now
  pub cause : CheckCause old new limit now result

-- ---- a wait for bytes

-- what a wait for bytes that brought none logs
abbrev pub loss_acts : ℕ → Loss → List Act
loss_acts link loss.End = LinkEnd link ∷ []
loss_acts link loss.Failed = ReadFailed link ∷ []
loss_acts link (loss.Stopped why) = []

-- what it costs
abbrev pub loss_bill : Option ℕ → Loss → Bill
loss_bill silence loss.End = free
loss_bill silence loss.Failed = free
loss_bill silence (loss.Stopped why) = stop_bill silence why

-- when it may come
abbrev pub LossCause : Side → Side → LinkView → LinkView → Option ℕ → Loss → Type 0
LossCause old new from to silence loss.End = Rose from.ends to.ends
LossCause old new from to silence loss.Failed = Rose from.faults to.faults
LossCause old new from to silence (loss.Stopped why) = StopCause old.guard new.guard new.wire.moment silence why

-- what a wait for bytes logs; a piece is what came
abbrev pub heard_acts : ℕ → List ℕ → Heard → List Act
heard_acts link piece heard.Got = Read link piece ∷ []
heard_acts link piece (heard.Lost why) = loss_acts link why

abbrev pub heard_bill : Option ℕ → Heard → Bill
heard_bill silence heard.Got = free
heard_bill silence (heard.Lost why) = loss_bill silence why

-- when each answer of a wait for bytes may come
abbrev pub HeardCause : Side → Side → LinkView → LinkView → List ℕ → Option ℕ → Heard → Type 0
HeardCause old new from to piece silence heard.Got = 0 < length piece
HeardCause old new from to piece silence (heard.Lost why) = LossCause old new from to silence why × (piece ≡ [])

-- a wait for bytes, which brought a piece or nothing
pub record HeardStep (old new : Side) (from to : LinkView) (piece : List ℕ) (silence : Option ℕ) (result : Heard) : Type 0 where
  pub waited : Waited old new (heard_bill silence result) (Acts (heard_acts from.number piece result))
  pub link : LinkLater from to
  pub cause : HeardCause old new from to piece silence result

-- ---- a wait for a link to take bytes

-- what it logs
abbrev pub taken_acts : ℕ → List ℕ → Taken → List Act
taken_acts link bytes (taken.Some n) = Wrote link (take n bytes) ∷ []
taken_acts link bytes taken.Failed = WriteFailed link ∷ []
taken_acts link bytes (taken.Stopped why) = []

abbrev pub taken_bill : Option ℕ → Taken → Bill
taken_bill silence (taken.Some n) = free
taken_bill silence taken.Failed = free
taken_bill silence (taken.Stopped why) = stop_bill silence why

-- when each answer of such a wait may come
abbrev pub TakenCause : Side → Side → LinkView → LinkView → List ℕ → Option ℕ → Taken → Type 0
TakenCause old new from to bytes silence (taken.Some n) = (0 < n) × (n ≤ length bytes)
TakenCause old new from to bytes silence taken.Failed = Rose from.faults to.faults
TakenCause old new from to bytes silence (taken.Stopped why) = StopCause old.guard new.guard new.wire.moment silence why

pub record TakenStep (old new : Side) (from to : LinkView) (bytes : List ℕ) (silence : Option ℕ) (result : Taken) : Type 0 where
  pub waited : Waited old new (taken_bill silence result) (Acts (taken_acts from.number bytes result))
  pub link : LinkLater from to
  pub cause : TakenCause old new from to bytes silence result

-- ---- a write of many bytes

-- an act that wrote to this link
abbrev pub IsWriteOf : ℕ → Act → Type 0
IsWriteOf link act = (piece : List ℕ) × (act ≡ Wrote link piece)

-- a stretch of writes to one link, which took just these bytes
pub record Writes (link : ℕ) (bytes : List ℕ) (acts : List Act) : Type 0 where
  pub only : All (IsWriteOf link) acts
  pub all : bytes_written link acts ≡ bytes

-- a stretch in which a link was to be written these bytes: they went whole, or the link failed behind a front of them,
-- which has a byte or none, or a wait was given up behind a front
abbrev pub Says : ℕ → List ℕ → Sent → List Act → Type 0
Says link bytes sent.All acts = Writes link bytes acts
Says link bytes (sent.Failed some) acts =
    (front : List ℕ) × (rest : List ℕ) × (bytes ≡ front ++ rest) × (some ≡ nat_lt 0 (length front))
    × Then (Writes link front) (Acts (WriteFailed link ∷ [])) acts
Says link bytes (sent.Stopped why) acts = (front : List ℕ) × (rest : List ℕ) × (bytes ≡ front ++ rest) × Writes link front acts

abbrev pub sent_bill : Option ℕ → Sent → Bill
sent_bill silence sent.All = free
sent_bill silence (sent.Failed some) = free
sent_bill silence (sent.Stopped why) = stop_bill silence why

-- when each answer of a write of many bytes may come
abbrev pub SentCause : Side → Side → LinkView → LinkView → Option ℕ → Sent → Type 0
SentCause old new from to silence sent.All = Unit {0}
SentCause old new from to silence (sent.Failed some) = Rose from.faults to.faults
SentCause old new from to silence (sent.Stopped why) = StopCause old.guard new.guard new.wire.moment silence why

-- how a write ends behind another one that went whole, of some bytes or of none
abbrev pub said_behind : Bool → Sent → Sent
said_behind some sent.All = sent.All
said_behind some (sent.Failed part) = sent.Failed (some || part)
said_behind some (sent.Stopped why) = sent.Stopped why

-- so many bytes were taken of those that were to be written
abbrev pub SaysFront : ℕ → List ℕ → Sent → List Act → Type 0
SaysFront link front sent.All acts = Writes link front acts
SaysFront link front (sent.Failed some) acts = Then (Writes link front) (Acts (WriteFailed link ∷ [])) acts
SaysFront link front (sent.Stopped why) acts = Writes link front acts

abbrev pub IsCounted : List ℕ → ℕ → Sent → Type 0
IsCounted bytes count sent.All = count ≡ length bytes
IsCounted bytes count (sent.Failed some) = some ≡ nat_lt 0 count
IsCounted bytes count (sent.Stopped why) = Unit {0}

pub record CountedStep (old new : Side) (from to : LinkView) (bytes : List ℕ) (count : ℕ) (silence : Option ℕ) (result : Sent) : Type 0 where
  pub within : count ≤ length bytes
  pub counted : IsCounted bytes count result
  pub waited : Waited old new (sent_bill silence result) (SaysFront from.number (take count bytes) result)
  pub link : LinkLater from to
  pub cause : SentCause old new from to silence result

pub record SentStep (old new : Side) (from to : LinkView) (bytes : List ℕ) (silence : Option ℕ) (result : Sent) : Type 0 where
  pub waited : Waited old new (sent_bill silence result) (Says from.number bytes result)
  pub link : LinkLater from to
  pub cause : SentCause old new from to silence result
