-- What contracts see of a link in memory, and what it plays: which answer comes, and what is left of its scripts.
use Rattle.std.specs.Prelude.{ℕ, ◌≡◌, ◌<◌, ◌≤◌, ◌++◌, ◌+◌, ◌-◌, ◌^◌, min, nat_eq, nat_lt, Bool, true, false, ◌&&◌, List, [], ◌∷◌, length, take, drop, if◌then◌else◌}
use Rattle.std.specs.List.{list_all}
use Rattle.gw_wire.specs.declared.memory.script.ConnEvent.{ConnEvent}
use Rattle.gw_wire.specs.declared.memory.script.ConnEvent.TheVariants.{Piece}
use Rattle.gw_wire.specs.declared.memory.script.ConnEvent.TheVariants as event
use Rattle.gw_wire.specs.declared.traits.Read.{Read}
use Rattle.gw_wire.specs.declared.traits.Read.TheVariants as read
use Rattle.gw_wire.specs.declared.traits.Write.{Write}
use Rattle.gw_wire.specs.declared.traits.Write.TheVariants as write
use Rattle.gw_wire.specs.Causes.{Rose}
use Rattle.gw_wire.specs.Link.{LinkView}

-- a link in memory: what any link has, and what is left of its scripts
pub record ConnState : Type 0 where
  pub number : ℕ
  pub faults : ℕ
  pub ends : ℕ
  -- what comes when it is read
  pub events : List ConnEvent
  -- how many bytes each write takes, where 0 fails
  pub takes : List ℕ

abbrev pub conn_view : ConnState → LinkView
conn_view c = record { number = c.number; faults = c.faults; ends = c.ends }

-- a link that never fails
abbrev pub honest_conn_view : ConnState → LinkView
honest_conn_view c = record { number = c.number; faults = 0; ends = c.ends }

-- a link on which nothing ever comes, and which takes everything
abbrev pub silent_link : ConnState
silent_link = record { number = 0; faults = 0; ends = 0; events = []; takes = [] }

-- one more; at the end of its type a count stands still
abbrev pub counted : ℕ → ℕ
counted n = min (n + 1) (2 ^ 64 - 1)

-- a row of events whose first piece was read up to an offset
abbrev pub cut : ℕ → List ConnEvent → List ConnEvent
cut offset [] = []
cut offset (Piece bytes ∷ events) = Piece (drop offset bytes) ∷ events
cut offset (event.Tick ∷ events) = event.Tick ∷ events
cut offset (event.End ∷ events) = event.End ∷ events
cut offset (event.Failed ∷ events) = event.Failed ∷ events

-- how long the piece is that comes first
abbrev pub first_len : List ConnEvent → ℕ
first_len [] = 0
first_len (Piece bytes ∷ events) = length bytes
first_len (event.Tick ∷ events) = 0
first_len (event.End ∷ events) = 0
first_len (event.Failed ∷ events) = 0

-- an offset into what comes first: within a piece with a byte left, or 0
abbrev pub IsReady : List ConnEvent → ℕ → Type 0
IsReady [] offset = offset ≡ 0
IsReady (Piece bytes ∷ events) offset = offset < length bytes
IsReady (event.Tick ∷ events) offset = offset ≡ 0
IsReady (event.End ∷ events) offset = offset ≡ 0
IsReady (event.Failed ∷ events) offset = offset ≡ 0

-- the events without the pieces at their front that have no byte
abbrev pub met : List ConnEvent → List ConnEvent
met [] = []
met (Piece [] ∷ events) = met events
met (Piece (b ∷ bytes) ∷ events) = Piece (b ∷ bytes) ∷ events
met (event.Tick ∷ events) = event.Tick ∷ events
met (event.End ∷ events) = event.End ∷ events
met (event.Failed ∷ events) = event.Failed ∷ events

-- what a read into a buffer of so much room gives: its answer, the bytes, and the events that are left
pub record Heard : Type 0 where
  pub answer : Read
  pub bytes : List ℕ
  pub left : List ConnEvent

abbrev pub heard_of : ℕ → List ConnEvent → Heard
heard_of room [] = record { answer = read.End; bytes = []; left = [] }
heard_of room (Piece bytes ∷ events) = record {
  answer = read.Got (min (length bytes) room);
  bytes = take (min (length bytes) room) bytes;
  left = Piece (drop (min (length bytes) room) bytes) ∷ events;
}
heard_of room (event.Tick ∷ events) = record { answer = read.Tick; bytes = []; left = events }
heard_of room (event.End ∷ events) = record { answer = read.End; bytes = []; left = events }
heard_of room (event.Failed ∷ events) = record { answer = read.Failed; bytes = []; left = events }

abbrev pub heard : ℕ → List ConnEvent → Heard
heard room events = heard_of room (met events)

-- a link's counts behind a read
abbrev pub heard_counts : Read → ConnState → ConnState
heard_counts (read.Got n) c = c
heard_counts read.End c = record c { ends = counted c.ends }
heard_counts read.Tick c = c
heard_counts read.Failed c = record c { faults = counted c.faults }

-- a link behind a read
abbrev pub received : ℕ → ConnState → ConnState
received room c = heard_counts (heard room c.events).answer (record c { events = (heard room c.events).left })

-- what a write of so many bytes gives: past the script it takes all of them
abbrev pub taken_by : ℕ → List ℕ → Write
taken_by count [] = write.Took count
taken_by count (n ∷ takes) = if nat_eq n 0 then write.Failed else write.Took (min n count)

abbrev pub taken_counts : Write → ConnState → ConnState
taken_counts (write.Took n) c = c
taken_counts write.Tick c = c
taken_counts write.Failed c = record c { faults = counted c.faults }

-- a link behind a write
abbrev pub sent : ℕ → ConnState → ConnState
sent count c = taken_counts (taken_by count c.takes) (record c { takes = drop 1 c.takes })

-- the bytes that a row of events sends
abbrev pub sent_by : List ConnEvent → List ℕ
sent_by [] = []
sent_by (Piece bytes ∷ events) = bytes ++ sent_by events
sent_by (event.Tick ∷ events) = sent_by events
sent_by (event.End ∷ events) = sent_by events
sent_by (event.Failed ∷ events) = sent_by events

-- no read of a link fails, and no write
abbrev pub is_heard : ConnEvent → Bool
is_heard (Piece bytes) = true
is_heard event.Tick = true
is_heard event.End = true
is_heard event.Failed = false

abbrev pub is_honest_link : ConnState → Bool
is_honest_link c = list_all is_heard c.events && list_all (λ n. nat_lt 0 n) c.takes

-- when each answer of a read may come, of a link alone
abbrev pub ReceiveCause : ConnState → ConnState → List ℕ → Read → Type 0
ReceiveCause old new buffer (read.Got n) = (0 < n) × (n ≤ length buffer)
ReceiveCause old new buffer read.End = Rose old.ends new.ends
ReceiveCause old new buffer read.Tick = Unit {0}
ReceiveCause old new buffer read.Failed = Rose old.faults new.faults

-- when each answer of a write may come, of a link alone
abbrev pub SendCause : ConnState → ConnState → List ℕ → Write → Type 0
SendCause old new bytes (write.Took n) = (0 < n) × (n ≤ length bytes)
SendCause old new bytes write.Tick = ⊥
SendCause old new bytes write.Failed = Rose old.faults new.faults

-- no byte of a script is lost or given twice
abbrev pub ScriptBytesAreKept : Type 0
ScriptBytesAreKept = (room : ℕ) (events : List ConnEvent) → sent_by events ≡ (heard room events).bytes ++ sent_by (heard room events).left
