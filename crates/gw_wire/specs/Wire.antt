-- What contracts see of a wire, and the calls that end no wait.
use Rattle.std.specs.Prelude.{ℕ, ◌≡◌, ◌≤◌, ◌<◌, Bool, true, false, List, [], Option, Some, None}
use Rattle.gw_wire.specs.declared.values.Act.{Act}
use Rattle.gw_wire.specs.declared.values.Act.TheVariants.{Closed}
use Rattle.gw_wire.specs.declared.values.Addr.{Addr}
use Rattle.gw_wire.specs.Causes.{Rose}
use Rattle.gw_wire.specs.Acts.{Logs, Appends}

-- the counts of what happened on a wire, its clock, and its log where it tells one
pub record WireView : Type 0 where
  pub accept_faults : ℕ
  pub dial_faults : ℕ
  -- how often a wait passed with nothing to show, and how often the wire rested
  pub ticks : ℕ
  pub rests : ℕ
  -- the moment that was read last, and the one of the beginning
  pub moment : ℕ
  pub first : ℕ
  -- the moment at which the last read, write or rest began
  pub asked : ℕ
  -- whether the clock has to be read before the next wait
  pub aged : Bool
  -- whether the listener has ended
  pub ended : Bool
  -- the addresses that one address stands for; none stands for itself alone
  pub groups : Addr → List Addr
  pub log : Option (List Act)

-- a wire as any call leaves it: no count falls, nor the clock; what is fixed stays; an end is for good
pub record Later (old new : WireView) : Type 0 where
  pub accept_faults : old.accept_faults ≤ new.accept_faults
  pub dial_faults : old.dial_faults ≤ new.dial_faults
  pub ticks : old.ticks ≤ new.ticks
  pub rests : old.rests ≤ new.rests
  pub moment : old.moment ≤ new.moment
  pub first : new.first ≡ old.first
  pub ended : old.ended ≡ true → new.ended ≡ true
  pub groups : new.groups ≡ old.groups

-- a log has no act, where it is told
abbrev pub HasNoActs : Option (List Act) → Type 0
HasNoActs None = Unit {0}
HasNoActs (Some acts) = acts ≡ []

-- a wire that was just made: nothing has happened on it, and its log, where told, is empty
pub record IsFresh (wire : WireView) : Type 0 where
  pub accept_faults : wire.accept_faults ≡ 0
  pub dial_faults : wire.dial_faults ≡ 0
  pub ticks : wire.ticks ≡ 0
  pub rests : wire.rests ≡ 0
  pub moment : wire.moment ≡ wire.first
  pub asked : wire.asked ≡ 0
  pub aged : wire.aged ≡ false
  pub ended : wire.ended ≡ false
  pub log : HasNoActs wire.log

-- a close takes the link and can't fail
pub record CloseStep (old new : WireView) (link : ℕ) : Type 0 where
  pub later : Later old new
  pub log : Appends old.log new.log (Closed link)
  pub moment : new.moment ≡ old.moment
  pub begun : new.first ≤ new.moment
  pub asked : new.asked ≡ old.asked
  pub aged : new.aged ≡ old.aged

-- a rest waits a little: it is no tick, and the clock has to be read after it
pub record RestStep (old new : WireView) : Type 0 where
  pub later : Later old new
  pub rested : Rose old.rests new.rests
  pub ticks : new.ticks ≡ old.ticks
  pub log : Logs old.log new.log []
  pub moment : new.moment ≡ old.moment
  pub begun : new.first ≤ new.moment
  pub asked : new.asked ≡ old.moment
  pub aged : new.aged ≡ true

-- the clock was read: milliseconds since 1970-01-01T00:00:00Z, before the year 10000
pub record NowStep (old new : WireView) (now : ℕ) : Type 0 where
  pub later : Later old new
  pub given : new.moment ≡ now
  pub begun : new.first ≤ now
  pub year : now < 253402300800000
  pub log : Logs old.log new.log []
  pub asked : new.asked ≡ old.asked
  pub aged : new.aged ≡ false
