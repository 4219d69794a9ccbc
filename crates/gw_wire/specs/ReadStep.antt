use Rattle.std.specs.Prelude.{ℕ, ◌≡◌, ◌<◌, ◌≤◌, Bool, true, false, List, [], ◌∷◌, length, take}
use Rattle.gw_wire.specs.declared.values.Act.{Act}
use Rattle.gw_wire.specs.declared.values.Act.TheVariants.{ReadFailed}
use Rattle.gw_wire.specs.declared.values.Act.TheVariants.{Read as ReadAct, End as EndAct}
use Rattle.gw_wire.specs.declared.traits.Read.{Read}
use Rattle.gw_wire.specs.declared.traits.Read.TheVariants.{Got, End, Tick, Failed}
use Rattle.gw_wire.specs.Causes.{Rose}
use Rattle.gw_wire.specs.Acts.{Logs}
use Rattle.gw_wire.specs.Link.{LinkView, LinkLater}
use Rattle.gw_wire.specs.Wire.{WireView, Later}

-- when each answer of a read into a buffer may come
abbrev pub ReadCause : WireView → WireView → LinkView → LinkView → List ℕ → Read → Type 0
ReadCause old new from to buffer (Got n) = (0 < n) × (n ≤ length buffer)
ReadCause old new from to buffer End = Rose from.ends to.ends
ReadCause old new from to buffer Tick = Rose old.ticks new.ticks
ReadCause old new from to buffer Failed = Rose from.faults to.faults

-- what a read of a link logs: the first n bytes of the buffer, its end, or its failure
abbrev pub read_acts : ℕ → List ℕ → Read → List Act
read_acts link buffer (Got n) = ReadAct link (take n buffer) ∷ []
read_acts link buffer End = EndAct link ∷ []
read_acts link buffer Tick = []
read_acts link buffer Failed = ReadFailed link ∷ []

-- the bytes that a read gave
abbrev pub given_by : List ℕ → Read → List ℕ
given_by buffer (Got n) = take n buffer
given_by buffer _ = []

-- only a tick wants the clock to be read
abbrev pub is_read_tick : Read → Bool
is_read_tick (Got n) = false
is_read_tick End = false
is_read_tick Tick = true
is_read_tick Failed = false

-- a link was read into a buffer
pub record ReadStep (old new : WireView) (from to : LinkView) (buffer : List ℕ) (result : Read) : Type 0 where
  pub later : Later old new
  pub link : LinkLater from to
  pub cause : ReadCause old new from to buffer result
  pub log : Logs old.log new.log (read_acts from.number buffer result)
  pub moment : new.moment ≡ old.moment
  pub begun : new.first ≤ new.moment
  pub asked : new.asked ≡ old.moment
  pub aged : new.aged ≡ is_read_tick result
