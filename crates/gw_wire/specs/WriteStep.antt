use Rattle.std.specs.Prelude.{ℕ, ◌≡◌, ◌<◌, ◌≤◌, Bool, true, false, List, [], ◌∷◌, length, take}
use Rattle.gw_wire.specs.declared.values.Act.{Act}
use Rattle.gw_wire.specs.declared.values.Act.TheVariants.{Wrote, WriteFailed}
use Rattle.gw_wire.specs.declared.traits.Write.{Write}
use Rattle.gw_wire.specs.declared.traits.Write.TheVariants.{Took, Tick, Failed}
use Rattle.gw_wire.specs.Causes.{Rose}
use Rattle.gw_wire.specs.Acts.{Logs}
use Rattle.gw_wire.specs.Link.{LinkView, LinkLater}
use Rattle.gw_wire.specs.Wire.{WireView, Later}

-- when each answer of a write of these bytes may come
abbrev pub WriteCause : WireView → WireView → LinkView → LinkView → List ℕ → Write → Type 0
WriteCause old new from to bytes (Took n) = (0 < n) × (n ≤ length bytes)
WriteCause old new from to bytes Tick = Rose old.ticks new.ticks
WriteCause old new from to bytes Failed = Rose from.faults to.faults

-- what a write to a link logs: the first n bytes, or its failure
abbrev pub write_acts : ℕ → List ℕ → Write → List Act
write_acts link bytes (Took n) = Wrote link (take n bytes) ∷ []
write_acts link bytes Tick = []
write_acts link bytes Failed = WriteFailed link ∷ []

-- only a tick wants the clock to be read
abbrev pub is_write_tick : Write → Bool
is_write_tick (Took n) = false
is_write_tick Tick = true
is_write_tick Failed = false

-- bytes were offered to a link
pub record WriteStep (old new : WireView) (from to : LinkView) (bytes : List ℕ) (result : Write) : Type 0 where
  pub later : Later old new
  pub link : LinkLater from to
  pub cause : WriteCause old new from to bytes result
  pub log : Logs old.log new.log (write_acts from.number bytes result)
  pub moment : new.moment ≡ old.moment
  pub begun : new.first ≤ new.moment
  pub asked : new.asked ≡ old.moment
  pub aged : new.aged ≡ is_write_tick result
