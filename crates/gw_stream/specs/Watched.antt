-- What is seen of a guard that is looked at beside a wire.
use Rattle.std.specs.Prelude.{ℕ, ◌≡◌, ◌⊎◌, Option}
use Rattle.gw_wire.specs.Wire.{WireView}
use Rattle.gw_stream.specs.Guard.{GuardView, GuardGoes, IsBefore}

-- no wait began since, or the last one began before the deadline
abbrev pub Asked : Option ℕ → ℕ → ℕ → Type 0
Asked deadline before now = (now ≡ before) ⊎ IsBefore deadline now

-- what looks did meanwhile, and that no wait began at or past the deadline
pub record Watched (old new : WireView) (from to : GuardView) : Type 0 where
  pub goes : GuardGoes from to new.moment
  pub asked : Asked from.deadline old.asked new.asked
