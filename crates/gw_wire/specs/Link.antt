use Rattle.std.specs.Prelude.{ℕ, ◌≡◌, ◌≤◌}

-- what contracts see of a link: its number, and how often it failed and ended so far
pub record LinkView : Type 0 where
  pub number : ℕ
  pub faults : ℕ
  pub ends : ℕ

-- a link as a call leaves it: the number stays, the counts never fall
pub record LinkLater (old new : LinkView) : Type 0 where
  pub number : new.number ≡ old.number
  pub faults : old.faults ≤ new.faults
  pub ends : old.ends ≤ new.ends
