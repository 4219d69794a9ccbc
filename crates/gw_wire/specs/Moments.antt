-- Moments in their order.
use Rattle.std.specs.Prelude.{ℕ, ◌≤◌, List, [], ◌∷◌}

-- moments that never fall, between two others
abbrev pub Rises : ℕ → List ℕ → ℕ → Type 0
Rises first [] final = first ≤ final
Rises first (moment ∷ moments) final = (first ≤ moment) × Rises moment moments final
