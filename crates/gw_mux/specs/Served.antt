-- The patterns of a host that match a path but for the method.
use Rattle.std.specs.Prelude.{◌≡◌, ℕ, true, false, Bool, List, ◌⊎◌}
use Rattle.gw_pattern.specs.declared.form.Pattern.{Pattern}
use Rattle.gw_sets.specs.Matches.{SegsMatch}
use Rattle.gw_mux.specs.Table.{IsAt}

-- the pattern has these host bytes, and matches the path, or this with a slash more where it ends in none
unfoldable pub Serves : List Pattern → List ℕ → List (List ℕ) → Bool → ℕ → Type 0
Serves patterns host parts slash i =
    (p : Pattern) × IsAt patterns i p × (p.host ≡ host)
    × (SegsMatch p.segs.items parts slash ⊎ ((slash ≡ false) × SegsMatch p.segs.items parts true))
