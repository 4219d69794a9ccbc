-- The tree: the patterns' numbers in the order of their branches, so that each node is a run of them.
use Rattle.std.specs.Prelude.{◌≡◌, ℕ, ◌+◌, ◌<◌, List, Contains, length, ◌↔◌}
use Rattle.std.specs.List.Sorted.{IsSortedBy}
use Rattle.std.specs.Ordering.{is_lt}
use Rattle.gw_pattern.specs.declared.form.Pattern.{Pattern}
use Rattle.gw_mux.specs.Keys.{first_key, keys_cmp, tail_at}

-- the numbers rise by what their patterns' branches are from that depth on
unfoldable pub IsSortedFrom : List Pattern → ℕ → List ℕ → Type 0
IsSortedFrom patterns depth numbers =
    IsSortedBy (λ i j. is_lt (keys_cmp (tail_at patterns depth i) (tail_at patterns depth j))) numbers

-- the numbers of all patterns, in this order
pub record IsOrder (patterns : List Pattern) (numbers : List ℕ) : Type 0 where
  pub sorted : IsSortedFrom patterns 0 numbers
  pub all : (i : ℕ) → Contains numbers i ↔ (i < length patterns)

-- those of the numbers whose branch at that depth has this key
pub record IsRun (patterns : List Pattern) (depth : ℕ) (key : List ℕ) (numbers run : List ℕ) : Type 0 where
  pub within : (i : ℕ) → Contains run i → Contains numbers i × (first_key (tail_at patterns depth i) ≡ key)
  pub all : (i : ℕ) → Contains numbers i → first_key (tail_at patterns depth i) ≡ key → Contains run i
  pub sorted : IsSortedFrom patterns (depth + 1) run
