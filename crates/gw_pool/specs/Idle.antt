-- The connections that are idle at a pool's end.
use Rattle.std.specs.Prelude.{ℕ, zero, suc, List, [], ◌∷◌, map, length, Option, Some, None}
use Rattle.gw_pool.specs.declared.limits.Limits.{Limits}
use Rattle.gw_pool.specs.declared.entry.Entry.{Entry}
use Rattle.gw_pool.specs.declared.rows.ConnRow.{ConnRow}
use Rattle.gw_pool.specs.State.{State, take_oldest}
use Rattle.gw_pool.specs.History.{after}

abbrev pub before_others : (State → List ConnRow) → Option ConnRow × State → List ConnRow
before_others others (None, s) = []
before_others others (Some row, s) = row ∷ others s

-- the first so many idle rows, the least recently idle first: those that as many calls of CloseIdle take
abbrev pub first_idle : ℕ → State → List ConnRow
first_idle zero s = []
first_idle (suc n) s = before_others (first_idle n) (take_oldest s)

-- all idle rows, the least recently idle first
abbrev pub idle_rows : State → List ConnRow
idle_rows s = first_idle (length s.conns) s

-- the links of the connections that are idle after a history, the least recently idle first
abbrev pub idle_links : Limits → List Entry → List ℕ
idle_links limits history = map (λ row. row.link) (idle_rows (after limits history))
