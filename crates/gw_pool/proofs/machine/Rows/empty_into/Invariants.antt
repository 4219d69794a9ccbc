use Rattle.std.proofs.Common.{◌≡◌, ◌++◌, map, length, ◌+◌, ◌≤◌, vec_len, vec_capacity}
use Rattle.gw_pool.specs.Idle.{idle_rows}
use Rattle.gw_pool.specs.Rows.{state_of}
use Rattle.gw_pool.proofs.machine.Rows.empty_into.Given as goal

abbrev pub invariant-loop-conn : goal.invariant-loop-conn
invariant-loop-conn g l =
    (vec_len l.idle + length l.self.conns.rows ≤ vec_capacity l.idle)
    × (map (λ c. (g.C.Link.link c).number) l.idle.items ++ map (λ row. row.link) (idle_rows (state_of l.self))
    ≡ map (λ c. (g.C.Link.link c).number) l.initial.idle.items ++ map (λ row. row.link) (idle_rows (state_of l.initial.self)))

abbrev pub decreases-loop-conn : goal.decreases-loop-conn
decreases-loop-conn g l = length l.self.conns.rows
