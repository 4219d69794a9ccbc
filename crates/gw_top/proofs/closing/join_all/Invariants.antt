use Rattle.std.proofs.Common.{◌≡◌, ◌≤◌, ◌+◌, ◌++◌, All, length, vec_capacity}
use Rattle.gw_top.specs.Closing.{IsBack, ctxs_of, gates_of, passes_of}
use Rattle.gw_top.specs.Crew.{workers_of}
use Rattle.gw_top.proofs.closing.join_all.Given as goal

-- what is joined and what is still to be joined are the whole
abbrev pub invariant-loop-joined : goal.invariant-loop-joined
invariant-loop-joined g l =
    (passes_of l.pass l.rest.items ≡ passes_of l.initial.pass l.initial.rest.items)
    × (gates_of l.gate_seat l.rest.items ≡ gates_of l.initial.gate_seat l.initial.rest.items)
    × (ctxs_of l.ctx_seat l.rest.items ≡ ctxs_of l.initial.ctx_seat l.initial.rest.items)
    × (l.workers.items ++ workers_of l.rest.items ≡ l.initial.workers.items ++ workers_of l.initial.rest.items)
    × (l.pass.pool ≡ l.house.pool) × (l.gate_seat.name.gate ≡ l.house.gate) × (l.ctx_seat.table ≡ l.house.ctx.id)
    × All (IsBack l.house) l.rest.items
    × (length l.rest.items + l._joined ≡ length l.initial.rest.items)
    × (length l.workers.items + length l.rest.items ≤ vec_capacity l.workers)
