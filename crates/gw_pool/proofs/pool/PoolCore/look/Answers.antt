-- How a want stands, by the row that is found.
use Rattle.std.proofs.Common.{sym, ◌∙◌, ap}
use Rattle.std.specs.List.{find}
use Rattle.gw_pool.specs.State.{wants_it}
use Rattle.gw_pool.specs.Rows.{state_of}
use Rattle.gw_pool.proofs.pool.PoolCore.look.Goals as goal
use Rattle.gw_pool.proofs.Standings.{may_dial, not_served, not_coming}

pub returns-then-is_granted : goal.returns-then-is_granted
returns-then-is_granted g c = rw (← c.self.view_is, ← c.self.invariant.state) (may_dial (state_of c.self.inside.rows) c.args.want c.in-Some.row (rw (← c.self.view_is, ← c.self.invariant.state) at c.requires) (sym (c.in-Some.ensures ∙ ap (λ l. find (wants_it c.args.want) l) c.as_slice.ensures.value)) (sym c.is_granted.ensures ∙ c.if-is_granted.true))

pub returns-else-is_granted : goal.returns-else-is_granted
returns-else-is_granted g c = rw (← c.self.view_is, ← c.self.invariant.state) (not_served (state_of c.self.inside.rows) c.args.want c.in-Some.row (rw (← c.self.view_is, ← c.self.invariant.state) at c.requires) (sym (c.in-Some.ensures ∙ ap (λ l. find (wants_it c.args.want) l) c.as_slice.ensures.value)) (sym c.is_granted.ensures ∙ c.if-is_granted.false))

pub returns-in-None : goal.returns-in-None
returns-in-None g c = rw (← c.self.view_is, ← c.self.invariant.state)
    (not_coming (state_of c.self.inside.rows) c.args.want (rw (← c.self.view_is, ← c.self.invariant.state) at c.requires) (sym (c.in-None.ensures ∙ ap (λ l. find (wants_it c.args.want) l) c.as_slice.ensures.value)))
