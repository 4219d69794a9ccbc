-- A dial that was begun leads to the machine's state.
use Rattle.std.proofs.Common.{◌≡◌, ℕ, ap, ◌∙◌}
use Rattle.std.specs.List.{find}
use Rattle.std.specs.Option.{ForSome}
use Rattle.gw_pool.specs.Core.{CoreView, Started, state_at}
use Rattle.gw_pool.specs.Machine.{Outcome, start_row}
use Rattle.gw_pool.specs.State.{wants_it}
use Rattle.gw_pool.proofs.Histories.{entered_state}
use Rattle.gw_pool.proofs.Inverts.{start_was}
use Rattle.gw_pool.proofs.tests.started.Goals as goal

started_state : (old new : CoreView) (want : ℕ) → Started old new want → ForSome (find (wants_it want) (state_at old).wants) (λ row. state_at new ≡ (start_row (state_at old) row).state)
started_state old new want m =
    let was = start_was old.limits (state_at old) m.caller want m.outcome m.enters.fits in
    rw (m.enters.limits, m.enters.journal, was.found) (λ row e. let same : was.row ≡ row = cc in rw (← same) (entered_state old.limits old.journal m.caller _ m.outcome m.enters.fits ∙ ap (λ (o : Outcome). o.state) was.same))

pub returns-then-start-clause-state : goal.returns-then-start-clause-state
returns-then-start-clause-state c = started_state _ _ _ c.if-start.ensures
