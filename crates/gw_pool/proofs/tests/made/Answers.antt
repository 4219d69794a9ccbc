-- A want that was made leads to the machine's state.
use Rattle.std.proofs.Common.{◌≡◌, ℕ, ap, ◌∙◌}
use Rattle.gw_pool.specs.Core.{CoreView, WantMade, state_at}
use Rattle.gw_pool.specs.Machine.{Outcome, want_step}
use Rattle.gw_pool.proofs.Histories.{entered_state}
use Rattle.gw_pool.proofs.Inverts.{want_was}
use Rattle.gw_pool.proofs.tests.made.Goals as goal

made_state : (old new : CoreView) (caller want : ℕ) → WantMade old new caller 0 0 want → state_at new ≡ (want_step old.limits (state_at old) caller 0 0).state
made_state old new caller want m =
    rw (m.enters.limits, m.enters.journal) (entered_state old.limits old.journal caller _ m.outcome m.enters.fits ∙ ap (λ (o : Outcome). o.state) (want_was old.limits (state_at old) caller 0 0 m.outcome m.enters.fits))

pub returns-in-Made-clause-state : goal.returns-in-Made-clause-state
returns-in-Made-clause-state c = made_state _ _ _ _ c.in-Made.ensures
