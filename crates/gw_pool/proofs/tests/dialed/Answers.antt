-- What a dial gave leads to the machine's state.
use Rattle.std.proofs.Common.{◌≡◌, ℕ, Option, ap, ◌∙◌}
use Rattle.std.specs.List.{find}
use Rattle.std.specs.Option.{ForSome}
use Rattle.gw_wire.specs.Link.{LinkView}
use Rattle.gw_pool.specs.declared.entry.Call.TheVariants as call
use Rattle.gw_pool.specs.Core.{CoreView, DonePut, state_at}
use Rattle.gw_pool.specs.Machine.{Outcome, dialed_row}
use Rattle.gw_pool.specs.State.{dials_for}
use Rattle.gw_pool.proofs.Histories.{entered_state}
use Rattle.gw_pool.proofs.Inverts.{dialed_was}
use Rattle.gw_pool.proofs.tests.dialed.Goals as goal

dialed_state : {C : Type 0} (see : C → LinkView) (old new : CoreView) (want link : ℕ) (close : Option C) → DonePut see old new (call.Dialed want link 0) close
    → ForSome (find (dials_for want) (state_at old).dials) (λ row. state_at new ≡ (dialed_row old.limits (state_at old) row link 0).state)
dialed_state see old new want link close m =
    let was = dialed_was old.limits (state_at old) m.caller want link 0 m.outcome m.enters.fits in
    rw (m.enters.limits, m.enters.journal, was.found) (λ row e. let same : was.row ≡ row = cc in rw (← same) (entered_state old.limits old.journal m.caller _ m.outcome m.enters.fits ∙ ap (λ (o : Outcome). o.state) was.same))

pub returns-clause-state : goal.returns-clause-state
returns-clause-state c = dialed_state _ _ _ _ _ _ c.dialed-close.ensures
