-- A connection that is given back leads to the machine's state.
use Rattle.std.proofs.Common.{◌≡◌, ℕ, Option, ap, ◌∙◌}
use Rattle.std.specs.List.{find}
use Rattle.std.specs.Option.{ForSome}
use Rattle.gw_wire.specs.Link.{LinkView}
use Rattle.gw_pool.specs.declared.entry.Call.TheVariants as call
use Rattle.gw_pool.specs.Core.{CoreView, DonePut, state_at}
use Rattle.gw_pool.specs.Machine.{Outcome, back_row}
use Rattle.gw_pool.specs.State.{has_number}
use Rattle.gw_pool.proofs.Histories.{entered_state}
use Rattle.gw_pool.proofs.Inverts.{back_was}
use Rattle.gw_pool.proofs.tests.put_back.Goals as goal

back_state : {C : Type 0} (see : C → LinkView) (old new : CoreView) (number : ℕ) (close : Option C) → DonePut see old new (call.GiveBack number 0) close
    → ForSome (find (has_number number) (state_at old).conns) (λ row. state_at new ≡ (back_row old.limits (state_at old) row 0).state)
back_state see old new number close m =
    let was = back_was old.limits (state_at old) m.caller number 0 m.outcome m.enters.fits in
    rw (m.enters.limits, m.enters.journal, was.found) (λ row e. let same : was.row ≡ row = cc in rw (← same) (entered_state old.limits old.journal m.caller _ m.outcome m.enters.fits ∙ ap (λ (o : Outcome). o.state) was.same))

pub returns-clause-state : goal.returns-clause-state
returns-clause-state c = back_state _ _ _ _ _ c.give_back-close.ensures
