use Rattle.std.proofs.Common.{ap, refl}
use Rattle.gw_session.proofs.PassLemmas.{clock_from, clock_to, deed_after, errand_made, served_told, timed_due, timed_node, told_by, undecided}
use Rattle.gw_session.proofs.TreeLemmas.{bare_told}
use Rattle.gw_session.proofs.passing.pass.Goals as goal

pub returns-in_default-out_request-clause-step : goal.returns-in_default-out_request-clause-step
returns-in_default-out_request-clause-step g c = undecided _ _ _ _ _ _ _ _ _ _ _ c.now-now.ensures c.requires.rested

pub returns-in_default-with_deadline-clause-step : goal.returns-in_default-with_deadline-clause-step
returns-in_default-with_deadline-clause-step g c = undecided _ _ _ _ _ _ _ _ _ _ _ c.now-now.ensures c.requires.rested

pub returns-in_default-with_deadline-clause-client : goal.returns-in_default-with_deadline-clause-client
returns-in_default-with_deadline-clause-client g c =
    served_told _ _ c.advance.new.self _ _ _ c.requires.bare (clock_from _ _ _ c.now-now.ensures) (clock_to _ _ _ c.now-now.ensures) c.advance.ensures refl refl refl
    c.in_default-with_deadline.ensures.err

pub pass_by-next-requires-clause-timed : goal.pass_by-next-requires-clause-timed
pass_by-next-requires-clause-timed g c κs within =
    timed_node c.advance.new.self _ _ _ (bare_told _ _ _ _ c.requires.bare (clock_from _ _ _ c.now-now.ensures) c.advance.ensures).nodes c.first_deadline_is_least.ensures
    c.in-Ok-with_deadline.ensures.ok.0 c.in-Ok-with_deadline.ensures.ok.1

pub pass_by-next-requires-clause-errand : goal.pass_by-next-requires-clause-errand
pass_by-next-requires-clause-errand g c κs within =
    errand_made _ _ c.index-route.result.now _ _ _ _ _ _ _ c.requires.passed c.requires.servable.numbered c.index-route.ensures c.in-Backend.is c.index-addr.ensures c.as_slice.ensures c.in-Ok.ensures
    (ap (λ b. record { expect = b; continued = 0; client_ms = c.args.client.now.table.now.client_ms }) c.expects.ensures) c.now-now.ensures.given
    (timed_due c.advance.new.self _ _ _ (bare_told _ _ _ _ c.requires.bare (clock_from _ _ _ c.now-now.ensures) c.advance.ensures).nodes
    c.in-Ok-with_deadline.ensures.ok.0 c.in-Ok-with_deadline.ensures.ok.1)
    c.is_kept-kept.ensures

pub returns-clause-step : goal.returns-clause-step
returns-clause-step g c =
    deed_after _ _ _ _ _ _ _ _ _ _ _ _ _ _ _ _ _ c.now-now.ensures (told_by _ c.advance.new.self _ _ _ c.advance.ensures c.in-Ok-with_deadline.ensures.ok.1) c.pass_by-next.ensures.step
