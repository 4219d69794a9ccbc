use Rattle.std.proofs.Common.{ap, ◌∙◌}
use Rattle.gw_top.proofs.TopLemmas.{ended_badly, ended_well}
use Rattle.gw_top.specs.Status.{any_failed}
use Rattle.gw_top.proofs.run.finish.Goals as goal

pub returns-then-any_failed : goal.returns-then-any_failed
returns-then-any_failed g c =
    ended_badly _ _ c.args.table c.args.served c.report_on.result c.any_failed.result c.print.result (c.any_failed.ensures ∙ ap any_failed c.as_slice.ensures.value) c.if-any_failed.true c.print.ensures
    c.report_on.ensures.status c.report_on.ensures.table c.report_on.ensures.journal c.report_on.ensures.workers

pub returns : goal.returns
returns g c =
    ended_well _ c.args.table c.args.served c.report_on-2.result c.any_failed.result (c.any_failed.ensures ∙ ap any_failed c.as_slice.ensures.value) c.if-any_failed.false
    c.report_on-2.ensures.status c.report_on-2.ensures.table c.report_on-2.ensures.journal c.report_on-2.ensures.workers
