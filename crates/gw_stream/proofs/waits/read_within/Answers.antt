use Rattle.std.proofs.Common.{refl, ◌∙◌, arith}
use Rattle.gw_stream.proofs.LinkLemmas.{heard_end, heard_failed, heard_got, heard_stopped, stopped_by_look, stopped_by_ticks, waiting_begins, waiting_looked, waiting_since, waiting_ticked}
use Rattle.gw_stream.proofs.waits.read_within.Goals as goal

pub loop-tick-init : goal.loop-tick-init
loop-tick-init g c = (waiting_begins _ _ _ c.args.limit.since c.requires.fresh c.requires.read c.requires.looked, c.requires.none, refl, refl)

pub check-requires-clause-later : goal.check-requires-clause-later
check-requires-clause-later g c = waiting_looked _ _ _ _ _ _ _ _ _ c.loop-tick.invariant.0

pub check-requires-clause-begun : goal.check-requires-clause-begun
check-requires-clause-begun g c = waiting_since _ _ _ _ _ _ _ _ _ c.loop-tick.invariant.0

pub returns-in-Some-clause-step : goal.returns-in-Some-clause-step
returns-in-Some-clause-step g c =
    rw c.loop-tick.invariant.1
    (heard_stopped _ _ _ _ _ _ c.loop-tick.invariant.0.link (stopped_by_look _ _ _ _ _ _ _ _ _ _ _ c.loop-tick.invariant.0 c.in-Some.ensures.step))

pub returns-in-Got-clause-step : goal.returns-in-Got-clause-step
returns-in-Got-clause-step g c = heard_got _ _ _ _ _ _ _ _ _ _ _ _ _ _ c.loop-tick.invariant.0 c.in-None.ensures.step c.in-Got.ensures

pub returns-in-End-clause-step : goal.returns-in-End-clause-step
returns-in-End-clause-step g c =
    rw c.loop-tick.invariant.1 (heard_end _ _ _ _ _ _ _ _ _ _ _ _ _ c.loop-tick.invariant.0 c.in-None.ensures.step c.in-End.ensures)

pub returns-in-Failed-clause-step : goal.returns-in-Failed-clause-step
returns-in-Failed-clause-step g c =
    rw c.loop-tick.invariant.1 (heard_failed _ _ _ _ _ _ _ _ _ _ _ _ _ c.loop-tick.invariant.0 c.in-None.ensures.step c.in-Failed.ensures)

pub loop-tick-preserved : goal.loop-tick-preserved
loop-tick-preserved g c =
    let r = c.in-Tick.ensures in (
      waiting_ticked _ _ _ _ _ _ _ _ _ _ _ _ _ _ c.loop-tick.invariant.0 c.in-None.ensures.step r.later r.link r.cause r.log r.asked c.now-now.ensures,
      c.loop-tick.invariant.1,
      c.read.auto.buf ∙ c.loop-tick.invariant.2,
      c.in-None.ensures.guard ∙ c.loop-tick.invariant.3,
    )

pub returns-clause-step : goal.returns-clause-step
returns-clause-step g c =
    rw c.loop-tick.invariant.1
    (heard_stopped _ _ _ _ _ _ c.loop-tick.invariant.0.link
    (stopped_by_ticks _ _ _ _ _ _ _ _ _ _ (omega (arith, c.loop-tick-test.false, c.loop-tick.auto._tick-end)) c.loop-tick.invariant.0))
