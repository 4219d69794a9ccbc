use Rattle.std.proofs.Common.{refl, ◌∙◌}
use Rattle.gw_stream.proofs.SendLemmas.{rest_of, sending_begins, sending_more, counted_all, counted_failed, counted_stopped}
use Rattle.gw_stream.proofs.waits.write_counted.Goals as goal

pub loop-sent-init : goal.loop-sent-init
loop-sent-init g c = (rw c.requires.none (sending_begins _ _ _ c.args.bytes.now c.requires.fresh c.requires.looked), refl)

pub loop-sent-preserved : goal.loop-sent-preserved
loop-sent-preserved g c = (
  sending_more _ _ _ _ _ _ _ _ _ _ c.args.bytes.now _ c.loop-sent.sent _ _ c.in-Some.n (rest_of c.args.bytes.now c.loop-sent.sent)
      c.loop-sent.invariant.0 c.now-since.ensures c.in-Some.ensures.step,
  c.in-Some.ensures.guard ∙ c.loop-sent.invariant.1,
)

pub returns-in-Failed-clause-step : goal.returns-in-Failed-clause-step
returns-in-Failed-clause-step g c =
    counted_failed _ _ _ _ _ _ _ _ _ _ c.args.bytes.now _ c.loop-sent.sent _ _ _ refl c.loop-sent.invariant.0 c.now-since.ensures c.in-Failed.ensures.step

pub returns-in-Stopped-clause-step : goal.returns-in-Stopped-clause-step
returns-in-Stopped-clause-step g c =
    counted_stopped _ _ _ _ _ _ _ _ _ _ c.args.bytes.now _ c.loop-sent.sent _ _ c.in-Stopped.stop c.loop-sent.invariant.0 c.now-since.ensures c.in-Stopped.ensures.step

pub returns-clause-step : goal.returns-clause-step
returns-clause-step g c = counted_all _ _ _ _ c.args.bytes.now c.loop-sent.sent _ c.loop-sent-test.false c.loop-sent.invariant.0
