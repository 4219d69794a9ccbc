use Rattle.gw_transport.proofs.SendingLemmas.{attempt_answered, attempt_failed, attempt_stopped}
use Rattle.gw_transport.proofs.sending.exchange.Goals as goal

pub returns-in-All-clause-step : goal.returns-in-All-clause-step
returns-in-All-clause-step g c =
    attempt_answered _ _ _ _ _ _ c.args.out.now c.args.body.now c.args.buffers.now.backend _ _ _ c.as_slice.result.now c.hear_reply.result c.as_slice.ensures c.requires.kept
    c.in-All.ensures.size (rw c.again.ensures at c.in-All.ensures.step) c.hear_reply.ensures.step

pub returns-in-Failed-clause-step : goal.returns-in-Failed-clause-step
returns-in-Failed-clause-step g c =
    rw c.unwritten.ensures
    (attempt_failed _ _ _ _ c.args.out.now c.args.body.now c.args.buffers.now.backend _ _ c.as_slice.result.now c.in-Failed.some c.as_slice.ensures c.requires.kept
    c.in-Failed.ensures.size (rw c.again.ensures at c.in-Failed.ensures.step))

pub returns-in-Stopped-clause-step : goal.returns-in-Stopped-clause-step
returns-in-Stopped-clause-step g c =
    rw c.stopped.ensures
    (attempt_stopped _ _ _ _ c.args.out.now c.args.body.now c.args.buffers.now.backend _ _ c.as_slice.result.now c.in-Stopped.why c.as_slice.ensures c.requires.kept
    c.in-Stopped.ensures.size (rw c.again.ensures at c.in-Stopped.ensures.step))
