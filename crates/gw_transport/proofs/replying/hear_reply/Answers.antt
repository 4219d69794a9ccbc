use Rattle.std.proofs.Common.{refl, sym, ◌∙◌, arith}
use Rattle.gw_transport.proofs.ReplyLemmas.{dropping_begins, dropping_more, early_head, final_head, reply_bad, reply_begun, reply_lost, reply_memory, reply_neither, reply_sixth}
use Rattle.gw_transport.proofs.replying.hear_reply.Goals as goal

pub loop-dropped-init : goal.loop-dropped-init
loop-dropped-init g c = (refl, dropping_begins _ _ _ _ c.clear.ensures c.requires.fresh c.requires.looked)

pub returns-then-head-ge-FINAL-clause-step : goal.returns-then-head-ge-FINAL-clause-step
returns-then-head-ge-FINAL-clause-step g c =
    reply_begun _ _ _ _ _ _ _ _ _ _ _ c.begin.result c.in-Head.head (omega (arith, c.loop-dropped-test.true)) (final_head _ c.if-head-ge-FINAL.true)
    c.begin.ensures.head c.begin.ensures.framing c.begin.ensures.body c.loop-dropped.invariant.1 c.in-Head.ensures.step

pub returns-then-not-is_informational-clause-step : goal.returns-then-not-is_informational-clause-step
returns-then-not-is_informational-clause-step g c =
    reply_neither _ _ _ _ _ _ _ _ _ c.args.method.now _ c.in-Head.head (omega (arith, c.loop-dropped-test.true)) (early_head _ c.if-head-ge-FINAL.false)
    (sym c.is_informational.ensures ∙ c.if-not-is_informational.true) c.loop-dropped.invariant.1 c.in-Head.ensures.step

pub returns-in-Bad-clause-step : goal.returns-in-Bad-clause-step
returns-in-Bad-clause-step g c =
    reply_bad _ _ _ _ _ _ _ _ _ c.args.method.now _ (omega (arith, c.loop-dropped-test.true)) c.loop-dropped.invariant.1 c.in-Bad.ensures.step

pub returns-in-Lost-clause-step : goal.returns-in-Lost-clause-step
returns-in-Lost-clause-step g c =
    rw c.lost.ensures
    (reply_lost _ _ _ _ _ _ _ _ _ c.args.method.now _ c.in-Lost.why c.in-Lost.some c.is_answering.result (omega (arith, c.loop-dropped-test.true)) c.is_answering.ensures
    c.loop-dropped.invariant.1 c.in-Lost.ensures.step)

pub returns-in-NoMemory-clause-step : goal.returns-in-NoMemory-clause-step
returns-in-NoMemory-clause-step g c =
    reply_memory _ _ _ _ _ _ _ _ _ c.args.method.now _ (omega (arith, c.loop-dropped-test.true)) c.loop-dropped.invariant.1 c.in-NoMemory.ensures.step

pub loop-dropped-preserved : goal.loop-dropped-preserved
loop-dropped-preserved g c = (
  c.in-Head.ensures.guard ∙ c.loop-dropped.invariant.0,
  dropping_more _ _ _ _ _ _ _ _ _ c.in-Head.head (omega (arith, c.loop-dropped-test.true)) (sym c.is_informational.ensures ∙ c.if-not-is_informational.false)
      c.loop-dropped.invariant.1 c.in-Head.ensures.step,
)

pub returns-clause-step : goal.returns-clause-step
returns-clause-step g c = reply_sixth _ _ _ _ _ _ c.args.method.now _ c.loop-dropped-test.false c.loop-dropped.auto.dropped-end c.loop-dropped.invariant.1
