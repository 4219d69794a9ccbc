use Rattle.std.proofs.Common.{refl}
use Rattle.gw_session.proofs.AnswerLemmas.{failure_own, failure_untold, not_all}
use Rattle.gw_session.proofs.passing.answer_failure.Goals as goal

pub returns-in-All-clause-step : goal.returns-in-All-clause-step
returns-in-All-clause-step g c =
    failure_own _ _ _ _ _ _ _ _ _ _ _ _ _ _ _ _ _ _
    (λ i. record {
      client = c.write_text.ensures.link.number i;
      peer = c.args.client.now.peer;
      table = c.args.client.now.table.now;
      own = c.args.shared.now.ctx_node;
      number = c.args.client.now.requests;
    })
    refl c.in-All.is c.rest_of_continue-rest.ensures c.failure_code.ensures.code c.write_text.ensures c.say_own.ensures.step

pub returns-in_default : goal.returns-in_default
returns-in_default g c = record {
  step = failure_untold _ _ _ _ _ _ _ _ _ _ _ _ _ refl (not_all _ c.in_default.not-All) c.rest_of_continue-rest.ensures c.sent_next.ensures c.write_text.ensures;
  client = record { peer = refl; table = refl; tree = refl; requests = refl };
  same = record { gate = refl; gate_seat = refl; ctx = refl; ctx_seat = refl; ctx_node = refl; buffers = refl };
  buffers = refl;
}
