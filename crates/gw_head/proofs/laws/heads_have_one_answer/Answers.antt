use Rattle.gw_head.proofs.AnswerLemmas.{one_request_answer, one_reply_answer}
use Rattle.gw_head.proofs.laws.heads_have_one_answer.Goals as goal

pub returns : goal.returns
returns c = record { requests = one_request_answer; replies = one_reply_answer }
