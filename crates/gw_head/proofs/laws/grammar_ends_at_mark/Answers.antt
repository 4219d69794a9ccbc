use Rattle.gw_head.proofs.GrammarEnd.{request_end, response_end}
use Rattle.gw_head.proofs.laws.grammar_ends_at_mark.Goals as goal

pub returns : goal.returns
returns c = record {
  requests = λ bytes rest parts reads. request_end bytes parts rest reads;
  replies = λ bytes rest parts reads. response_end bytes parts rest reads;
}
