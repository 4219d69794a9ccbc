use Rattle.gw_head.proofs.MarkLemmas.{head_end-append}
use Rattle.gw_head.proofs.HeadLemmas.{same_end}
use Rattle.gw_head.proofs.laws.no_head_begins_another.Goals as goal

pub returns : goal.returns
returns c = record {
  mark = λ front more n ended. head_end-append front more n ended;
  requests = λ front more head other short long. same_end front more short.whole.ended long.whole.ended;
  replies = λ front more head other short long. same_end front more short.whole.ended long.whole.ended;
}
