use Rattle.gw_stream.proofs.RelayLawLemmas.{pulls_behind}
use Rattle.gw_stream.proofs.laws.pulls_follow.Goals as goal

pub returns : goal.returns
returns c = pulls_behind
