use Rattle.gw_gate.proofs.Words.{word_by_shut}
use Rattle.gw_gate.proofs.laws.seen_is_shut.Goals as goal

pub returns : goal.returns
returns c s number view kept at seen = word_by_shut s kept ((kept.each number view at).seen seen)
