use Rattle.gw_gate.proofs.Sums.{none_held}
use Rattle.gw_gate.proofs.Words.{word_by_shut}
use Rattle.gw_gate.proofs.laws.drained_is_empty.Goals as goal

pub returns : goal.returns
returns c s number view kept at drained =
    let known = (kept.each number view at).drained drained in (word_by_shut s kept known.0, none_held s.views known.1)
