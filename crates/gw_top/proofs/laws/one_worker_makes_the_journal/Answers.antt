use Rattle.gw_top.proofs.LawLemmas.{one_worker}
use Rattle.gw_top.proofs.laws.one_worker_makes_the_journal.Goals as goal

pub returns : goal.returns
returns g c = one_worker g.W.Wire.wire
