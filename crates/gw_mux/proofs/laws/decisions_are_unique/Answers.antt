use Rattle.gw_mux.proofs.Unique.{one_decision}
use Rattle.gw_mux.proofs.laws.decisions_are_unique.Goals as goal

pub returns : goal.returns
returns c = one_decision
