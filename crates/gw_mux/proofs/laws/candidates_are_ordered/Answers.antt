use Rattle.gw_mux.proofs.Lawful.{candidates_ordered}
use Rattle.gw_mux.proofs.laws.candidates_are_ordered.Goals as goal

pub returns : goal.returns
returns c = candidates_ordered
