use Rattle.gw_mux.proofs.Lawful.{best_there}
use Rattle.gw_mux.proofs.laws.best_is_there.Goals as goal

pub returns : goal.returns
returns c = best_there
