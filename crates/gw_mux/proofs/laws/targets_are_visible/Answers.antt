use Rattle.gw_mux.proofs.Targets.{target_visible}
use Rattle.gw_mux.proofs.laws.targets_are_visible.Goals as goal

pub returns : goal.returns
returns c = target_visible
