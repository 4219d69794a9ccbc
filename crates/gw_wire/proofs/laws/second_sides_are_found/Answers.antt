use Rattle.gw_wire.proofs.ShuffleLemmas.{second_side}
use Rattle.gw_wire.proofs.laws.second_sides_are_found.Goals as goal

pub returns : goal.returns
returns c = second_side
