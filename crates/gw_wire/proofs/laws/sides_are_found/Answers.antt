use Rattle.gw_wire.proofs.ShuffleLemmas.{first_side}
use Rattle.gw_wire.proofs.laws.sides_are_found.Goals as goal

pub returns : goal.returns
returns c = first_side
