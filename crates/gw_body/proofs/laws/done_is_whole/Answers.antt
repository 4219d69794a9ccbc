use Rattle.gw_body.proofs.Readings.{done_is_whole}
use Rattle.gw_body.proofs.laws.done_is_whole.Goals as goal

pub returns : goal.returns
returns c = λ place. done_is_whole place
