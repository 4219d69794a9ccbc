use Rattle.gw_body.proofs.Readings.{undecided_is_neither}
use Rattle.gw_body.proofs.laws.undecided_is_neither.Goals as goal

pub returns : goal.returns
returns c = λ place bytes. undecided_is_neither place bytes
