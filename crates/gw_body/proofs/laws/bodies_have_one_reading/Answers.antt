use Rattle.gw_body.proofs.Readings.{one_body, no_fault_in_body}
use Rattle.gw_body.proofs.laws.bodies_have_one_reading.Goals as goal

pub returns : goal.returns
returns c = record {
  one = λ framing bytes d rest e more h k. one_body framing bytes d rest e more h k;
  no_fault = λ framing bytes d rest error h k. no_fault_in_body framing bytes d rest error h k;
}
