use Rattle.gw_body.proofs.Readings.{bodies_from_first, faults_from_first}
use Rattle.gw_body.proofs.laws.bodies_follow_places.Goals as goal

pub returns : goal.returns
returns c = record {
  bodies = λ framing bytes d rest. bodies_from_first framing bytes d rest;
  faults = λ framing bytes error. faults_from_first framing bytes error;
}
