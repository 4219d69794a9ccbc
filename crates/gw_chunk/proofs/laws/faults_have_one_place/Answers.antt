use Rattle.gw_chunk.proofs.TextLaws.{one_fault, no_fault_in_text}
use Rattle.gw_chunk.proofs.laws.faults_have_one_place.Goals as goal

pub returns : goal.returns
returns c = record {
  one = λ front more error other h k. one_fault front more error other h k;
  none_in_text = λ text more d error h k. no_fault_in_text text more d error h k;
}
