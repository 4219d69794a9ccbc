use Rattle.gw_gate.proofs.Words.{gate_of}
use Rattle.gw_gate.proofs.laws.word_counts_seats.Goals as goal

pub returns : goal.returns
returns c = gate_of
