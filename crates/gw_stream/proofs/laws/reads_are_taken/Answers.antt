use Rattle.gw_stream.proofs.RelayLawLemmas.{reads_taken}
use Rattle.gw_stream.proofs.laws.reads_are_taken.Goals as goal

pub returns : goal.returns
returns c = reads_taken
