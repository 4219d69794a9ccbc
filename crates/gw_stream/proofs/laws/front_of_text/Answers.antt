use Rattle.gw_stream.proofs.RelayLawLemmas.{fronts_begin}
use Rattle.gw_stream.proofs.laws.front_of_text.Goals as goal

pub returns : goal.returns
returns c = fronts_begin
