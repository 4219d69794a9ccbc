use Rattle.gw_stream.proofs.SendLemmas.{sent_of}
use Rattle.gw_stream.proofs.waits.write_all.Goals as goal

pub returns-clause-step : goal.returns-clause-step
returns-clause-step g c = sent_of _ _ _ _ _ _ _ _ c.write_counted.ensures.step
