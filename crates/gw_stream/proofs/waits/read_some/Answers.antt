use Rattle.gw_stream.proofs.SendLemmas.{heard_behind}
use Rattle.gw_stream.proofs.waits.read_some.Goals as goal

pub returns-clause-step : goal.returns-clause-step
returns-clause-step g c = heard_behind _ _ _ _ _ _ _ _ _ _ c.requires.looked c.now-since.ensures c.read_within.ensures.step
