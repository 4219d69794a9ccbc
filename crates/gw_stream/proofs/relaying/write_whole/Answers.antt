use Rattle.gw_stream.proofs.RelayEnds.{whole_step}
use Rattle.gw_stream.proofs.relaying.write_whole.Goals as goal

pub returns-clause-step : goal.returns-clause-step
returns-clause-step g c = whole_step _ _ _ _ c.args.out.now _ _ _ c.close_body.ensures c.write_last.ensures.step
