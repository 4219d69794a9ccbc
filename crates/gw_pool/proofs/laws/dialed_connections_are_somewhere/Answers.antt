use Rattle.gw_pool.proofs.Dialings.{dialed_conns_are_somewhere}
use Rattle.gw_pool.proofs.laws.dialed_connections_are_somewhere.Goals as goal

pub returns : goal.returns
returns c = dialed_conns_are_somewhere
