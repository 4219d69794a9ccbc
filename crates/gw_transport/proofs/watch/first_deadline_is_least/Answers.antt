use Rattle.gw_transport.proofs.WatchLemmas.{first_least}
use Rattle.gw_transport.proofs.watch.first_deadline_is_least.Goals as goal

pub returns : goal.returns
returns c = first_least
