use Rattle.gw_session.proofs.ClosingLemmas.{sessions_close}
use Rattle.gw_session.proofs.laws.connections_are_closed_once.Goals as goal

pub returns : goal.returns
returns c = sessions_close
