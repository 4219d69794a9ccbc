use Rattle.gw_pool.proofs.Roomy.{journal_has_room}
use Rattle.gw_pool.proofs.laws.journal_has_room.Goals as goal

pub returns : goal.returns
returns c = journal_has_room
