use Rattle.gw_stream.proofs.RelayLemmas.{room_already}
use Rattle.gw_stream.proofs.relaying.make_room.Goals as goal

pub returns-then-has_room-clause-step : goal.returns-then-has_room-clause-step
returns-then-has_room-clause-step g c = room_already _ _ _ _ _ _ c.requires.fresh c.requires.looked (c.has_room.ensures.0 c.if-has_room.true)
