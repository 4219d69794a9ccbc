use Rattle.gw_turn.proofs.Leaving.{slot_out}
use Rattle.gw_turn.proofs.turn.entries.Goals as goal

pub slot_mut-requires : goal.slot_mut-requires
slot_mut-requires g c = (c.requires.seat.pool_is, slot_out c.args.place.now.me.1 c.requires.slot)
