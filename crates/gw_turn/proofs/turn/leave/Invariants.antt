use Rattle.gw_turn.specs.Steps.{slot_core}
use Rattle.gw_turn.proofs.turn.leave.Given as goal

abbrev pub ghosts-release : goal.ghosts-release
ghosts-release g a = record { core = slot_core a.place.now.me.1; out = a._out.now.out; waits = a._waits }
