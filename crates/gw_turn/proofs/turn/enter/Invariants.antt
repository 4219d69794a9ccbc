use Rattle.gw_turn.specs.Steps.{slot_core}
use Rattle.gw_turn.proofs.turn.enter.Given as goal

abbrev pub ghosts-count_up : goal.ghosts-count_up
ghosts-count_up g a = record { core = slot_core a.place.now.me.1; out = a._out.now.out; waits = 0 }
