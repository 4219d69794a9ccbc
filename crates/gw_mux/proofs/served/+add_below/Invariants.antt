use Rattle.std.proofs.Common.{length}
use Rattle.gw_mux.proofs.served.+add_below.Given as goal

abbrev pub decreases-add_below : goal.decreases-add_below
decreases-add_below l = length l.path.body.now
