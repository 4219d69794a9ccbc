use Rattle.std.proofs.Common.{length}
use Rattle.gw_mux.proofs.tree.+first_of.Given as goal

abbrev pub decreases-first_of : goal.decreases-first_of
decreases-first_of l = length l.path.body.now
