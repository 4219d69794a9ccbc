use Rattle.gw_mux.specs.Allow.{AreNamed}
use Rattle.gw_mux.proofs.allowed.methods_of.Given as goal

abbrev pub invariant-loop-i : goal.invariant-loop-i
invariant-loop-i l = AreNamed l.patterns l.served l.i-index l.methods.items
