use Rattle.gw_transport.proofs.idle_tests.+make_idle.Given as goal

abbrev pub decreases-make_idle : goal.decreases-make_idle
decreases-make_idle g l = l.count
