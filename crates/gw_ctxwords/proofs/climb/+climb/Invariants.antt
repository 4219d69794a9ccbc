use Rattle.gw_ctxwords.proofs.climb.+climb.Given as goal

abbrev pub decreases-climb : goal.decreases-climb
decreases-climb l = l.node
