use Rattle.gw_chunk.proofs.encoder.+push_size.Given as goal

abbrev pub decreases-push_size : goal.decreases-push_size
decreases-push_size l = l.size
