use Rattle.gw_chunk.proofs.frame.+put_size.Given as goal

abbrev pub decreases-put_size : goal.decreases-put_size
decreases-put_size l = l.size
