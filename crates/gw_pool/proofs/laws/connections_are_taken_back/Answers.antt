use Rattle.gw_pool.proofs.Outs.{conns_are_taken_back, out_conns_stay}
use Rattle.gw_pool.proofs.laws.connections_are_taken_back.Goals as goal

pub returns : goal.returns
returns c = record { once = conns_are_taken_back; stays = out_conns_stay }
