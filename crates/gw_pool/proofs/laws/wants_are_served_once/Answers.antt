use Rattle.gw_pool.proofs.Served.{wants_are_served_once, ended_wants_have_no_row}
use Rattle.gw_pool.proofs.laws.wants_are_served_once.Goals as goal

pub returns : goal.returns
returns c = record { once = wants_are_served_once; ended = ended_wants_have_no_row }
