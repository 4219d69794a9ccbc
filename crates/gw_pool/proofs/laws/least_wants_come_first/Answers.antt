use Rattle.gw_pool.proofs.Least.{places_go_to_least, offers_go_to_least, offers_find_wants}
use Rattle.gw_pool.proofs.laws.least_wants_come_first.Goals as goal

pub returns : goal.returns
returns c = record { places = places_go_to_least; offers = offers_go_to_least; finds = offers_find_wants }
