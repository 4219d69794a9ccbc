use Rattle.gw_pool.proofs.SoundSteps.{none_is_idle, no_place_is_free}
use Rattle.gw_pool.proofs.laws.nothing_is_held_back.Goals as goal

pub returns : goal.returns
returns c = record { idle = none_is_idle; places = no_place_is_free }
