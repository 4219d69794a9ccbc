use Rattle.gw_pool.proofs.SoundSteps.{places_are_limited, idle_are_limited, idle_for_host_are_limited}
use Rattle.gw_pool.proofs.laws.limits_hold.Goals as goal

pub returns : goal.returns
returns c = record { places = places_are_limited; idle = idle_are_limited; idle_for_host = idle_for_host_are_limited }
