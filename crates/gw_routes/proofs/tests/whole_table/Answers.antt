use Rattle.std.proofs.Common.{refl}
use Rattle.gw_pattern.specs.Path.{cleaned}
use Rattle.gw_routes.proofs.tests.whole_table.Goals as goal

pub find-requires : goal.find-requires
unfolding cleaned
find-requires g c = refl
