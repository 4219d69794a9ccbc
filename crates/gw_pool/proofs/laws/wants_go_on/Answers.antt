-- What goes on while others call.
use Rattle.gw_pool.proofs.GoingOn.{wants_go_on, dials_stay, over_stays}
use Rattle.gw_pool.proofs.laws.wants_go_on.Goals as goal

pub returns-clause-wants : goal.returns-clause-wants
returns-clause-wants c = wants_go_on

pub returns-clause-dials : goal.returns-clause-dials
returns-clause-dials c = dials_stay

pub returns-clause-ended : goal.returns-clause-ended
returns-clause-ended c = over_stays
