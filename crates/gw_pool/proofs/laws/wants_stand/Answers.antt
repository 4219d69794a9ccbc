-- How a want stands behind an entry of its own caller.
use Rattle.gw_pool.proofs.OwnEntries.{made_stands, started_stands, dialed_stands, failed_stands}
use Rattle.gw_pool.proofs.laws.wants_stand.Goals as goal

pub returns-clause-made : goal.returns-clause-made
returns-clause-made c = made_stands

pub returns-clause-started : goal.returns-clause-started
returns-clause-started c = started_stands

pub returns-clause-dialed : goal.returns-clause-dialed
returns-clause-dialed c = dialed_stands

pub returns-clause-failed : goal.returns-clause-failed
returns-clause-failed c = failed_stands
