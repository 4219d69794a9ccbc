use Rattle.gw_fields.proofs.Placing.{sorted_same, sorted_ordered, sorted_stable_name}
use Rattle.gw_fields.proofs.laws.sorted_by_name.Goals as goal

pub returns-clause-same : goal.returns-clause-same
returns-clause-same c = sorted_same

pub returns-clause-ordered : goal.returns-clause-ordered
returns-clause-ordered c = sorted_ordered

pub returns-clause-stable : goal.returns-clause-stable
returns-clause-stable c = sorted_stable_name
