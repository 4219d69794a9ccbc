use Rattle.gw_context.proofs.Moments.{advanced_twice}
use Rattle.gw_context.proofs.laws.later_moment_counts.Goals as goal

pub returns : goal.returns
returns c = advanced_twice
