use Rattle.gw_stream.proofs.RelayLawLemmas.{comes_own, says_own}
use Rattle.gw_stream.proofs.laws.sides_are_own.Goals as goal

pub returns-clause-comes : goal.returns-clause-comes
returns-clause-comes c = comes_own

pub returns-clause-says : goal.returns-clause-says
returns-clause-says c = says_own
