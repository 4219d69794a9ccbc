use Rattle.gw_proxy.proofs.DateLemmas.{one_date}
use Rattle.gw_proxy.proofs.laws.one_date_at_a_moment.Goals as goal

pub returns : goal.returns
returns c = one_date
