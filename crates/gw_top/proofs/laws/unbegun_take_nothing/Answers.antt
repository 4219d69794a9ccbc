use Rattle.gw_top.proofs.LawLemmas.{unbegun}
use Rattle.gw_top.proofs.laws.unbegun_take_nothing.Goals as goal

pub returns : goal.returns
returns c = unbegun
