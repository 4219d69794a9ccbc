use Rattle.gw_wire.proofs.ShuffleLemmas.{other_links}
use Rattle.gw_wire.proofs.laws.other_links_differ.Goals as goal

pub returns : goal.returns
returns c = other_links
