use Rattle.gw_transport.proofs.ExchangeLemmas.{exchanges_whole}
use Rattle.gw_transport.proofs.laws.exchanges_are_whole.Goals as goal

pub returns : goal.returns
returns g c = exchanges_whole g.C.Link.link
