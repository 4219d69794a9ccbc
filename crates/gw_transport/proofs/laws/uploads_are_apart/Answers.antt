use Rattle.gw_transport.proofs.ExchangeLemmas.{uploads_apart}
use Rattle.gw_transport.proofs.laws.uploads_are_apart.Goals as goal

pub returns : goal.returns
returns c =
    uploads_apart c.sides_are_found.ensures c.second_sides_are_found.ensures c.other_links_differ.ensures c.sides_are_own.ensures.comes c.sides_are_own.ensures.says
