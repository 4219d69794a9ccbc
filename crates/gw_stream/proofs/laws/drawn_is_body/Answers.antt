use Rattle.gw_stream.proofs.RelayLawLemmas.{drawn_body}
use Rattle.gw_stream.proofs.laws.drawn_is_body.Goals as goal

pub returns : goal.returns
returns c = drawn_body c.bodies_follow_places.ensures.bodies
