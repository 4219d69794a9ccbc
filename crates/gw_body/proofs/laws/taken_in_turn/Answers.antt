use Rattle.gw_body.proofs.Parts.{taken_is_part}
use Rattle.gw_body.proofs.Taking.{takes_then}
use Rattle.gw_body.proofs.laws.taken_in_turn.Goals as goal

pub returns-clause-turn : goal.returns-clause-turn
returns-clause-turn c = λ old mid new a b d e h g. takes_then old mid new a b d e h g

pub returns-clause-part : goal.returns-clause-part
returns-clause-part c = λ framing bytes d place h inside. taken_is_part framing bytes d place h inside
