use Rattle.gw_chunk.proofs.TextLaws.{no_text_begins_another}
use Rattle.gw_chunk.proofs.laws.no_text_begins_another.Goals as goal

pub returns : goal.returns
returns c = λ text more d e h k. no_text_begins_another text more d e h k
