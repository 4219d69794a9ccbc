use Rattle.gw_pattern.proofs.Spelling.{pattern_spells}
use Rattle.gw_pattern.proofs.laws.texts_spell_patterns.Goals as goal

pub returns : goal.returns
returns c = pattern_spells
