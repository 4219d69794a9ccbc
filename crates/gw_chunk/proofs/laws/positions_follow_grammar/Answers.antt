use Rattle.std.proofs.Common.{subst}
use Rattle.gw_chunk.specs.Part.{IsPart}
use Rattle.gw_chunk.proofs.Parts.{part_undecided, undecided_part}
use Rattle.gw_chunk.proofs.TextLaws.{text_has, has_text, bad_fails, fails_bad}
use Rattle.gw_chunk.proofs.laws.positions_follow_grammar.Goals as goal

pub returns : goal.returns
returns c = record {
  texts = λ bytes d. (text_has bytes d, has_text bytes d);
  parts = λ bytes d. (part_undecided bytes d, λ h. subst (IsPart bytes) h.1 (undecided_part bytes h.0));
  faults = λ bytes error. (bad_fails bytes error, fails_bad bytes error);
}
