use Rattle.gw_chunk.proofs.TextLaws.{undecided_from, undecided_end, undecided_fault}
use Rattle.gw_chunk.proofs.laws.undecided_is_neither.Goals as goal

pub returns : goal.returns
returns c = λ p bytes. (
  λ h. (λ front more d text has. undecided_end p bytes front more d h text has, λ error fails. undecided_fault p bytes error h fails),
  λ h. undecided_from p bytes h.0 h.1,
)
