use Rattle.gw_pattern.proofs.Tidy.{cleaned_is}
use Rattle.gw_pattern.proofs.laws.cleaned_begins_with_slash.Goals as goal

pub returns : goal.returns
returns c = λ path. let is = cleaned_is path in (is.tail, is.is)
