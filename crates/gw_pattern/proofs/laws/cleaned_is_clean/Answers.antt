use Rattle.gw_pattern.proofs.Tidy.{clean_cleaned}
use Rattle.gw_pattern.proofs.laws.cleaned_is_clean.Goals as goal

pub returns : goal.returns
returns c = clean_cleaned
