use Rattle.gw_pattern.proofs.Tidy.{tidy_of_clean, clean_of_tidy}
use Rattle.gw_pattern.proofs.laws.clean_paths.Goals as goal

pub returns : goal.returns
returns c = λ path. (tidy_of_clean path, clean_of_tidy path)
