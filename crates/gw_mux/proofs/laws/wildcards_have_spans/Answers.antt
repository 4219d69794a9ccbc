use Rattle.gw_mux.proofs.Spanning.{wildcards_spanned}
use Rattle.gw_mux.proofs.laws.wildcards_have_spans.Goals as goal

pub returns : goal.returns
returns c = wildcards_spanned
