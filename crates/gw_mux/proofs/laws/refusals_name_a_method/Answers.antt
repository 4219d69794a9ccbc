use Rattle.gw_mux.proofs.Refusing.{method_named}
use Rattle.gw_mux.proofs.laws.refusals_name_a_method.Goals as goal

pub returns : goal.returns
returns c = method_named
