use Rattle.gw_fields.proofs.Tables.{none_marked}
use Rattle.gw_fields.proofs.hops.no_marks.Goals as goal

pub returns : goal.returns
returns c = λ at. none_marked 128 at
