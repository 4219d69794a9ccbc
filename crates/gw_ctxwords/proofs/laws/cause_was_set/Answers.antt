use Rattle.std.proofs.Common.{subst}
use Rattle.gw_ctxwords.specs.Rule.{Caused}
use Rattle.gw_ctxwords.proofs.Codes.{not_live}
use Rattle.gw_ctxwords.proofs.laws.cause_was_set.Goals as goal

pub returns : goal.returns
returns c nodes s number v node cause kept at has =
    let there = (kept.each number v at).ended node cause has in
    subst (Caused nodes s.views node) there.1 (kept.caused node there.0 (not_live _ cause there.1))
