use Rattle.std.proofs.Common.{◌++◌, codes}
use Rattle.gw_top.proofs.LoadLemmas.{says_then, said_by}
use Rattle.gw_top.proofs.load.cannot_read.Goals as goal

pub returns-clause-says : goal.returns-clause-says
returns-clause-says g c =
    let first = said_by _ _ (codes "cannot read ") c.print.result c.print.ensures in
    let second = said_by _ _ c.args.name.now c.print-2.result (rw c.as_bytes.ensures.value at c.print-2.ensures) in
    let third = said_by _ _ (codes "\n") c.print-3.result c.print-3.ensures in
    says_then _ _ _ (codes "cannot read " ++ c.args.name.now) (codes "\n") (says_then _ _ _ (codes "cannot read ") c.args.name.now first second) third
