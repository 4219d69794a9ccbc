-- At the place that `position` gives stands the first row that passes.
use Rattle.gw_pool.proofs.Edits.{taken_at, not_there}
use Rattle.std.proofs.Common.{sym, ◌∙◌, ap, Some}
use Rattle.gw_pool.proofs.edit.row_at.Goals as goal

pub returns-in-Some : goal.returns-in-Some
returns-in-Some g c test e =
    ap (λ r. Some r) c.index-rows-at.is ∙ sym ((taken_at test c.args.rows.now c.in-Some.at (sym c.in-Some.is ∙ e)).found c.index-rows-at.result)

pub returns-in-None : goal.returns-in-None
returns-in-None g c test e = sym (not_there test c.args.rows.now (sym c.in-None.is ∙ e)).found
