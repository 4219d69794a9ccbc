-- At the place that `position` gives stands the first row that passes.
use Rattle.gw_pool.proofs.Edits.{taken_at, not_there}
use Rattle.std.proofs.Common.{sym, ◌∙◌, ap, Some}
use Rattle.gw_pool.proofs.edit.take_at.Goals as goal

pub returns-in-Some-clause-found : goal.returns-in-Some-clause-found
returns-in-Some-clause-found g c test e =
    ap (λ r. Some r) c.remove.ensures.value ∙ sym ((taken_at test c.args.rows.now.items c.in-Some.at (sym c.in-Some.is ∙ e)).found c.remove.result)

pub returns-in-Some-clause-left : goal.returns-in-Some-clause-left
returns-in-Some-clause-left g c test e =
    c.remove.ensures.items ∙ (taken_at test c.args.rows.now.items c.in-Some.at (sym c.in-Some.is ∙ e)).left

pub returns-in-None-clause-found : goal.returns-in-None-clause-found
returns-in-None-clause-found g c test e = sym (not_there test c.args.rows.now.items (sym c.in-None.is ∙ e)).found

pub returns-in-None-clause-left : goal.returns-in-None-clause-left
returns-in-None-clause-left g c test e = (not_there test c.args.rows.now.items (sym c.in-None.is ∙ e)).left
