use Rattle.std.proofs.Common.{rules, ◌≡◌}
use Rattle.std.specs.Ordering.{is_lt}
use Rattle.std.proofs.lemmas.Fn.{always_returns_same}
use Rattle.gw_fields.proofs.Tables.{in_order, own_before}
use Rattle.gw_fields.proofs.hops.sort_names.Goals as goal

pub returns : goal.returns
returns c =
    c.sort_unstable_by.ensures.sorted own_before in_order
    (always_returns_same _ (λ a r. is_lt r ≡ own_before a.0.now a.1.0.now) _ (λ a r f' k. search rules))
