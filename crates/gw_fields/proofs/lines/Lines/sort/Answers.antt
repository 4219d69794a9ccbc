use Rattle.std.proofs.Common.{rules, ◌≡◌, ◌∙◌, ap}
use Rattle.std.proofs.lemmas.Fn.{always_returns_same}
use Rattle.std.proofs.lemmas.Result.{on_ok_weaker}
use Rattle.gw_fields.specs.Order.{sorted}
use Rattle.gw_fields.proofs.LineOrder.{lines_sorted}
use Rattle.gw_fields.proofs.lines.Lines.sort.Goals as goal

pub returns-clause-ok : goal.returns-clause-ok
returns-clause-ok c =
    let keyed = always_returns_same _ (λ a r. r ≡ a.0.now.name) _ (λ a r f' k. search rules) in
    let same = c.sort_by_key.ensures.stable (λ line. line.name) keyed in
    on_ok_weaker c.sort_by_key.result
    (λ up. lines_sorted c.self.inside.lines.items c.sort_by_key.new.self.items (up (λ line. line.name) keyed) same ∙ ap sorted c.self.view_is)
    c.sort_by_key.ensures.sorted
