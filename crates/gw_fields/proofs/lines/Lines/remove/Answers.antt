use Rattle.std.proofs.Common.{rules, ℕ, Bool, List, not, ap, sym, map, filter, ◌∙◌}
use Rattle.std.proofs.lemmas.Fn.{filter_same}
use Rattle.gw_fields.specs.Fields.{is_named}
use Rattle.gw_fields.specs.Lines.{pair_of}
use Rattle.gw_fields.proofs.Mapping.{filter_mapped}
use Rattle.gw_fields.proofs.lines.Lines.remove.Goals as goal

pub returns : goal.returns
returns c =
    let test : List ℕ × List ℕ → Bool = λ line. not (is_named c.args.name.now line) in
    let kept = filter_same _ (λ line. test (pair_of line)) _ (λ x b f' k. search rules) _ _ c.retain.ensures.filtered in
    ap (map pair_of) kept ∙ sym (filter_mapped pair_of test c.self.inside.lines.items) ∙ ap (filter test) c.self.view_is
