use Rattle.std.proofs.Common.{◌∙◌, ap}
use Rattle.std.specs.Prelude.{bytes_eq}
use Rattle.std.specs.List.{list_all}
use Rattle.gw_head.specs.Fields.{values_named}
use Rattle.gw_head.proofs.FieldLemmas.{agree_values}
use Rattle.gw_head.proofs.field_lines.FieldLines.values_agree.Goals as goal

pub returns : goal.returns
returns c =
    c.values_agree.ensures
    ∙ agree_values c.args.name.now c.args.value.now _
    ∙ ap (λ fields. list_all (bytes_eq c.args.value.now) (values_named c.args.name.now fields)) c.self.view_is
