use Rattle.std.proofs.Common.{◌≡◌, ◌∙◌, List, ap, map, subst, take}
use Rattle.gw_fields.specs.Fields.{pair_of}
use Rattle.gw_fields.specs.Hops.{is_hop}
use Rattle.gw_fields.proofs.Stripping.{Field}
use Rattle.gw_fields.proofs.fields.Fields.first_hops.Goals as goal

pub returns : goal.returns
returns c =
    let H : List Field → Type 0 = λ ys. c.first_hops.result.items ≡ map (λ field. is_hop ys field.0) (take 128 ys) in
    subst H (ap (map pair_of) c.deref.ensures.value ∙ c.self.view_is) c.first_hops.ensures
