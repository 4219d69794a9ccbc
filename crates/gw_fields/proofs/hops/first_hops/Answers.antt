use Rattle.std.proofs.Common.{map}
use Rattle.gw_fields.specs.Fields.{pair_of}
use Rattle.gw_fields.specs.Hops.{is_hop}
use Rattle.gw_fields.proofs.Tables.{first_done}
use Rattle.gw_fields.proofs.hops.first_hops.Goals as goal

pub returns : goal.returns
returns c =
    first_done (λ field. is_hop (map pair_of c.args.items.now) field.0) c.loop-name.hops.items c.args.items.now c.min.result c.loop-name.name-index
    c.loop-name.invariant.0 c.loop-name-test.false c.min.ensures
