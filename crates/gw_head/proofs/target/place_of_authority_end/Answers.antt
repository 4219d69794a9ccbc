use Rattle.gw_head.specs.Target.{is_authority_end}
use Rattle.gw_fields.proofs.Facts.{first_place}
use Rattle.gw_head.proofs.target.place_of_authority_end.Goals as goal

pub returns : goal.returns
returns c = first_place is_authority_end c.args.text.now c.memchr2.result c.memchr2.ensures
