use Rattle.gw_fields.specs.Lists.{is_comma}
use Rattle.gw_fields.proofs.Searches.{first_place, first_within}
use Rattle.gw_fields.proofs.lists.place_of_comma.Goals as goal

pub returns-clause-place : goal.returns-clause-place
returns-clause-place c = first_place is_comma c.args.bytes.now c.memchr.result c.memchr.ensures

pub returns-clause-within : goal.returns-clause-within
returns-clause-within c = first_within is_comma c.args.bytes.now c.memchr.result c.memchr.ensures
