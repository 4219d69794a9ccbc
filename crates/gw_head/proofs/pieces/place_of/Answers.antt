use Rattle.gw_head.specs.Pieces.{is_byte}
use Rattle.gw_fields.proofs.Facts.{first_place, first_within}
use Rattle.gw_head.proofs.pieces.place_of.Goals as goal

pub returns-clause-place : goal.returns-clause-place
returns-clause-place c = first_place (is_byte c.args.byte) c.args.bytes.now c.memchr.result c.memchr.ensures

pub returns-clause-within : goal.returns-clause-within
returns-clause-within c = first_within (is_byte c.args.byte) c.args.bytes.now c.memchr.result c.memchr.ensures
