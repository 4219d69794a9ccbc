use Rattle.std.proofs.Common.{arith}
use Rattle.gw_chunk.proofs.Sizes.{digits_step, one_more}
use Rattle.gw_chunk.proofs.encoder.+push_size.Goals as goal

pub push_size-requires : goal.push_size-requires
push_size-requires t c = (omega arith, omega (arith, digits_step c.args.size (omega arith)))

pub push_reserved-requires : goal.push_reserved-requires
push_reserved-requires t c = omega (arith, digits_step c.args.size (omega arith))

pub returns-clause-items : goal.returns-clause-items
returns-clause-items t c =
    one_more c.args.size _ _ _ _ (omega arith) c.push_size.ensures.items c.digit_byte.ensures c.push_reserved.ensures.items

pub returns-clause-len : goal.returns-clause-len
returns-clause-len t c = omega (arith, digits_step c.args.size (omega arith))
