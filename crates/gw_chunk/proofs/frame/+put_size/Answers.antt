use Rattle.std.proofs.Common.{arith}
use Rattle.gw_chunk.proofs.Framing.{one_digit, length-written}
use Rattle.gw_chunk.proofs.Sizes.{digits_step}
use Rattle.gw_chunk.proofs.frame.+put_size.Goals as goal

pub put_size-requires : goal.put_size-requires
put_size-requires t c =
    let step = digits_step c.args.size (omega arith) in
    let long = length-written c.args.buffer.now c.digit_byte.result in
    (omega arith, omega arith)

pub returns-clause-text : goal.returns-clause-text
returns-clause-text t c =
    let step = digits_step c.args.size (omega arith) in
    let long = length-written c.args.buffer.now c.digit_byte.result in
    one_digit c.args.size c.digit_byte.result c.put_size.result c.args.buffer.now c.put_size.new.buffer (omega arith) (omega arith) (omega arith)
    c.digit_byte.ensures c.put_size.ensures.text

pub returns-clause-start : goal.returns-clause-start
returns-clause-start t c =
    let step = digits_step c.args.size (omega arith) in
    let long = length-written c.args.buffer.now c.digit_byte.result in
    omega arith
