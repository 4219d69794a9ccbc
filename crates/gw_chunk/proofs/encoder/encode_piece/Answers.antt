use Rattle.std.proofs.Common.{arith, length}
use Rattle.gw_chunk.proofs.Sizes.{four_digits}
use Rattle.gw_chunk.proofs.encoder.encode_piece.Goals as goal

pub push_size-requires : goal.push_size-requires
push_size-requires c =
    let room = c.in_ok-reserve.ensures.ok in
    omega (arith, four_digits (length c.args.bytes.now) c.requires.most)

pub append-requires : goal.append-requires
append-requires c =
    let room = c.in_ok-reserve.ensures.ok in
    omega (arith, four_digits (length c.args.bytes.now) c.requires.most)

pub append-requires-2 : goal.append-requires-2
append-requires-2 c =
    let room = c.in_ok-reserve.ensures.ok in
    omega (arith, four_digits (length c.args.bytes.now) c.requires.most)

pub append-requires-3 : goal.append-requires-3
append-requires-3 c =
    let room = c.in_ok-reserve.ensures.ok in
    omega (arith, four_digits (length c.args.bytes.now) c.requires.most)
