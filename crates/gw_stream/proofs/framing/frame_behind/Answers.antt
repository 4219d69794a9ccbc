use Rattle.std.proofs.Common.{◌+◌, ◌-◌, length, drop, length-take, length-drop, arith, refl}
use Rattle.gw_chunk.specs.Chunked.{coded_piece}
use Rattle.gw_stream.proofs.FrameLemmas.{framed}
use Rattle.gw_stream.proofs.framing.frame_behind.Goals as goal

pub returns-clause-text : goal.returns-clause-text
returns-clause-text c =
    framed c.args.buf.now c.frame_piece.new.buffer c.args.done (length c.args.buf.now - c.args.done) c.args.begun c.frame_piece.result
    (6 + (c.args.begun + 2)) (omega (arith, c.requires.room)) refl (omega (arith, c.requires.room)) (omega (arith, c.frame_piece.ensures.start))
    (omega (arith, c.requires.room, c.frame_piece.auto.buffer, length-take (length c.args.buf.now - c.args.done) (drop c.args.done c.args.buf.now), length-drop c.args.done c.args.buf.now))
    coded_piece c.frame_piece.ensures.text
