use Rattle.std.proofs.Common.{◌+◌, ◌-◌, arith}
use Rattle.gw_stream.proofs.FrameLemmas.{text_at_once, text_moved}
use Rattle.gw_stream.proofs.framing.frame_chunk.Goals as goal

pub returns-then-start-eq0-clause-text : goal.returns-then-start-eq0-clause-text
returns-then-start-eq0-clause-text c =
    text_at_once _ _ _ c.args.done c.frame_behind-start.result (6 + (c.args.begun + 2)) c.if-start-eq0.true c.frame_behind-start.ensures.front
    c.frame_behind-start.ensures.text

pub returns-clause-text : goal.returns-clause-text
returns-clause-text c =
    let start = c.frame_behind-start.ensures.start in
    text_moved _ _ _ _ c.args.done c.frame_behind-start.result (6 + (c.args.begun + 2) - c.frame_behind-start.result) _ _ (omega (arith, start)) (omega (arith, start))
    c.copy_within.ensures.after (omega (arith, start, c.requires.room, c.frame_behind-start.ensures.kept)) c.frame_behind-start.ensures.front
    c.frame_behind-start.ensures.text
