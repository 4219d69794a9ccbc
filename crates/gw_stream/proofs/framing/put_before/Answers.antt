use Rattle.std.proofs.Common.{◌+◌, ◌++◌, ◌∙◌, ap, arith, length}
use Rattle.gw_stream.proofs.FrameLemmas.{front_kept, head_put}
use Rattle.gw_stream.proofs.framing.put_before.Goals as goal

pub returns-clause-text : goal.returns-clause-text
returns-clause-text c =
    c.put_behind.ensures.text
    ∙ ap (λ l. l ++ c.args.bytes.now) (front_kept c.move_up.new.buf c.args.buf.now c.args.done (c.args.done + c.args.gap) (omega arith) c.move_up.ensures.front)

pub returns-clause-begun : goal.returns-clause-begun
returns-clause-begun c =
    head_put c.args.buf.now c.move_up.new.buf c.put_behind.new.buf c.args.done c.args.gap c.args.begun c.put_behind.result (length c.args.bytes.now)
    c.put_behind.ensures.count c.put_behind.ensures.rest c.move_up.ensures.moved
