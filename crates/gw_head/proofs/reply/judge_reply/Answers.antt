use Rattle.std.proofs.Common.{[], sym, ◌∙◌}
use Rattle.gw_head.proofs.HeadLemmas.{whole_reply}
use Rattle.httparse.specs.Spans.{header_bytes}
use Rattle.gw_head.specs.Copies.{IsCopyable}
use Rattle.gw_head.proofs.CopyLemmas.{copyable_reply, along_spans}
use Rattle.gw_head.proofs.WholeLemmas.{few_reply_fields, no_reply, reply_judged}
use Rattle.gw_head.proofs.reply.judge_reply.Goals as goal

pub returns-in-Ok-Complete : goal.returns-in-Ok-Complete
returns-in-Ok-Complete c =
    let read = rw c.in-Ok-Complete.field-0-is at c.in-Ok-Complete.ensures.complete in
    let is = read.1 in
    reply_judged c.args.head.now read.0 _ _ _ c.judge_parts.result
    is.version is.code (c.new-fields.ensures ∙ is.fields)
    c.requires (sym c.reply_lines_fault.ensures ∙ c.in_default.is) (whole_reply _ _ _ c.requires.ended is.reads)
    c.judge_parts.ensures

pub returns-in-Err : goal.returns-in-Err
returns-in-Err c =
    no_reply c.args.head.now c.requires (sym c.reply_lines_fault.ensures ∙ c.in_default.is)
    (λ parts reads. c.in-Err.ensures.found parts [] reads
    (few_reply_fields c.args.head.now parts (sym c.reply_lines_fault.ensures ∙ c.in_default.is) reads))

pub new-fields-requires-clause-copyable : goal.new-fields-requires-clause-copyable
new-fields-requires-clause-copyable c =
    let read = rw c.in-Ok-Complete.field-0-is at c.in-Ok-Complete.ensures.complete in
    let is = read.1 in
    along_spans IsCopyable (header_bytes c.args.head.now) _ _ is.fields
    (copyable_reply c.args.head.now read.0 c.requires.short (whole_reply _ _ _ c.requires.ended is.reads))
