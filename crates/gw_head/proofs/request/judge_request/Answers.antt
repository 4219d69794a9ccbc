use Rattle.std.proofs.Common.{[], sym, ◌∙◌, subst}
use Rattle.gw_head.proofs.HeadLemmas.{whole_request}
use Rattle.http_header.specs.Token.{IsToken as IsName}
use Rattle.httparse.specs.Spans.{header_bytes}
use Rattle.gw_head.specs.Copies.{IsCopyable}
use Rattle.gw_head.proofs.CopyLemmas.{copyable_request, along_spans, same_token}
use Rattle.gw_head.proofs.WholeLemmas.{few_request_fields, no_request, request_judged}
use Rattle.gw_head.proofs.request.judge_request.Goals as goal

pub returns-in-Ok-Complete : goal.returns-in-Ok-Complete
returns-in-Ok-Complete c =
    let read = rw c.in-Ok-Complete.field-0-is at c.in-Ok-Complete.ensures.complete in
    let is = read.1 in
    request_judged c.args.head.now read.0 _ _ _ _ c.judge_parts.result
    (c.of.ensures ∙ is.method) (c.of-in-Ok-Complete.ensures ∙ is.path) is.version (c.new-fields.ensures ∙ is.fields)
    c.requires (sym c.request_lines_fault.ensures ∙ c.in_default.is) (whole_request _ _ _ c.requires.ended is.reads) c.judge_parts.ensures

pub returns-in-Err : goal.returns-in-Err
returns-in-Err c =
    no_request c.args.head.now c.requires (sym c.request_lines_fault.ensures ∙ c.in_default.is)
    (λ parts reads. c.in-Err.ensures.found parts [] reads (few_request_fields c.args.head.now parts (sym c.request_lines_fault.ensures ∙ c.in_default.is) reads))

pub new-fields-requires-clause-copyable : goal.new-fields-requires-clause-copyable
new-fields-requires-clause-copyable c =
    let read = rw c.in-Ok-Complete.field-0-is at c.in-Ok-Complete.ensures.complete in
    let is = read.1 in
    along_spans IsCopyable (header_bytes c.args.head.now) _ _ is.fields
    (copyable_request c.args.head.now read.0 c.requires.short (whole_request _ _ _ c.requires.ended is.reads))

pub judge_parts-requires : goal.judge_parts-requires
judge_parts-requires c =
    let read = rw c.in-Ok-Complete.field-0-is at c.in-Ok-Complete.ensures.complete in
    let is = read.1 in
    subst IsName (sym (c.of.ensures ∙ is.method)) (same_token read.0.method is.reads.0.method)
