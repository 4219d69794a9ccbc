use Rattle.std.proofs.Common.{sym, ◌∙◌}
use Rattle.httparse.specs.Spans.{header_bytes}
use Rattle.gw_head.proofs.FieldLemmas.{values_more, only_one}
use Rattle.gw_head.proofs.fields.only_value.Goals as goal

pub returns-then-eq_ignore_ascii_case : goal.returns-then-eq_ignore_ascii_case
returns-then-eq_ignore_ascii_case c =
    only_one _ _ _ _ (sym c.count_named.ensures ∙ c.if-count_named-ne1.false)
    (sym c.loop-field.invariant
    ∙ values_more c.args.name.now (header_bytes c.args.bytes.now) c.args.fields.now c.loop-field.field-index _
    c.eq_ignore_ascii_case.result _ c.of.result.now c.loop-field-test.true c.of.ensures c.eq_ignore_ascii_case.ensures.test
    c.if-eq_ignore_ascii_case.true)
    c.of-then-eq_ignore_ascii_case.ensures

pub loop-field-preserved : goal.loop-field-preserved
loop-field-preserved c =
    sym (values_more c.args.name.now (header_bytes c.args.bytes.now) c.args.fields.now c.loop-field.field-index _
    c.eq_ignore_ascii_case.result _ c.of.result.now c.loop-field-test.true c.of.ensures c.eq_ignore_ascii_case.ensures.test
    c.if-eq_ignore_ascii_case.false)
    ∙ c.loop-field.invariant
