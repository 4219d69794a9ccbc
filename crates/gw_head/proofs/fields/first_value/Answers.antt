use Rattle.std.proofs.Common.{sym, ◌∙◌, ap, ◌∷◌, ◌+◌, map, drop}
use Rattle.httparse.specs.Spans.{header_bytes}
use Rattle.gw_head.specs.Fields.{values_named}
use Rattle.gw_head.proofs.FieldLemmas.{values_more}
use Rattle.gw_head.proofs.fields.first_value.Goals as goal

pub returns-then-eq_ignore_ascii_case : goal.returns-then-eq_ignore_ascii_case
returns-then-eq_ignore_ascii_case c =
    let rest = values_named c.args.name.now
    (map (header_bytes c.args.bytes.now) (drop (c.loop-field.field-index + 1) c.args.fields.now)) in (
      rest,
      sym c.loop-field.invariant
          ∙ values_more c.args.name.now (header_bytes c.args.bytes.now) c.args.fields.now c.loop-field.field-index _
          c.eq_ignore_ascii_case.result _ c.of.result.now c.loop-field-test.true c.of.ensures c.eq_ignore_ascii_case.ensures.test
          c.if-eq_ignore_ascii_case.true
          ∙ ap (λ v. v ∷ rest) (sym c.of-then-eq_ignore_ascii_case.ensures),
    )

pub loop-field-preserved : goal.loop-field-preserved
loop-field-preserved c =
    sym (values_more c.args.name.now (header_bytes c.args.bytes.now) c.args.fields.now c.loop-field.field-index _
    c.eq_ignore_ascii_case.result _ c.of.result.now c.loop-field-test.true c.of.ensures c.eq_ignore_ascii_case.ensures.test
    c.if-eq_ignore_ascii_case.false)
    ∙ c.loop-field.invariant
