use Rattle.std.proofs.Common.{arith}
use Rattle.httparse.specs.Spans.{header_bytes}
use Rattle.gw_head.proofs.FieldLemmas.{count_more}
use Rattle.gw_head.proofs.fields.count_named.Goals as goal
use Rattle.gw_head.proofs.fields.count_named.Goals.{then-eq_ignore_ascii_case, else-eq_ignore_ascii_case}

pub loop-field-preserved : goal.loop-field-preserved
loop-field-preserved c =
    elim c.if-eq_ignore_ascii_case.branch [
      | then-eq_ignore_ascii_case w ↦
          let more = count_more c.args.name.now (header_bytes c.args.bytes.now) c.args.fields.now c.loop-field.field-index _
          c.eq_ignore_ascii_case.result _ c.of.result.now c.loop-field-test.true c.of.ensures c.eq_ignore_ascii_case.ensures.test
          w.if-eq_ignore_ascii_case.true in
          (omega arith, omega arith)
      | else-eq_ignore_ascii_case w ↦
          let more = count_more c.args.name.now (header_bytes c.args.bytes.now) c.args.fields.now c.loop-field.field-index _
          c.eq_ignore_ascii_case.result _ c.of.result.now c.loop-field-test.true c.of.ensures c.eq_ignore_ascii_case.ensures.test
          w.if-eq_ignore_ascii_case.false in
          (omega arith, omega arith)
    ]
