use Rattle.std.proofs.Common.{rules, ◌^◌, ◌-◌, arith, ap, subst, ◌∙◌, min}
use Rattle.std.specs.Char.{is_ascii_digit}
use Rattle.std.specs.Str.Parse.{digits_value}
use Rattle.std.proofs.lemmas.List.{take_all}
use Rattle.httparse.specs.Grammar.{AllPass}
use Rattle.gw_head.proofs.CheckLemmas.{length_is}
use Rattle.gw_head.proofs.FieldLemmas.{number_step}
use Rattle.gw_head.proofs.fields.read_length.Goals as goal

pub loop-digit-preserved : goal.loop-digit-preserved
loop-digit-preserved c =
    number_step c.args.value.now c.loop-digit.digit-index c.loop-digit.number c.saturating_mul.result _ _ c.loop-digit-test.true
    c.loop-digit.invariant.0 (search rules) (search rules) c.loop-digit.invariant.1 c.saturating_mul.ensures (omega arith)

pub returns : goal.returns
returns c =
    let all = take_all c.loop-digit.digit-index c.args.value.now c.loop-digit-test.false in
    let number = c.loop-digit.invariant.1 ∙ ap (λ l. min (digits_value 10 l) (2 ^ 64 - 1)) all in
    length_is c.args.value.now c.loop-digit.number c.is_empty.result c.is_empty.ensures c.if-is_empty.false
    (subst (AllPass is_ascii_digit) all c.loop-digit.invariant.0) number c.if-number-gt-LENGTH_LIMIT.false
