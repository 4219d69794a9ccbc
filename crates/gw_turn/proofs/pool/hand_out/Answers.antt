use Rattle.std.proofs.Common.{◌≡◌, ◌+◌, ◌-◌, ◌∙◌, [], ◌∷◌, ◌++◌, refl, sym, ap, subst, arith}
use Rattle.gw_turn.specs.Pass.{fresh_pass}
use Rattle.gw_turn.specs.Steps.{Others, split_right}
use Rattle.gw_turn.specs.declared.view.PassView.{PassView}
use Rattle.gw_turn.proofs.Opening.{rest_of, rest_others, rest_right, made_length, made_next}
use Rattle.gw_turn.proofs.pool.hand_out.Goals as goal

pub split-rest-requires-clause-others : goal.split-rest-requires-clause-others
split-rest-requires-clause-others g c = subst Others (sym (ap (λ m. m.0) c.loop-number.invariant.5)) (rest_others c.args.limits c.loop-number.number c.loop-number-test.true)

pub push_reserved-requires : goal.push_reserved-requires
push_reserved-requires g c = omega (arith, made_length _ c.args.limits c.loop-number.number _ c.loop-number.invariant.6, c.loop-number.invariant.7, c.loop-number-test.true, c.loop-number.invariant.0)

pub loop-number-preserved : goal.loop-number-preserved
loop-number-preserved g c =
    let more = c.loop-number-test.true in
    let inv = c.loop-number.invariant in
    let after = c.replace-first.ensures.after in
    let made = c.split-rest.ensures.new in
    let table : c.replace-first.new.dest.table_id ≡ c.loop-number.place.table_id = ap (λ p. p.table_id) after ∙ made.0 in
    let me : c.replace-first.new.dest.me ≡ (rest_of c.args.limits (c.loop-number.number + 1), []) = ap (λ p. p.me) after ∙ made.1 ∙ ap (λ m. (split_right m.0, [])) inv.5 ∙ ap (λ (v : PassView). (v, [])) (rest_right c.args.limits c.loop-number.number more) in
    let first : c.replace-first.result.table_id ≡ c.args.place.table_id = ap (λ p. p.table_id) c.replace-first.ensures.value ∙ c.split-rest.ensures.same.0 ∙ inv.3 in
    let pass : c.in_ok-new.field-0 ≡ fresh_pass c.args.place.table_id c.args.limits (c.loop-number.number - 1) = c.in_ok-new.ensures ∙ ap (λ t. fresh_pass t c.args.limits (c.loop-number.number - 1)) first in (
      omega arith,
      omega (arith, more),
      refl,
      table ∙ inv.3,
      record { pool_is = table ∙ inv.4.pool_is; two_words = inv.4.two_words; one_slot = inv.4.one_slot; live = ap (λ m. m.0.live) me },
      me,
      c.push_reserved.ensures.items ∙ ap (λ p. c.loop-number.passes.items ++ p ∷ []) pass ∙ made_next c.args.place.table_id c.args.limits c.loop-number.number (c.loop-number.number + 1 - 1) c.loop-number.passes.items inv.6 (let one = inv.0 in omega (arith, one)),
      (let room = c.push_reserved.ensures.capacity in let was = inv.7 in omega (arith, room, was)),
    )

pub push_reserved-requires-2 : goal.push_reserved-requires-2
push_reserved-requires-2 g c = omega (arith, made_length _ c.args.limits c.loop-number.number _ c.loop-number.invariant.6, c.loop-number.invariant.7, c.loop-number.invariant.1, c.requires.passes, c.loop-number.invariant.0)

pub returns : goal.returns
returns g c =
    let inv = c.loop-number.invariant in
    let last : c.loop-number.number ≡ c.args.limits.passes = (let few = inv.1 in let done = c.loop-number-test.false in omega (arith, few, done)) in
    let pass : c.in_ok-new-2.field-0 ≡ fresh_pass c.args.place.table_id c.args.limits (c.loop-number.number - 1) = c.in_ok-new-2.ensures ∙ ap (λ t. fresh_pass t c.args.limits (c.args.limits.passes - 1)) inv.3 ∙ ap (λ n. fresh_pass c.args.place.table_id c.args.limits (n - 1)) (sym last) in
    c.push_reserved-2.ensures.items ∙ ap (λ p. c.loop-number.passes.items ++ p ∷ []) pass ∙ made_next c.args.place.table_id c.args.limits c.loop-number.number c.args.limits.passes c.loop-number.passes.items inv.6 (let one = inv.0 in omega (arith, one, last))
