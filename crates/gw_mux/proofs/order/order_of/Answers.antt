use Rattle.std.proofs.Common.{◌≡◌, ◌<◌, length, sym, subst, ◌∙◌, arith, rules}
use Rattle.std.specs.Ordering.{is_lt}
use Rattle.std.proofs.lemmas.Cmp.{lists_total, nat_list_cmp_total}
use Rattle.std.proofs.lemmas.Fn.{always_returns_same}
use Rattle.std.proofs.lemmas.List.Sorted.{ranks_by, Contains-permutation, IsPermutation-sym}
use Rattle.gw_mux.specs.Keys.{keys_cmp, tail_at}
use Rattle.gw_mux.specs.Order.{IsSortedFrom}
use Rattle.gw_mux.proofs.order.order_of.Goals as goal

pub returns : goal.returns
unfolding IsSortedFrom
returns c =
    let ps = c.args.patterns.now in
    let old = c.loop-i.numbers.items in
    let new = c.sort_unstable_by.new.self.items in
    let n : c.loop-i.i ≡ length ps = omega (arith, c.loop-i-test.false, c.loop-i.auto.i-end) in
    record {
      sorted = c.sort_unstable_by.ensures.sorted (λ i j. is_lt (keys_cmp (tail_at ps 0 i) (tail_at ps 0 j))) (ranks_by (lists_total nat_list_cmp_total) (λ i. tail_at ps 0 i))
          (always_returns_same _ (λ a r. is_lt r ≡ is_lt (keys_cmp (tail_at ps 0 a.0.now) (tail_at ps 0 a.1.0.now))) _ (λ a r f' k. search rules));
      all = λ i. (
        λ h. let k = Contains-permutation new old i (IsPermutation-sym old new c.sort_unstable_by.ensures.permutation) h in
            let e = c.loop-i.invariant.each k.0 i (omega (arith, k.1, c.loop-i.invariant.many)) in
            subst (λ x. x < length ps) (sym e ∙ k.2) (omega (arith, k.1, n, c.loop-i.invariant.many)),
        λ h. Contains-permutation old new i c.sort_unstable_by.ensures.permutation (i, omega (arith, h, n, c.loop-i.invariant.many), c.loop-i.invariant.each i i (omega (arith, h, n))),
      );
    }
