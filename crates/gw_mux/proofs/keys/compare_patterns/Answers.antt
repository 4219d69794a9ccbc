use Rattle.std.proofs.Common.{◌≡◌, ◌+◌, suc, [], length, drop, sym, ap, ◌∙◌, subst, arith}
use Rattle.gw_mux.specs.Keys.{keys_cmp, keys_of, tail_keys, host_key}
use Rattle.gw_mux.proofs.Branches.{no_label, none_below_host}
use Rattle.gw_mux.proofs.KeyOrder.{same_label, at_end}
use Rattle.gw_mux.proofs.keys.compare_patterns.Goals as goal

pub loop-depth-preserved : goal.loop-depth-preserved
loop-depth-preserved c =
    let xs = keys_of c.args.first.now in
    let ys = keys_of c.args.second.now in
    let n = c.loop-depth.depth in
    let next : suc n ≡ n + 1 = omega arith in
    let e = same_label xs ys n c.label_at.result c.label_at-in-loop-depth.result c.label_at.ensures c.label_at-in-loop-depth.ensures (sym c.compare_labels.ensures ∙ c.in-Equal.is) in
    subst (λ k. keys_cmp (drop k xs) (drop k ys) ≡ keys_cmp xs ys) next (sym e ∙ c.loop-depth.invariant)

pub returns : goal.returns
returns c =
    let p = c.args.first.now in
    let xs = keys_of p in
    let ys = keys_of c.args.second.now in
    let count = c.len-count.result + 3 in
    let end : drop count xs ≡ [] = none_below_host (tail_keys p.segs.items p.method) (host_key p.host) count (length p.segs.items + 2) (omega (arith, c.len-count.ensures)) (no_label p.segs.items p.method (length p.segs.items + 2) (omega arith)) in
    let same : c.loop-depth.depth ≡ count = omega (arith, c.loop-depth-test.false, c.loop-depth.auto.depth-end) in
    at_end xs ys count c.label_at-2.result c.compare_labels-2.result end c.label_at-2.ensures c.compare_labels-2.ensures
    ∙ sym (ap (λ k. keys_cmp (drop k xs) (drop k ys)) same) ∙ c.loop-depth.invariant
