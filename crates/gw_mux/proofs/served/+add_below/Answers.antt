use Rattle.std.proofs.Common.{◌≡◌, [], ◌∷◌, length, sym, ◌∙◌, arith}
use Rattle.std.proofs.lemmas.Bool.{eqb-true}
use Rattle.percent_encoding.specs.Percent.{percent_decode}
use Rattle.gw_mux.specs.Found.{Remains}
use Rattle.gw_mux.specs.Walk.{segments_in}
use Rattle.gw_mux.proofs.Adding.{added_none, added_part, added_path}
use Rattle.gw_mux.proofs.Branching.{says_literal, says_one}
use Rattle.gw_mux.proofs.Nodes.{node_behind}
use Rattle.gw_mux.proofs.served.+add_below.Goals as goal

pub add_below-requires : goal.add_below-requires
add_below-requires t c =
    let h = c.in-Some.ensures in (
      omega (arith, c.decreases, h.takes.1),
      (
        c.requires.table,
        (
          node_behind c.args.patterns.now c.args.at c.args.numbers.now c.requires.node (1 ∷ percent_decode c.in-Some.part.now) c.run_of-kids.result.now c.run_of-kids.ensures (says_literal (percent_decode c.in-Some.part.now)),
          (h.lengths, omega (arith, h.takes.1, c.requires.deep)),
        ),
      ),
    )

pub add_below-requires-2 : goal.add_below-requires-2
add_below-requires-2 t c =
    let h = c.in-Some.ensures in (
      omega (arith, c.decreases, h.takes.1),
      (
        c.requires.table,
        (
          node_behind c.args.patterns.now c.args.at c.args.numbers.now c.requires.node (2 ∷ []) c.run_of-ones.result.now c.run_of-ones.ensures says_one,
          (h.lengths, omega (arith, h.takes.1, c.requires.deep)),
        ),
      ),
    )

pub returns-then-is_empty : goal.returns-then-is_empty
unfolding Remains
returns-then-is_empty t c =
    let e : length c.args.numbers.now ≡ 0 = eqb-true (length c.args.numbers.now) 0 (sym c.is_empty.ensures ∙ c.if-is_empty.true) in
    added_none _ c.args.found.now.items (λ i r. omega (arith, e, r.0.1))

pub returns : goal.returns
returns t c =
    let ps = c.args.patterns.now in
    let at = c.args.at in
    let ns = c.args.numbers.now in
    let part = percent_decode c.in-Some.part.now in
    let parts = segments_in c.in-Some.left.body.now in
    let slash = c.in-Some.left.slash in
    let old = c.args.found.now.items in
    let first = c.add_below.new.found.items in
    let second = c.add_below-2.new.found.items in
    let new = c.extend_from_slice.new.self.items in
    added_path ps ns at c.args.path.body.now c.in-Some.part.now c.in-Some.left.body.now c.args.path.slash slash old new c.in-Some.ensures.takes.0 c.in-Some.ensures.slash
    (added_part ps at ns c.requires.table.listed.formed c.requires.node part parts slash c.run_of-kids.result.now c.run_of-ones.result.now c.run_of.result.now c.run_of-kids.ensures c.run_of-ones.ensures c.run_of.ensures
    old first second new c.in_ok-add_below.ensures c.in_ok-add_below-2.ensures c.in_ok-extend_from_slice.ensures.items)
