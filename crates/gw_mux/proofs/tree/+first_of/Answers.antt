use Rattle.std.proofs.Common.{◌+◌, [], ◌∷◌, false, None, Some, subst, arith}
use Rattle.percent_encoding.specs.Percent.{percent_decode}
use Rattle.gw_mux.specs.Found.{IsFirst}
use Rattle.gw_mux.specs.Walk.{segments_in}
use Rattle.gw_mux.proofs.Branching.{by_kid, by_one, by_rest, says_literal, says_one, says_rest}
use Rattle.gw_mux.proofs.Firsts.{part_first, run_first}
use Rattle.gw_mux.proofs.Nodes.{node_behind}
use Rattle.gw_mux.proofs.tree.+first_of.Goals as goal

pub first_of-requires : goal.first_of-requires
first_of-requires t c =
    let h = c.in-Some.ensures in (
      omega (arith, c.decreases, h.takes.1),
      (
        c.requires.formed,
        (
          node_behind c.args.patterns.now c.args.at c.args.numbers.now c.requires.node (1 ∷ percent_decode c.in-Some.part.now) c.run_of-kids.result.now c.run_of-kids.ensures (says_literal (percent_decode c.in-Some.part.now)),
          (h.lengths, omega (arith, h.takes.1, c.requires.deep)),
        ),
      ),
    )

pub first_of-requires-2 : goal.first_of-requires-2
first_of-requires-2 t c =
    let h = c.in-Some.ensures in (
      omega (arith, c.decreases, h.takes.1),
      (
        c.requires.formed,
        (
          node_behind c.args.patterns.now c.args.at c.args.numbers.now c.requires.node (2 ∷ []) c.run_of-ones.result.now c.run_of-ones.ensures says_one,
          (h.lengths, omega (arith, h.takes.1, c.requires.deep)),
        ),
      ),
    )

pub returns-in-Some-first_of : goal.returns-in-Some-first_of
returns-in-Some-first_of t c =
    let ps = c.args.patterns.now in
    let at = c.args.at in
    let ns = c.args.numbers.now in
    let m = c.args.method.now in
    let part = percent_decode c.in-Some.part.now in
    let parts = segments_in c.in-Some.left.body.now in
    let kids = c.run_of-kids.result.now in
    let found = subst (λ r. IsFirst ps kids (at + 1) m parts c.in-Some.left.slash r) c.in-Some-first_of.is c.first_of.ensures in
    part_first ps ns at m c.args.path.body.now c.in-Some.part.now c.in-Some.left.body.now c.args.path.slash c.in-Some.left.slash (Some c.in-Some-first_of.first) c.in-Some.ensures.takes.0 c.in-Some.ensures.slash
    (by_kid ps at ns m c.requires.formed c.requires.node part parts c.in-Some.left.slash c.in-Some-first_of.first
    (run_first ps at ns (1 ∷ part) kids m parts c.in-Some.left.slash (Some c.in-Some-first_of.first) c.run_of-kids.ensures found))

pub returns-in-Some-first_of-2 : goal.returns-in-Some-first_of-2
returns-in-Some-first_of-2 t c =
    let ps = c.args.patterns.now in
    let at = c.args.at in
    let ns = c.args.numbers.now in
    let m = c.args.method.now in
    let part = percent_decode c.in-Some.part.now in
    let parts = segments_in c.in-Some.left.body.now in
    let kids = c.run_of-kids.result.now in
    let ones = c.run_of-ones.result.now in
    let no_kid = subst (λ r. IsFirst ps kids (at + 1) m parts c.in-Some.left.slash r) c.in_default-first_of.is c.first_of.ensures in
    let found = subst (λ r. IsFirst ps ones (at + 1) m parts c.in-Some.left.slash r) c.in-Some-first_of-2.is c.first_of-2.ensures in
    part_first ps ns at m c.args.path.body.now c.in-Some.part.now c.in-Some.left.body.now c.args.path.slash c.in-Some.left.slash (Some c.in-Some-first_of-2.first) c.in-Some.ensures.takes.0 c.in-Some.ensures.slash
    (by_one ps at ns m c.requires.formed c.requires.node part parts c.in-Some.left.slash c.in-Some-first_of-2.first
    (run_first ps at ns (1 ∷ part) kids m parts c.in-Some.left.slash None c.run_of-kids.ensures no_kid)
    (run_first ps at ns (2 ∷ []) ones m parts c.in-Some.left.slash (Some c.in-Some-first_of-2.first) c.run_of-ones.ensures found))

pub first_stopped-requires-clause-node : goal.first_stopped-requires-clause-node
first_stopped-requires-clause-node t c =
    node_behind c.args.patterns.now c.args.at c.args.numbers.now c.requires.node (4 ∷ []) c.run_of-rests.result.now c.run_of-rests.ensures says_rest

pub returns : goal.returns
returns t c =
    let ps = c.args.patterns.now in
    let at = c.args.at in
    let ns = c.args.numbers.now in
    let m = c.args.method.now in
    let part = percent_decode c.in-Some.part.now in
    let parts = segments_in c.in-Some.left.body.now in
    let slash = c.in-Some.left.slash in
    let kids = c.run_of-kids.result.now in
    let ones = c.run_of-ones.result.now in
    let rests = c.run_of-rests.result.now in
    let no_kid = subst (λ r. IsFirst ps kids (at + 1) m parts slash r) c.in_default-first_of.is c.first_of.ensures in
    let no_one = subst (λ r. IsFirst ps ones (at + 1) m parts slash r) c.in_default-first_of-2.is c.first_of-2.ensures in
    part_first ps ns at m c.args.path.body.now c.in-Some.part.now c.in-Some.left.body.now c.args.path.slash slash c.first_stopped.result c.in-Some.ensures.takes.0 c.in-Some.ensures.slash
    (by_rest ps at ns m c.requires.formed c.requires.node part parts slash c.first_stopped.result
    (run_first ps at ns (1 ∷ part) kids m parts slash None c.run_of-kids.ensures no_kid)
    (run_first ps at ns (2 ∷ []) ones m parts slash None c.run_of-ones.ensures no_one)
    (run_first ps at ns (4 ∷ []) rests m [] false c.first_stopped.result c.run_of-rests.ensures c.first_stopped.ensures))
