use Rattle.std.proofs.Common.{◌+◌, [], ◌∷◌, false, None, Some, sym, subst}
use Rattle.gw_mux.specs.Found.{IsFirst}
use Rattle.gw_mux.proofs.Branching.{by_end, by_left, says_end, says_rest}
use Rattle.gw_mux.proofs.Firsts.{run_first}
use Rattle.gw_mux.proofs.Nodes.{node_behind}
use Rattle.gw_mux.proofs.tree.first_ended.Goals as goal

pub first_stopped-requires-2-clause-node : goal.first_stopped-requires-2-clause-node
first_stopped-requires-2-clause-node c =
    node_behind c.args.patterns.now c.args.at c.args.numbers.now c.requires.node (3 ∷ []) c.run_of-ends.result.now c.run_of-ends.ensures says_end

pub first_stopped-requires-3-clause-node : goal.first_stopped-requires-3-clause-node
first_stopped-requires-3-clause-node c =
    node_behind c.args.patterns.now c.args.at c.args.numbers.now c.requires.node (4 ∷ []) c.run_of-all.result.now c.run_of-all.ensures says_rest

pub returns-in-Some : goal.returns-in-Some
returns-in-Some c =
    let ps = c.args.patterns.now in
    let at = c.args.at in
    let ns = c.args.numbers.now in
    let m = c.args.method.now in
    let run = c.run_of-ends.result.now in
    let found = subst (λ r. IsFirst ps run (at + 1) m [] false r) c.in-Some.is c.first_stopped-2.ensures in
    subst (λ s. IsFirst ps ns at m [] s (Some c.in-Some.first)) (sym c.if-not-slash.false)
    (by_end ps at ns m c.requires.formed c.requires.node c.in-Some.first (run_first ps at ns (3 ∷ []) run m [] false (Some c.in-Some.first) c.run_of-ends.ensures found))

pub returns : goal.returns
returns c =
    let ps = c.args.patterns.now in
    let at = c.args.at in
    let ns = c.args.numbers.now in
    let m = c.args.method.now in
    let ends = c.run_of-ends.result.now in
    let rests = c.run_of-all.result.now in
    let none = subst (λ r. IsFirst ps ends (at + 1) m [] false r) c.in_default.is c.first_stopped-2.ensures in
    subst (λ s. IsFirst ps ns at m [] s c.first_stopped-3.result) (sym c.if-not-slash.false)
    (by_left ps at ns m c.requires.formed c.requires.node c.first_stopped-3.result
    (run_first ps at ns (3 ∷ []) ends m [] false None c.run_of-ends.ensures none)
    (run_first ps at ns (4 ∷ []) rests m [] false c.first_stopped-3.result c.run_of-all.ensures c.first_stopped-3.ensures))
