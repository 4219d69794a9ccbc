use Rattle.std.proofs.Common.{arith, below_more}
use Rattle.gw_mux.specs.Table.{DoConflict}
use Rattle.gw_mux.proofs.Conflicting.{at_read, conflict_there, conflict_not, conflict_below}
use Rattle.gw_mux.proofs.conflicts.lower_conflict.Goals as goal

pub returns-then-conflict : goal.returns-then-conflict
returns-then-conflict c =
    let p = c.index-patterns-first.result in
    let q = c.index-patterns-second.result in
    let at = at_read c.args.patterns.now c.loop-first.first p (omega (arith, c.requires.within)) c.index-patterns-first.is in
    let at' = at_read c.args.patterns.now c.args.second q c.requires.within c.index-patterns-second.is in
    (conflict_there c.args.patterns.now c.loop-first.first c.args.second p q c.conflict.result c.loop-first-test.true at at' c.conflict.ensures c.if-conflict.true, c.loop-first.invariant)

pub loop-first-preserved : goal.loop-first-preserved
loop-first-preserved c =
    let p = c.index-patterns-first.result in
    let q = c.index-patterns-second.result in
    let at = at_read c.args.patterns.now c.loop-first.first p (omega (arith, c.requires.within)) c.index-patterns-first.is in
    let at' = at_read c.args.patterns.now c.args.second q c.requires.within c.index-patterns-second.is in
    below_more (λ i. DoConflict c.args.patterns.now i c.args.second → ⊥) c.loop-first.first c.loop-first.invariant
    (conflict_not c.args.patterns.now c.loop-first.first c.args.second p q c.conflict.result at at' c.conflict.ensures c.if-conflict.false)

pub returns : goal.returns
returns c = λ i k. c.loop-first.invariant i (omega (arith, c.loop-first-test.false, conflict_below c.args.patterns.now i c.args.second k)) k
