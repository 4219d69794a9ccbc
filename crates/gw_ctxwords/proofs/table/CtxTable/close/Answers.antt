use Rattle.std.proofs.Common.{ap}
use Rattle.gw_ctxwords.specs.Calls.{SeatState, TableState}
use Rattle.gw_ctxwords.proofs.Ending.{last_word, closes_live, closes_ended}
use Rattle.gw_ctxwords.proofs.table.CtxTable.close.Goals as goal

pub returns-then-word-eq-LIVE : goal.returns-then-word-eq-LIVE
returns-then-word-eq-LIVE c =
    let final = c.close_with-closed.ensures.values.2 in
    closes_live _ _ _
    (last_word _ _ _ final.0 _ _ _ _ _ final.1.0 final.1.1 final.2 c.word-word.ensures c.self.invariant.2 c.self.invariant.3 (ap (λ (t : TableState). t.nodes) c.self.view_is) (ap (λ (x : SeatState). x.view) c.last.view_is) c.requires.alone)
    c.if-word-eq-LIVE.true

pub returns : goal.returns
returns c =
    let final = c.close_with-closed.ensures.values.2 in
    closes_ended _ _ _ _ c.cause_of.ensures
    (last_word _ _ _ final.0 _ _ _ _ _ final.1.0 final.1.1 final.2 c.word-word.ensures c.self.invariant.2 c.self.invariant.3 (ap (λ (t : TableState). t.nodes) c.self.view_is) (ap (λ (x : SeatState). x.view) c.last.view_is) c.requires.alone)
    c.if-word-eq-LIVE.false
