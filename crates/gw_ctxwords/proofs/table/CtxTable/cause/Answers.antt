use Rattle.std.proofs.Common.{◌∙◌, sym, ap, Some, None}
use Rattle.gw_ctxwords.specs.Calls.{SeatState, TableState}
use Rattle.gw_ctxwords.proofs.Climbing.{looked_own, own_told, settled_told, own_known, settled_known, none_known, settle_rests, climbed_learns, settled_learns}
use Rattle.gw_ctxwords.proofs.table.CtxTable.cause.Goals as goal

pub returns-then-above-node-clause-answer : goal.returns-then-above-node-clause-answer
returns-then-above-node-clause-answer c =
    looked_own _ _ _ _ _ _ _ _ (c.as_slice.ensures.value ∙ ap (λ (t : TableState). t.nodes) c.self.view_is) (ap (λ (x : SeatState). x.view) c.s.view_is) c.if-above-node.true c.in-Some.ensures.climbed

pub returns-then-above-node-clause-told : goal.returns-then-above-node-clause-told
returns-then-above-node-clause-told c cause same = own_told _ _ _ _ _ _ cause c.in-Some.ensures.climbed c.if-above-node.true same

pub returns-then-above-node-clause-known : goal.returns-then-above-node-clause-known
returns-then-above-node-clause-known c cause has = own_known _ _ _ _ _ cause (ap (λ (x : SeatState). x.view) c.s.view_is) c.in-Some.ensures.known has

pub settled-requires-clause-cause : goal.settled-requires-clause-cause
settled-requires-clause-cause c = settle_rests _ _ _ _ _ _ (c.as_slice.ensures.value ∙ sym c.self.invariant.2) c.in-Some.ensures.climbed

pub returns-else-above-node-clause-told : goal.returns-else-above-node-clause-told
returns-else-above-node-clause-told c cause same = settled_told _ _ _ _ cause c.settled.ensures.view same

pub returns-else-above-node-clause-known : goal.returns-else-above-node-clause-known
returns-else-above-node-clause-known c cause has = absurd (settled_known _ _ _ _ _ cause (ap (λ (x : SeatState). x.view) c.s.view_is) c.if-above-node.false c.in-Some.ensures.known has)

pub returns-in-None-clause-known : goal.returns-in-None-clause-known
returns-in-None-clause-known c cause has = absurd (none_known _ _ _ cause (ap (λ (x : SeatState). x.view) c.s.view_is) c.in-None.ensures.known has)

pub returns-then-above-node-clause-learns : goal.returns-then-above-node-clause-learns
returns-then-above-node-clause-learns c = climbed_learns c.as_slice.result.now c.args.node _ _ _ (Some (c.in-Some.above, c.in-Some.cause)) (ap (λ (x : SeatState). x.view) c.s.view_is) c.in-Some.ensures.climbed

pub returns-else-above-node-clause-learns : goal.returns-else-above-node-clause-learns
returns-else-above-node-clause-learns c = settled_learns c.as_slice.result.now c.args.node _ _ _ _ (Some (c.in-Some.above, c.in-Some.cause)) _ (ap (λ (x : SeatState). x.view) c.s.view_is) c.in-Some.ensures.climbed c.settled.ensures.view

pub returns-in-None-clause-learns : goal.returns-in-None-clause-learns
returns-in-None-clause-learns c = climbed_learns c.as_slice.result.now c.args.node _ _ _ None (ap (λ (x : SeatState). x.view) c.s.view_is) c.in-None.ensures.climbed
