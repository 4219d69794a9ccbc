use Rattle.std.proofs.Common.{◌≡◌, ◌<◌, ◌∙◌, ap, arith}
use Rattle.gw_ctxwords.specs.declared.view.CtxView.{CtxView}
use Rattle.gw_ctxwords.proofs.Climbing.{climbed_on, knows_here, knows_none}
use Rattle.gw_ctxwords.proofs.Trees.{parent_lower}
use Rattle.gw_ctxwords.proofs.climb.+climb.Goals as goal

pub returns-then-word-ne-LIVE-clause-known : goal.returns-then-word-ne-LIVE-clause-known
returns-then-word-ne-LIVE-clause-known t c cause has = rw c.cause_of.ensures (knows_here _ _ _ _ c.load-word.ensures.view cause has)

pub climb-requires : goal.climb-requires
climb-requires t c =
    let at = c.requires.seat in
    let step = c.load-word.ensures in
    let inside = c.requires.node in
    let some = at.some_room in
    let same : c.load-word.new.place.me.0.room ≡ c.args.place.now.me.0.room = ap (λ (v : CtxView). v.room) (step.view.live c.if-word-ne-LIVE.false) in
    let is = c.in-Some.ensures.1 in
    let lower = parent_lower c.args.nodes.now c.args.node c.requires.nodes.1 c.in-Some.ensures.0.0 inside in
    let down : c.in-Some.parent < c.args.node = omega arith in
    let measure = c.decreases in
    (omega arith, (c.requires.nodes, (record { table_is = step.same.0 ∙ at.table_is; sized = at.sized; no_slots = step.view.slots ∙ at.no_slots; some_room = omega arith }, omega arith)))

pub returns-in-Some-clause-climbed : goal.returns-in-Some-clause-climbed
returns-in-Some-clause-climbed t c =
    climbed_on _ _ _ _ _ _ _ _ c.requires.nodes.1 c.requires.node c.load-word.ensures.view c.if-word-ne-LIVE.false c.in-Some.ensures.0 c.in-Some.ensures.1 c.climb.ensures.climbed

pub returns-in-Some-clause-known : goal.returns-in-Some-clause-known
returns-in-Some-clause-known t c cause has = absurd (knows_none _ _ _ _ cause c.load-word.ensures.view c.if-word-ne-LIVE.false has)

pub returns-in-None-clause-known : goal.returns-in-None-clause-known
returns-in-None-clause-known t c cause has = absurd (knows_none _ _ _ _ cause c.load-word.ensures.view c.if-word-ne-LIVE.false has)
