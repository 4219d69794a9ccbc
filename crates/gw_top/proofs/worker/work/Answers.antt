use Rattle.std.proofs.Common.{refl, ap, ◌∙◌}
use Rattle.gw_top.proofs.WorkLemmas.{failed_rose, not_failed, same_shared, same_then, serving_first, serving_looked, serving_more, serving_on, servable_still, worked_till_end, worked_till_failure, worked_till_gate}
use Rattle.gw_top.proofs.worker.work.Goals as goal

pub loop-client-init : goal.loop-client-init
loop-client-init g c =
    (serving_first _ _ _ c.args.table.now _ _ _ c.requires.fresh c.requires.rested c.requires.nobody c.requires.kept, c.requires.serving, refl, same_shared c.args.shared.now, refl, refl)

pub loop-client-preserved : goal.loop-client-preserved
loop-client-preserved g c =
    let i = c.loop-client.invariant in (
      serving_on g.W.Conn.Link.link _ _ _ _ _ _ _ c.args.table.now _ _ _
          (serving_looked _ _ _ _ _ _ _ _ c.args.table.now _ _ _ _ _ i.0 c.now-now.ensures c.look_shut.ensures.step) c.in-Tick.ensures,
      i.1,
      i.2,
      same_then _ _ _ i.3 c.look_shut.ensures.same,
      ap (λ b. b.out.size) c.look_shut.ensures.buffers ∙ i.4,
      i.5,
    )

pub loop-client-preserved-in-Conn : goal.loop-client-preserved-in-Conn
loop-client-preserved-in-Conn g c =
    let i = c.loop-client.invariant in
    let looked = serving_looked _ _ _ _ _ _ _ _ c.args.table.now _ _ _ _ _ i.0 c.now-now.ensures c.look_shut.ensures.step in
    let served = c.serve_connection-served.ensures in (
      serving_more g.W.Conn.Link.link _ _ _ _ _ _ _ _ _ _ c.args.table.now _ _ _ _ _ _ c.in-Conn.client c.in-Conn.peer c.serve_connection-served.result c.from.result c.unkept.result
          (c.look_shut.ensures.same.ctx_node ∙ i.3.ctx_node) (c.look_shut.ensures.step.seen ∙ c.if-look_shut.false) looked c.in-Conn.ensures served.step
          c.from.ensures c.unkept.ensures c.saturating_add-worker.ensures c.saturating_add-worker-in-Conn.ensures,
      i.1,
      i.2,
      same_then _ _ _ (same_then _ _ _ i.3 c.look_shut.ensures.same) served.same,
      served.room ∙ ap (λ b. b.out.size) c.look_shut.ensures.buffers ∙ i.4,
      served.leases ∙ i.5,
    )

pub returns-then-look_shut-clause-worked : goal.returns-then-look_shut-clause-worked
returns-then-look_shut-clause-worked g c =
    let i = c.loop-client.invariant in
    worked_till_gate _ _ _ _ _ _ _ c.args.table.now _ i.1 (c.look_shut.ensures.step.seen ∙ c.if-look_shut.true)
    (serving_looked _ _ _ _ _ _ _ _ c.args.table.now _ _ _ _ _ i.0 c.now-now.ensures c.look_shut.ensures.step)

pub returns-in-Ended-clause-worked : goal.returns-in-Ended-clause-worked
returns-in-Ended-clause-worked g c =
    let i = c.loop-client.invariant in
    worked_till_end g.W.Conn.Link.link _ _ _ _ _ _ _ _ c.args.table.now _ i.1 (c.look_shut.ensures.step.seen ∙ c.if-look_shut.false)
    (serving_looked _ _ _ _ _ _ _ _ c.args.table.now _ _ _ _ _ i.0 c.now-now.ensures c.look_shut.ensures.step) c.in-Ended.ensures

pub returns-in-Failed-clause-worked : goal.returns-in-Failed-clause-worked
returns-in-Failed-clause-worked g c =
    let i = c.loop-client.invariant in
    worked_till_failure g.W.Conn.Link.link _ _ _ _ _ _ _ _ c.args.table.now _ refl (c.look_shut.ensures.step.seen ∙ c.if-look_shut.false)
    (serving_looked _ _ _ _ _ _ _ _ c.args.table.now _ _ _ _ _ i.0 c.now-now.ensures c.look_shut.ensures.step) c.in-Failed.ensures

pub returns-then-look_shut-clause-number : goal.returns-then-look_shut-clause-number
returns-then-look_shut-clause-number g c = c.loop-client.invariant.2

pub returns-then-look_shut-clause-failed : goal.returns-then-look_shut-clause-failed
returns-then-look_shut-clause-failed g c = not_failed _ _ c.loop-client.invariant.1

pub returns-then-look_shut-clause-same : goal.returns-then-look_shut-clause-same
returns-then-look_shut-clause-same g c = same_then _ _ _ c.loop-client.invariant.3 c.look_shut.ensures.same

pub returns-then-look_shut-clause-leases : goal.returns-then-look_shut-clause-leases
returns-then-look_shut-clause-leases g c = c.loop-client.invariant.5

pub serve_connection-served-requires-clause-rested : goal.serve_connection-served-requires-clause-rested
serve_connection-served-requires-clause-rested g c κs within = c.loop-client.invariant.0.rested

pub serve_connection-served-requires-clause-servable : goal.serve_connection-served-requires-clause-servable
serve_connection-served-requires-clause-servable g c κs within =
    servable_still c.args.table.now _ _ c.loop-client.invariant.0.done.doing.pooled.limits c.requires.servable

pub serve_connection-served-requires-clause-outside : goal.serve_connection-served-requires-clause-outside
serve_connection-served-requires-clause-outside g c κs within = c.look_shut.ensures.step.held ∙ c.loop-client.invariant.0.held ∙ c.requires.outside

pub serve_connection-served-requires-clause-room : goal.serve_connection-served-requires-clause-room
serve_connection-served-requires-clause-room g c κs within = ap (λ b. b.out.size) c.look_shut.ensures.buffers ∙ c.loop-client.invariant.4 ∙ c.requires.room

pub returns-in-Ended-clause-number : goal.returns-in-Ended-clause-number
returns-in-Ended-clause-number g c = c.loop-client.invariant.2

pub returns-in-Ended-clause-failed : goal.returns-in-Ended-clause-failed
returns-in-Ended-clause-failed g c = not_failed _ _ c.loop-client.invariant.1

pub returns-in-Ended-clause-same : goal.returns-in-Ended-clause-same
returns-in-Ended-clause-same g c = same_then _ _ _ c.loop-client.invariant.3 c.look_shut.ensures.same

pub returns-in-Ended-clause-leases : goal.returns-in-Ended-clause-leases
returns-in-Ended-clause-leases g c = c.loop-client.invariant.5

pub returns-in-Failed-clause-number : goal.returns-in-Failed-clause-number
returns-in-Failed-clause-number g c = c.loop-client.invariant.2

pub returns-in-Failed-clause-failed : goal.returns-in-Failed-clause-failed
returns-in-Failed-clause-failed g c = λ e.
    failed_rose g.W.Conn.Link.link _ _ _ _ _ _ _ c.args.table.now _ _ _
    (serving_looked _ _ _ _ _ _ _ _ c.args.table.now _ _ _ _ _ c.loop-client.invariant.0 c.now-now.ensures c.look_shut.ensures.step) c.in-Failed.ensures

pub returns-in-Failed-clause-same : goal.returns-in-Failed-clause-same
returns-in-Failed-clause-same g c = same_then _ _ _ c.loop-client.invariant.3 c.look_shut.ensures.same

pub returns-in-Failed-clause-leases : goal.returns-in-Failed-clause-leases
returns-in-Failed-clause-leases g c = c.loop-client.invariant.5
