use Rattle.std.proofs.Common.{◌+◌, refl, ap, ◌∙◌, arith}
use Rattle.gw_session.specs.Stand.{Spot, spot_of}
use Rattle.gw_session.specs.TurnSteps.{next_spot, spots_of}
use Rattle.gw_session.proofs.RequestLemmas.{spot_is}
use Rattle.gw_session.proofs.SessionLemmas.{all_served, going_ends, going_first, going_more}
use Rattle.gw_session.proofs.session.serve_turns.Goals as goal

pub loop-request-init : goal.loop-request-init
loop-request-init g c = (
  going_first _ _ _ _ _ _ _ c.requires.fresh c.requires.rested c.requires.none c.requires.nothing c.requires.bare c.requires.told,
  c.requires.none,
  record { gate = refl; gate_seat = refl; ctx = refl; ctx_seat = refl; ctx_node = refl; buffers = refl },
  refl,
  refl,
)

pub returns-in-End-clause-step : goal.returns-in-End-clause-step
returns-in-End-clause-step g c =
    let i = c.loop-request.invariant in
    let on = i.0 in
    let p : Spot = next_spot (spot_of g.W.Conn.Link.link c.loop-request.client c.loop-request.shared) in
    let same = spot_is (spots_of g.W.Conn.Link.link c.args.client.now c.args.shared.now.ctx_node (c.loop-request.client.requests + 1)) p on.goes.link.number on.peer
    (ap (λ t. t.now) on.table) i.2.ctx_node refl in
    going_ends _ _ _ _ _ _ _ _ _ _ _ _ _ _ _ _ p _ _ on same refl c.in-End.ensures.step

pub loop-request-preserved : goal.loop-request-preserved
loop-request-preserved g c =
    let i = c.loop-request.invariant in
    let on = i.0 in
    let turn = c.in-Again.ensures in
    let p : Spot = next_spot (spot_of g.W.Conn.Link.link c.loop-request.client c.loop-request.shared) in
    let same = spot_is (spots_of g.W.Conn.Link.link c.args.client.now c.args.shared.now.ctx_node (c.loop-request.client.requests + 1)) p on.goes.link.number on.peer
    (ap (λ t. t.now) on.table) i.2.ctx_node refl in (
      going_more _ _ _ _ _ _ _ _ _ _ _ _ _ _ _ _ p _ on same refl turn.step turn.client,
      turn.client.requests refl ∙ ap (λ n. n + 1) i.1,
      record {
        gate = turn.same.gate ∙ i.2.gate;
        gate_seat = turn.same.gate_seat ∙ i.2.gate_seat;
        ctx = turn.same.ctx ∙ i.2.ctx;
        ctx_seat = turn.same.ctx_seat ∙ i.2.ctx_seat;
        ctx_node = turn.same.ctx_node ∙ i.2.ctx_node;
        buffers = turn.same.buffers ∙ i.2.buffers;
      },
      turn.room ∙ i.3,
      turn.leases ∙ i.4,
    )

pub unreachable-requires : goal.unreachable-requires
unreachable-requires g c =
    let i = c.loop-request.invariant in
    all_served g.W.Conn.Link.link _ _ _ _ _ _ _ _ _ _ (let count = i.1 in let all = c.loop-request-test.false in omega arith) i.0
