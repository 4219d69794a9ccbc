use Rattle.std.proofs.Common.{◌∙◌, ap, refl}
use Rattle.gw_wire.proofs.Facts.{link_same}
use Rattle.gw_stream.specs.Outbox.{OutView}
use Rattle.gw_stream.specs.Relaying.{Came}
use Rattle.gw_stream.proofs.RelayEnds.{failed_part, failed_some, relay_ended, stopping_spent, turn_on, turn_ready, unsent_failed, unsent_stopped}
use Rattle.gw_stream.proofs.RelayLemmas.{relaying_begins}
use Rattle.gw_stream.proofs.RelayStops.{goes_so, relay_stop_cause, relay_stops}
use Rattle.gw_stream.proofs.relaying.relay.Goals as goal

pub loop-turn-init : goal.loop-turn-init
loop-turn-init g c = (relaying_begins _ _ _ _ _ _ _ c.requires.fresh c.requires.looked, c.requires.room, link_same _, link_same _, refl)

pub returns-then-some-clause-step : goal.returns-then-some-clause-step
returns-then-some-clause-step g c =
    unsent_failed _ _ _ _ _ _ _ _ _ _ _ _ _ _ _ _ c.in-Failed.part _ c.loop-turn.invariant.3 c.loop-turn.invariant.0 c.close_whole.ensures c.in-Failed.ensures.step
    (failed_some _ c.in-Failed.part c.if-some.true)

pub returns-else-some-clause-step : goal.returns-else-some-clause-step
returns-else-some-clause-step g c =
    unsent_failed _ _ _ _ _ _ _ _ _ _ _ _ _ _ _ _ c.in-Failed.part _ c.loop-turn.invariant.3 c.loop-turn.invariant.0 c.close_whole.ensures c.in-Failed.ensures.step
    (failed_part _ c.in-Failed.part c.if-some.false)

pub returns-in-Stopped-clause-step : goal.returns-in-Stopped-clause-step
returns-in-Stopped-clause-step g c =
    unsent_stopped _ _ _ _ _ _ _ _ _ _ _ _ _ _ _ _ c.in-Stopped.why c.loop-turn.invariant.3 c.loop-turn.invariant.0 c.close_whole.ensures c.in-Stopped.ensures.step

pub returns-in-Some-clause-step : goal.returns-in-Some-clause-step
returns-in-Some-clause-step g c =
    let k = turn_ready _ _ _ _ _ _ _ _ _ _ _ _ _ _ _ _ c.loop-turn.invariant.3 c.loop-turn.invariant.0 c.close_whole.ensures c.in-All.ensures.step in
    (relay_stops _ _ _ _ _ _ _ _ _ _ _ _ _ _ _ _ _ _ _ c.fill-pulled.result c.in-Some.stop _ c.loop-turn.invariant.2.number k c.fill-pulled.ensures.step c.in-Some.ensures c.write_last.ensures.step).0

pub returns-in-Some-clause-cause : goal.returns-in-Some-clause-cause
returns-in-Some-clause-cause g c =
    let k = turn_ready _ _ _ _ _ _ _ _ _ _ _ _ _ _ _ _ c.loop-turn.invariant.3 c.loop-turn.invariant.0 c.close_whole.ensures c.in-All.ensures.step in
    relay_stop_cause _ _ _ _ _ _ (g.W.Conn.Link.link c.fill-pulled.new.conn) _ _ _ _ _ _ _ _ _ _ _ _ _ c.fill-pulled.result c.in-Some.stop _ c.loop-turn.invariant.2 k
    c.fill-pulled.ensures.step c.in-Some.ensures c.fill-pulled.ensures.cause c.write_last.ensures.step

pub returns-in-Some-clause-size : goal.returns-in-Some-clause-size
returns-in-Some-clause-size g c =
    let k = turn_ready _ _ _ _ _ _ _ _ _ _ _ _ _ _ _ _ c.loop-turn.invariant.3 c.loop-turn.invariant.0 c.close_whole.ensures c.in-All.ensures.step in
    ap (λ (o : OutView). o.size) c.write_last.ensures.out
    ∙ (relay_stops _ _ _ _ _ _ _ _ _ _ _ _ _ _ _ _ _ _ _ c.fill-pulled.result c.in-Some.stop _ c.loop-turn.invariant.2.number k c.fill-pulled.ensures.step c.in-Some.ensures c.write_last.ensures.step).1

pub returns-clause-step : goal.returns-clause-step
returns-clause-step g c =
    let s = stopping_spent _ _ _ _ _ _ _ _ _ _ c.loop-turn.invariant.0 in
    relay_ended _ _ _ _ _ _ _ _ _ _ _ Came.Inside _ _ c.loop-turn.invariant.3.number s c.write_last-2.ensures.step

pub loop-turn-preserved : goal.loop-turn-preserved
loop-turn-preserved g c =
    let k = turn_ready _ _ _ _ _ _ _ _ _ _ _ _ _ _ _ _ c.loop-turn.invariant.3 c.loop-turn.invariant.0 c.close_whole.ensures c.in-All.ensures.step in
    let on = goes_so _ _ _ _ refl c.in-None.ensures in
    let t = turn_on _ _ _ _ _ _ _ _ _ _ _ _ _ _ _ _ _ c.fill-pulled.result c.loop-turn.invariant.2 c.fill-pulled.ensures.link on.0 k c.fill-pulled.ensures.step in
    (rw on.1 t.0, rw on.1 t.1, t.2, t.3, c.fill-pulled.ensures.guard ∙ c.make_room.ensures.guard ∙ c.loop-turn.invariant.4)
