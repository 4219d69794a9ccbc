use Rattle.std.proofs.Common.{refl}
use Rattle.gw_session.proofs.TripLemmas.{kept_made}
use Rattle.gw_session.proofs.WatchSeats.{timed_client, watch_goes}
use Rattle.gw_session.proofs.tripping.make_trip.Goals as goal

pub returns-clause-step : goal.returns-clause-step
returns-clause-step g c =
    kept_made g.W.Conn.Link.link _ _ _ c.args.errand.now.order c.args.body.now _ _ c.args.shared.now.buffers.now c.round_trip-trip.new.buffers (g.W.Conn.Link.link c.args.client.now.conn) _ _ _
    c.round_trip-trip.result c.round_trip-trip.ensures.step (watch_goes _ _ _ _ refl refl refl refl c.round_trip-trip.ensures.step.step.did.watched.goes)

pub returns-clause-client : goal.returns-clause-client
returns-clause-client g c =
    timed_client _ _ _ _ _ c.round_trip-trip.ensures.step.step.did.watched.goes c.requires.timed c.round_trip-trip.new.guard.inside c.round_trip-trip.new.guard.running c.round_trip-trip.new.guard.least
    refl refl refl refl refl refl refl refl
