use Rattle.std.proofs.Common.{refl}
use Rattle.gw_session.proofs.TripLemmas.{upload_made}
use Rattle.gw_session.proofs.WatchSeats.{timed_client, watch_goes}
use Rattle.gw_session.proofs.tripping.make_upload.Goals as goal

pub returns-clause-step : goal.returns-clause-step
returns-clause-step g c =
    upload_made g.W.Conn.Link.link _ _ _ c.args.errand.now.order c.args.errand.now.upload c.upload_trip-trip.new.upload c.args.shared.now.buffers.now c.upload_trip-trip.new.buffers
    (g.W.Conn.Link.link c.args.client.now.conn) (g.W.Conn.Link.link c.upload_trip-trip.new.client) _ _ _ c.upload_trip-trip.result c.upload_trip-trip.ensures.step
    (watch_goes _ _ _ _ refl refl refl refl c.upload_trip-trip.ensures.step.step.did.watched.goes)
    c.upload_trip-trip.ensures.client c.upload_trip-trip.ensures.cause refl c.requires.untold c.requires.silence c.requires.begun

pub returns-clause-client : goal.returns-clause-client
returns-clause-client g c =
    timed_client _ _ _ _ _ c.upload_trip-trip.ensures.step.step.did.watched.goes c.requires.timed c.upload_trip-trip.new.guard.inside c.upload_trip-trip.new.guard.running c.upload_trip-trip.new.guard.least
    refl refl refl refl refl refl refl refl
