use Rattle.std.proofs.Common.{refl}
use Rattle.gw_session.proofs.TripLemmas.{leased_later, relayed_step}
use Rattle.gw_session.proofs.WatchSeats.{timed_client, watch_goes}
use Rattle.gw_session.proofs.tripping.relay_rest.Goals as goal

pub returns-clause-step : goal.returns-clause-step
returns-clause-step g c =
    relayed_step _ _ _ _ _ _ _ (g.W.Conn.Link.link c.args.lease.now.conn) (g.W.Conn.Link.link c.rest_of-relayed.new.source) (g.W.Conn.Link.link c.args.client.now.conn) (g.W.Conn.Link.link c.rest_of-relayed.new.target) _ _ _ c.rest_of-relayed.result
    c.rest_of-relayed.ensures.step c.rest_of-relayed.ensures.cause c.rest_of-relayed.ensures.target
    (watch_goes _ _ _ _ refl refl refl refl c.rest_of-relayed.ensures.step.waited.watched.goes)

pub returns-clause-client : goal.returns-clause-client
returns-clause-client g c =
    timed_client _ _ _ _ _ c.rest_of-relayed.ensures.step.waited.watched.goes c.requires.timed c.rest_of-relayed.new.guard.inside c.rest_of-relayed.new.guard.running c.rest_of-relayed.new.guard.least
    refl refl refl refl refl refl refl refl

pub returns-clause-leased : goal.returns-clause-leased
returns-clause-leased g c = leased_later g.W.Conn.Link.link c.args.lease.now c.rest_of-relayed.new.source c.rest_of-relayed.ensures.source
