use Rattle.std.proofs.Common.{refl}
use Rattle.gw_session.proofs.TripLemmas.{begun_step, leased_later}
use Rattle.gw_session.proofs.WatchSeats.{timed_client, watch_goes}
use Rattle.gw_session.proofs.tripping.begin_reply.Goals as goal

pub returns-clause-step : goal.returns-clause-step
returns-clause-step g c =
    begun_step _ _ _ _ _ _ _ (g.W.Conn.Link.link c.args.lease.now.conn) (g.W.Conn.Link.link c.first_of-began.new.conn) (g.W.Conn.Link.link c.args.client.now.conn) _ _ _ c.first_of-began.result c.first_of-began.ensures.step c.first_of-began.ensures.cause
    (watch_goes _ _ _ _ refl refl refl refl c.first_of-began.ensures.step.waited.watched.goes)

pub returns-clause-client : goal.returns-clause-client
returns-clause-client g c =
    timed_client _ _ _ _ _ c.first_of-began.ensures.step.waited.watched.goes c.requires.timed c.first_of-began.new.guard.inside c.first_of-began.new.guard.running c.first_of-began.new.guard.least
    refl refl refl refl refl refl refl refl

pub returns-clause-leased : goal.returns-clause-leased
returns-clause-leased g c = leased_later g.W.Conn.Link.link c.args.lease.now c.first_of-began.new.conn c.first_of-began.ensures.link
