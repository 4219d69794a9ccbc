use Rattle.std.proofs.Common.{ap}
use Rattle.gw_stream.specs.declared.relaying.Incoming.{Incoming}
use Rattle.gw_stream.specs.Filling.{passing}
use Rattle.gw_session.proofs.RestLemmas.{rest_relayed, rest_unsaid}
use Rattle.gw_session.proofs.SeatLemmas.{spot_same}
use Rattle.gw_session.proofs.replying.say_rest.Goals as goal

pub returns-in-Put-clause-step : goal.returns-in-Put-clause-step
returns-in-Put-clause-step g c =
    rw c.relayed_next.ensures
    (rest_relayed _ _ _ _ _ _ _ _ _ _ _ _ _ _ _ _ _ _ _ _ _ _ c.now-now.ensures c.requires.looked c.requires.first (rw c.in-Put.is at c.put_head.ensures.step)
    (ap (λ (i : Incoming). passing i.body i.inbox c.put_head.new.shared.buffers.now.out) c.put_head.ensures.backend) c.requires.link
    (rw (spot_same g.W.Conn.Link.link c.args.client.now c.args.shared.now c.put_head.new.shared c.put_head.ensures.same) at c.relay_rest-relayed.ensures.step))

pub returns-in-NoMemory-clause-step : goal.returns-in-NoMemory-clause-step
returns-in-NoMemory-clause-step g c =
    rest_unsaid _ _ _ _ _ _ _ _ _ _ _ _ _ _ _ c.now-now.ensures c.requires.looked (rw c.in-NoMemory.is at c.put_head.ensures.step) c.put_head.ensures.backend
