use Rattle.std.proofs.Common.{refl}
use Rattle.gw_session.specs.Stand.{Spot, spot_of}
use Rattle.gw_session.proofs.RequestLemmas.{request_faulty, request_heard, request_lost, request_unkept, spot_is}
use Rattle.gw_session.proofs.session.serve_request.Goals as goal

pub returns-in-Head-clause-step : goal.returns-in-Head-clause-step
returns-in-Head-clause-step g c =
    let heard = c.in-Head.ensures.step in
    let p : Spot = spot_of g.W.Conn.Link.link c.args.client.now c.args.shared.now in
    let same = spot_is p (record p { client = (g.W.Conn.Link.link c.hear_request.new.conn).number }) heard.link.number refl refl refl refl in
    request_heard _ _ _ _ _ _ _ _ _ _ p _ _ _ _ _ _ _ refl heard (rw same at c.respond.ensures.step)

pub returns-in-Refused-clause-step : goal.returns-in-Refused-clause-step
returns-in-Refused-clause-step g c =
    request_faulty _ _ _ _ _ _ _ _ _ _ _ _ _ _ _ _ _ _ c.requires.rested refl refl c.refusal_code.ensures.code refl refl c.in-Refused.ensures.step c.say_fault.ensures.step

pub returns-in-Lost-clause-step : goal.returns-in-Lost-clause-step
returns-in-Lost-clause-step g c = rw c.lost_end.ensures (request_lost _ _ _ _ _ _ _ _ _ _ _ _ c.requires.rested refl refl c.in-Lost.ensures.step)

pub returns-in-NoMemory-clause-step : goal.returns-in-NoMemory-clause-step
returns-in-NoMemory-clause-step g c = request_unkept _ _ _ _ _ _ _ _ _ _ _ c.requires.rested refl c.in-NoMemory.ensures.step
