use Rattle.std.proofs.Common.{ap}
use Rattle.gw_transport.specs.Ending.{is_reusable}
use Rattle.gw_session.proofs.BackLemmas.{pieces_answered, pieces_go}
use Rattle.gw_session.proofs.replying.pass_pieces.Goals as goal

pub returns-clause-step : goal.returns-clause-step
returns-clause-step g c =
    pieces_answered _ _ _ _ _ _ _ _ _ _ _ _ _ _ _ _ _ _ _ _ c.say_rest-next.ensures.step (ap (λ l. l.no) c.say_rest-next.ensures.lease)
    (ap (λ r. is_reusable r c.say_rest-next.new.shared.buffers.now.backend) c.say_rest-next.ensures.reply) c.finish.ensures.step

pub returns-clause-goes : goal.returns-clause-goes
returns-clause-goes g c = pieces_go _ _ _ _ _ _ _ _ _ _ _ _ _ _ _ _ _ _ _ _ c.say_rest-next.ensures.step c.finish.ensures.step
