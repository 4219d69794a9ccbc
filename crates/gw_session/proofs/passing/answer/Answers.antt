use Rattle.std.proofs.Common.{refl}
use Rattle.gw_session.specs.Stand.{spot_of}
use Rattle.gw_session.proofs.AnswerLemmas.{answered_failed, answered_over, answered_own, answered_reply, failed_goes, no_conn_502, no_conn_503, over_goes, own_goes, reply_goes, timed_same}
use Rattle.gw_session.proofs.passing.answer.Goals as goal
use Rattle.gw_session.proofs.passing.answer.Goals.{in-Full, in-Unreachable}

pub returns-in-Reply-clause-step : goal.returns-in-Reply-clause-step
returns-in-Reply-clause-step g c = answered_reply _ _ _ _ _ _ _ _ _ _ _ _ _ _ _ _ _ c.in-Reply.is c.pass_back.ensures.step

pub returns-in-Reply-clause-goes : goal.returns-in-Reply-clause-goes
returns-in-Reply-clause-goes g c = reply_goes _ _ _ _ _ _ _ _ c.in-Reply.is c.pass_back.ensures.goes

pub returns-in-Over-clause-step : goal.returns-in-Over-clause-step
returns-in-Over-clause-step g c =
    answered_over g.W.Conn.Link.link _ _ _ _ _ _ _ _ _ _ _ _ _ _ c.in-Over.is refl c.requires.left c.answer_over.ensures.step

pub returns-in-Over-clause-goes : goal.returns-in-Over-clause-goes
returns-in-Over-clause-goes g c = over_goes _ _ _ _ _ _ _ _ _ _ _ _ c.in-Over.is c.answer_over.ensures.step

pub returns-in-Over-clause-client : goal.returns-in-Over-clause-client
returns-in-Over-clause-client g c =
    timed_same _ _ _ _ _ c.answer_over.ensures.client c.requires.timed c.requires.looked (c.answer_over.ensures.step.went (spot_of g.W.Conn.Link.link c.args.client.now c.args.shared.now) refl).wired.later.moment

pub returns-in-Failed-clause-step : goal.returns-in-Failed-clause-step
returns-in-Failed-clause-step g c =
    answered_failed g.W.Conn.Link.link _ _ _ _ _ _ _ _ _ _ _ _ _ _ _ c.in-Failed.is c.requires.left c.answer_failure.ensures.step

pub returns-in-Failed-clause-goes : goal.returns-in-Failed-clause-goes
returns-in-Failed-clause-goes g c = failed_goes _ _ _ _ _ _ _ _ _ _ c.in-Failed.is c.requires.looked c.answer_failure.ensures.step

pub returns-in-Failed-clause-client : goal.returns-in-Failed-clause-client
returns-in-Failed-clause-client g c =
    timed_same _ _ _ _ _ c.answer_failure.ensures.client c.requires.timed c.requires.looked c.answer_failure.ensures.step.went.wired.later.moment

pub returns-clause-step : goal.returns-clause-step
returns-clause-step g c =
    elim c.match-trip.branch [
      | in-Unreachable w ↦ answered_own g.W.Conn.Link.link _ _ _ _ _ _ _ _ _ _ _ _ c.args.trip _ _ (no_conn_502 _ _ w.in-Unreachable.is w.code-is) c.requires.left c.say_own.ensures.step
      | in-Full w ↦ answered_own g.W.Conn.Link.link _ _ _ _ _ _ _ _ _ _ _ _ c.args.trip _ _ (no_conn_503 _ _ w.in-Full.is w.code-is) c.requires.left c.say_own.ensures.step
    ]

pub returns-clause-goes : goal.returns-clause-goes
returns-clause-goes g c =
    elim c.match-trip.branch [
      | in-Unreachable w ↦ own_goes _ _ _ _ _ _ c.args.trip _ _ (no_conn_502 _ _ w.in-Unreachable.is w.code-is) c.requires.looked c.say_own.ensures.step
      | in-Full w ↦ own_goes _ _ _ _ _ _ c.args.trip _ _ (no_conn_503 _ _ w.in-Full.is w.code-is) c.requires.looked c.say_own.ensures.step
    ]

pub returns-clause-client : goal.returns-clause-client
returns-clause-client g c =
    timed_same _ _ _ _ _ c.say_own.ensures.client c.requires.timed c.requires.looked c.say_own.ensures.step.went.wired.later.moment
