use Rattle.std.proofs.Common.{◌∙◌}
use Rattle.gw_session.proofs.ReplyLemmas.{answers_bad, answers_lost, answers_spent, answers_whole}
use Rattle.gw_session.proofs.replying.answer_begun.Goals as goal
use Rattle.gw_session.proofs.replying.answer_begun.Goals.{in-Bad, in-Lost}

pub returns-in-Whole-clause-step : goal.returns-in-Whole-clause-step
returns-in-Whole-clause-step g c = answers_whole _ _ _ _ _ _ _ _ _ c.in-Whole.is c.say_whole.ensures.step

pub returns-in-Spent-clause-step : goal.returns-in-Spent-clause-step
returns-in-Spent-clause-step g c = answers_spent _ _ _ _ _ _ _ _ _ c.requires.fresh c.in-Spent.is

pub returns-clause-step : goal.returns-clause-step
returns-clause-step g c =
    elim c.match-began.branch [
      | in-Bad w ↦ answers_bad _ _ _ _ _ _ _ _ _ _ _ w.in-Bad.is w.code-is c.say_own.ensures.step
      | in-Lost w ↦ answers_lost _ _ _ _ _ _ _ _ _ _ _ w.in-Lost.is (w.code-is ∙ w.loss_code-code.ensures.code) c.say_own.ensures.step
    ]
