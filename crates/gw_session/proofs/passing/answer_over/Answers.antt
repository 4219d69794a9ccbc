use Rattle.gw_session.proofs.AnswerLemmas.{over_fault, over_silent}
use Rattle.gw_session.proofs.passing.answer_over.Goals as goal

pub returns-in-Body-clause-step : goal.returns-in-Body-clause-step
returns-in-Body-clause-step g c = over_fault _ _ _ _ _ _ _ _ _ c.in-Body.is c.say_fault.ensures.step

pub returns-in-ClientEnd-clause-step : goal.returns-in-ClientEnd-clause-step
returns-in-ClientEnd-clause-step g c = over_silent _ _ _ _ _ _ c.requires.fresh c.in-ClientEnd.is tt

pub returns-in-ClientFailed-clause-step : goal.returns-in-ClientFailed-clause-step
returns-in-ClientFailed-clause-step g c = over_silent _ _ _ _ _ _ c.requires.fresh c.in-ClientFailed.is tt

pub returns-in-ClientTimeout-clause-step : goal.returns-in-ClientTimeout-clause-step
returns-in-ClientTimeout-clause-step g c = over_silent _ _ _ _ _ _ c.requires.fresh c.in-ClientTimeout.is tt

pub returns-in-NoMemory-clause-step : goal.returns-in-NoMemory-clause-step
returns-in-NoMemory-clause-step g c = over_silent _ _ _ _ _ _ c.requires.fresh c.in-NoMemory.is tt
