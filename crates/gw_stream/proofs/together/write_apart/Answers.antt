use Rattle.gw_stream.proofs.TogetherLemmas.{sent_front, sent_then}
use Rattle.gw_stream.proofs.together.write_apart.Goals as goal

pub returns-in-Failed-clause-step : goal.returns-in-Failed-clause-step
returns-in-Failed-clause-step g c = sent_front _ _ _ _ c.args.first.now c.args.second.now _ _ (λ e. cc) c.in-Failed.ensures.step

pub returns-in-Stopped-clause-step : goal.returns-in-Stopped-clause-step
returns-in-Stopped-clause-step g c = sent_front _ _ _ _ c.args.first.now c.args.second.now _ _ (λ e. cc) c.in-Stopped.ensures.step

pub returns-clause-step : goal.returns-clause-step
returns-clause-step g c =
    rw c.behind.ensures
    (sent_then _ _ _ _ _ _ c.args.first.now c.args.second.now _ c.is_empty.result _ c.is_empty.ensures c.in-All.ensures.step c.write_all-sent.ensures.step)
