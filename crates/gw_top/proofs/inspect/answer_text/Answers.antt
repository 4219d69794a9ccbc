use Rattle.gw_top.proofs.InspectLemmas.{answered, if_ok}
use Rattle.gw_top.proofs.inspect.answer_text.Goals as goal

pub returns : goal.returns
returns c =
    if_ok c.tell.result _ _ (λ text t. answered _ _ _ _ _ _ text.items c.strip_port-host.ensures c.split_target.ensures.path c.split_target.ensures.query c.in_ok-found.ensures t) c.tell.ensures
