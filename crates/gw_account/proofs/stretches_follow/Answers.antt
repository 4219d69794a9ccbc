use Rattle.gw_account.proofs.DidLemmas.{stretches_follow}
use Rattle.gw_account.proofs.stretches_follow.Goals as goal

pub returns : goal.returns
returns c = stretches_follow
