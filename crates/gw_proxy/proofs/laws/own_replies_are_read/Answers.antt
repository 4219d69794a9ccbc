use Rattle.gw_proxy.proofs.OwnLemmas.{own_reads}
use Rattle.gw_proxy.proofs.laws.own_replies_are_read.Goals as goal

pub returns : goal.returns
returns c = own_reads
