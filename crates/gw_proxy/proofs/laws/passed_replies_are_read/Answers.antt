use Rattle.gw_proxy.proofs.PassedOn.{passed_reads}
use Rattle.gw_proxy.proofs.laws.passed_replies_are_read.Goals as goal

pub returns : goal.returns
returns c = passed_reads
