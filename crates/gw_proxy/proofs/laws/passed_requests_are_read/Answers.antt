use Rattle.gw_proxy.proofs.Asked.{asked_reads}
use Rattle.gw_proxy.proofs.laws.passed_requests_are_read.Goals as goal

pub returns : goal.returns
returns c = asked_reads
