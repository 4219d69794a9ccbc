use Rattle.gw_transport.proofs.ExchangeLemmas.{replies_read, requests_written}
use Rattle.gw_transport.proofs.laws.exchanges_are_text.Goals as goal

pub returns-clause-requests : goal.returns-clause-requests
returns-clause-requests c = requests_written

pub returns-clause-replies : goal.returns-clause-replies
returns-clause-replies c = replies_read
