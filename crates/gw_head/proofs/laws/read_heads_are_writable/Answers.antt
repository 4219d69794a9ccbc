use Rattle.gw_head.proofs.ReadPlain.{writable_reply}
use Rattle.gw_head.proofs.ReadRequest.{writable_request}
use Rattle.gw_head.proofs.laws.read_heads_are_writable.Goals as goal

pub returns : goal.returns
returns c = record { replies = writable_reply; requests = writable_request }
