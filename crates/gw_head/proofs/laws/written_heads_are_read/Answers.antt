use Rattle.gw_head.proofs.WrittenReply.{reply_written}
use Rattle.gw_head.proofs.WrittenRequest.{request_written}
use Rattle.gw_head.proofs.laws.written_heads_are_read.Goals as goal

pub returns : goal.returns
returns c = record { replies = reply_written; requests = request_written }
