use Rattle.gw_stream.proofs.ReplyLemmas.{relay_follows, whole_follows}
use Rattle.gw_stream.proofs.laws.relays_follow.Goals as goal

pub returns-clause-piece : goal.returns-clause-piece
returns-clause-piece c = relay_follows

pub returns-clause-whole : goal.returns-clause-whole
returns-clause-whole c = whole_follows
