use Rattle.gw_ctxwords.proofs.Climbing.{whole_way}
use Rattle.gw_ctxwords.proofs.laws.live_on_the_whole_way.Goals as goal

pub returns : goal.returns
returns c nodes node before now looked = whole_way nodes node before now looked
