use Rattle.gw_turn.proofs.Opening.{opened}
use Rattle.gw_turn.proofs.pool.Pool.open.Goals as goal

pub new-requires : goal.new-requires
new-requires g c = rw (c.push_reserved.ensures.items, c.in_ok-slots.ensures.items) (opened c.args.limits c.in_ok-core.core c.requires.passes c.requires.per_pass c.in_ok-core.ensures.limits c.in_ok-core.ensures.journal c.in_ok-core.ensures.taken)
