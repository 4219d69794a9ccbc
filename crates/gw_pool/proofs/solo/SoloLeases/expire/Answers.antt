-- The one caller takes out the least recently idle connection.
use Rattle.std.proofs.Common.{refl}
use Rattle.gw_pool.specs.declared.entry.Call.TheVariants as call
use Rattle.gw_pool.specs.Core.{state_at}
use Rattle.gw_pool.proofs.Inverts.{expire_was}
use Rattle.gw_pool.proofs.SoloCalls.{holds_idle_done, idle_done}
use Rattle.gw_pool.proofs.solo.SoloLeases.expire.Goals as goal

pub invariant_of-self : goal.invariant_of-self
invariant_of-self g c = holds_idle_done g.C.Link.link c.self.inside.core c.expire.new.self c.self.inside.out (call.Expire c.args.now) c.expire.result c.self.invariant c.expire.ensures (expire_was c.self.inside.core.limits (state_at c.self.inside.core) 0 c.args.now)

pub returns : goal.returns
returns g c = rw (← c.self.view_is) (record { step = idle_done g.C.Link.link c.self.inside.core c.expire.new.self c.self.inside.out c.self.inside.waits (call.Expire c.args.now) c.expire.result (invariant_of-self g c) c.expire.ensures; stays = refl })
