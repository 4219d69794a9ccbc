-- The one caller takes out the least recently idle connection.
use Rattle.std.proofs.Common.{refl}
use Rattle.gw_pool.specs.declared.entry.Call.TheVariants as call
use Rattle.gw_pool.specs.Core.{state_at}
use Rattle.gw_pool.proofs.Inverts.{close_was}
use Rattle.gw_pool.proofs.SoloCalls.{holds_idle_done, idle_done}
use Rattle.gw_pool.proofs.solo.SoloLeases.close_idle.Goals as goal

pub invariant_of-self : goal.invariant_of-self
invariant_of-self g c = holds_idle_done g.C.Link.link c.self.inside.core c.close_idle.new.self c.self.inside.out call.CloseIdle c.close_idle.result c.self.invariant c.close_idle.ensures (close_was c.self.inside.core.limits (state_at c.self.inside.core) 0)

pub returns : goal.returns
returns g c = rw (← c.self.view_is) (record { step = idle_done g.C.Link.link c.self.inside.core c.close_idle.new.self c.self.inside.out c.self.inside.waits call.CloseIdle c.close_idle.result (invariant_of-self g c) c.close_idle.ensures; stays = refl })
