-- A want of the one caller is given up.
use Rattle.std.proofs.Common.{refl}
use Rattle.gw_pool.proofs.SoloCalls.{holds_cancel, cancels}
use Rattle.gw_pool.proofs.solo.SoloLeases.cancel.Goals as goal

pub invariant_of-self : goal.invariant_of-self
invariant_of-self g c = holds_cancel g.C.Link.link c.self.inside.core c.cancel.new.self c.self.inside.out c.spend_ticket.new.self c.args.t.want c.args.now c.cancel.result.close c.self.invariant c.cancel.ensures (rw (← c.self.view_is) at c.requires.token) c.spend_ticket.ensures.out c.spend_ticket.ensures.room

pub returns : goal.returns
returns g c = rw (← c.self.view_is) (record { step = cancels g.C.Link.link c.self.inside.core c.cancel.new.self c.self.inside.out c.spend_ticket.new.self c.self.inside.waits c.args.t c.args.now c.cancel.result c.self.invariant (invariant_of-self g c) c.cancel.ensures c.spend_ticket.ensures.out; stays = refl })
