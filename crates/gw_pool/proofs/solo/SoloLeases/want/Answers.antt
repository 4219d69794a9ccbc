-- A want of the one caller.
use Rattle.std.proofs.Common.{arith, refl}
use Rattle.gw_pool.specs.Core.{state_at}
use Rattle.gw_pool.proofs.TieWant.{few_units}
use Rattle.gw_pool.proofs.SoloCalls.{holds_made, holds_expired, want_made, want_expired, want_full}
use Rattle.gw_pool.proofs.solo.SoloLeases.want.Goals as goal

pub want-requires-clause-few : goal.want-requires-clause-few
want-requires-clause-few g c = omega (arith, few_units (state_at c.self.inside.core) c.self.inside.out.out c.self.inside.core.taken c.self.invariant.tied, rw (← c.self.view_is) at c.requires.few)

pub invariant_of-self : goal.invariant_of-self
invariant_of-self g c = holds_made c.self.inside.core c.want.new.self c.self.inside.out c.hand_out.new.self c.args.host c.args.now c.in-Made.want c.self.invariant c.in-Made.ensures c.hand_out.ensures.out c.hand_out.ensures.room

pub invariant_of-self-in-Expired : goal.invariant_of-self-in-Expired
invariant_of-self-in-Expired g c = holds_expired g.C.Link.link c.self.inside.core c.want.new.self c.self.inside.out c.args.host c.args.now c.in-Expired.conn c.self.invariant c.in-Expired.ensures

pub returns-in-Made : goal.returns-in-Made
returns-in-Made g c = rw (← c.self.view_is) (record { step = want_made c.self.inside.core c.want.new.self c.self.inside.out c.hand_out.new.self c.self.inside.waits c.args.host c.args.now c.in-Made.want _ (invariant_of-self g c) c.in-Made.ensures refl refl c.hand_out.ensures.out; stays = refl })

pub returns-in-Expired : goal.returns-in-Expired
returns-in-Expired g c = rw (← c.self.view_is) (record { step = want_expired g.C.Link.link c.self.inside.core c.want.new.self c.self.inside.out c.self.inside.waits c.args.host c.args.now c.in-Expired.conn (invariant_of-self-in-Expired g c) c.in-Expired.ensures; stays = refl })

pub returns-in-JournalFull : goal.returns-in-JournalFull
returns-in-JournalFull g c = rw (← c.self.view_is) (record { step = want_full c.self.inside.core c.want.new.self c.self.inside.out c.self.inside.waits (rw c.in-JournalFull.ensures.0 c.self.invariant) c.in-JournalFull.ensures.0 c.in-JournalFull.ensures.1; stays = refl })
