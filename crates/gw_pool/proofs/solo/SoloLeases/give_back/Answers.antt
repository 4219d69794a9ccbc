-- A lease of the one caller is given back.
use Rattle.std.proofs.Common.{refl, []}
use Rattle.gw_pool.specs.declared.entry.Call.TheVariants as call
use Rattle.gw_pool.proofs.SoloCalls.{calls, is_back, holds_back, back_enters}
use Rattle.gw_pool.specs.Lent.{row_of}
use Rattle.gw_pool.proofs.solo.SoloLeases.give_back.Goals as goal

pub give_back-requires : goal.give_back-requires
give_back-requires g c = is_back g.C.Link.link c.args.l.conn _ (row_of 0 c.args.l) c.args.l.want (rw (← c.self.view_is) at c.requires.lease.row) refl c.requires.lease.conn

pub invariant_of-self : goal.invariant_of-self
invariant_of-self g c = holds_back g.C.Link.link c.self.inside.core c.give_back.new.self c.self.inside.out c.spend_lease.new.self c.args.l.no c.args.now c.args.l.want (row_of 0 c.args.l) c.give_back.result.close c.self.invariant (rw (← c.self.view_is) at c.requires.lease.row) refl c.give_back.ensures (rw (← c.self.view_is) at c.requires.lease.out) c.spend_lease.ensures.out c.spend_lease.ensures.room

pub returns-clause-step : goal.returns-clause-step
returns-clause-step g c = rw (← c.self.view_is) (record {
  others = [];
  outcome = c.give_back.ensures.outcome;
  calls = calls c.self.inside.core c.give_back.new.self c.self.inside.out c.spend_lease.new.self c.self.inside.waits c.self.inside.waits (call.GiveBack c.args.l.no c.args.now) c.give_back.ensures.outcome (invariant_of-self g c) (back_enters g.C.Link.link c.self.inside.core c.give_back.new.self c.args.l.no c.args.now c.args.l.want (row_of 0 c.args.l) c.give_back.result.close (rw (← c.self.view_is) at c.requires.lease.row) refl c.give_back.ensures);
  close = c.give_back.ensures.closes;
  leaves = record { out = c.spend_lease.ensures.out; waits = refl; audit_failed = refl };
})
