-- A lease of the one caller ends.
use Rattle.std.proofs.Common.{refl, []}
use Rattle.gw_pool.specs.declared.entry.Call.TheVariants as call
use Rattle.gw_pool.proofs.SoloCalls.{calls, holds_drop, drop_enters}
use Rattle.gw_pool.specs.Lent.{row_of}
use Rattle.gw_pool.proofs.solo.SoloLeases.drop_conn.Goals as goal

pub invariant_of-self : goal.invariant_of-self
invariant_of-self g c = holds_drop c.self.inside.core c.drop_conn.new.self c.self.inside.out c.spend_lease.new.self c.args.l.no c.args.l.want (row_of 0 c.args.l) c.self.invariant (rw (← c.self.view_is) at c.requires.lease.row) refl c.drop_conn.ensures (rw (← c.self.view_is) at c.requires.lease.out) c.spend_lease.ensures.out c.spend_lease.ensures.room

pub returns-clause-step : goal.returns-clause-step
returns-clause-step g c = rw (← c.self.view_is) (record {
  others = [];
  outcome = c.drop_conn.ensures.outcome;
  calls = calls c.self.inside.core c.drop_conn.new.self c.self.inside.out c.spend_lease.new.self c.self.inside.waits c.self.inside.waits (call.Drop c.args.l.no) c.drop_conn.ensures.outcome (invariant_of-self g c) (drop_enters c.self.inside.core c.drop_conn.new.self c.args.l.no c.args.l.want (row_of 0 c.args.l) (rw (← c.self.view_is) at c.requires.lease.row) refl c.drop_conn.ensures);
  leaves = record { out = c.spend_lease.ensures.out; waits = refl; audit_failed = refl };
})
