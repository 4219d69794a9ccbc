-- The machine's step on the least recently idle connection, and its entry.
use Rattle.std.proofs.Common.{◌≡◌, sym, ◌∙◌, ap, refl, Some, inr}
use Rattle.gw_pool.specs.State.{take_oldest}
use Rattle.gw_pool.specs.Machine.{taken_row}
use Rattle.gw_pool.specs.Rows.{state_of}
use Rattle.gw_pool.specs.Shelf.{resting_row}
use Rattle.gw_pool.specs.declared.entry.Call.TheVariants as call
use Rattle.gw_pool.specs.declared.entry.Reply.TheVariants as reply
use Rattle.gw_pool.proofs.Expiring.{close_fits, close_unfit}
use Rattle.gw_pool.proofs.Steps.{idle_goes}
use Rattle.gw_pool.proofs.Entries.{stepped, holds_then, enters_then}
use Rattle.gw_pool.proofs.pool.PoolCore.close_idle.Goals as goal

pub invariant_of-self : goal.invariant_of-self
invariant_of-self g c =
    let s = state_of c.self.inside.rows in
    let e : (take_oldest s).0 ≡ Some c.in-Some.field-0.row = sym c.take_oldest.ensures.row ∙ ap resting_row c.in-Some.is in
    let l : state_of c.take_oldest.new.self ≡ (take_oldest s).1 = c.take_oldest.ensures.state in
    holds_then c.self.inside.rows c.take_oldest.new.self c.self.inside.journal c.enter.new.journal c.args.caller call.CloseIdle (taken_row c.in-Some.field-0.row (state_of c.take_oldest.new.self)) c.self.invariant (inr (rw (← c.self.view_is) at c.requires))
    (stepped c.self.inside.rows c.take_oldest.new.self c.self.inside.journal c.enter.new.journal c.args.caller call.CloseIdle (taken_row c.in-Some.field-0.row (state_of c.take_oldest.new.self)) (reply.Taken c.in-Some.field-0.row.conn) c.self.invariant (close_fits c.self.inside.rows.limits s c.args.caller c.in-Some.field-0.row (state_of c.take_oldest.new.self) e l) refl c.take_oldest.ensures.keeps refl c.enter.ensures.items c.enter.ensures.room (idle_goes s (state_of c.take_oldest.new.self) c.in-Some.field-0.row e l))

pub returns-in-Some : goal.returns-in-Some
returns-in-Some g c =
    let s = state_of c.self.inside.rows in
    let e : (take_oldest s).0 ≡ Some c.in-Some.field-0.row = sym c.take_oldest.ensures.row ∙ ap resting_row c.in-Some.is in
    let l : state_of c.take_oldest.new.self ≡ (take_oldest s).1 = c.take_oldest.ensures.state in
    record {
      outcome = taken_row c.in-Some.field-0.row (state_of c.take_oldest.new.self);
      enters = rw (← c.self.view_is) (enters_then c.self.inside.rows c.take_oldest.new.self c.self.inside.journal c.enter.new.journal c.args.caller call.CloseIdle (taken_row c.in-Some.field-0.row (state_of c.take_oldest.new.self)) c.self.invariant
          (stepped c.self.inside.rows c.take_oldest.new.self c.self.inside.journal c.enter.new.journal c.args.caller call.CloseIdle (taken_row c.in-Some.field-0.row (state_of c.take_oldest.new.self)) (reply.Taken c.in-Some.field-0.row.conn) c.self.invariant (close_fits c.self.inside.rows.limits s c.args.caller c.in-Some.field-0.row (state_of c.take_oldest.new.self) e l) refl c.take_oldest.ensures.keeps refl c.enter.ensures.items c.enter.ensures.room (idle_goes s (state_of c.take_oldest.new.self) c.in-Some.field-0.row e l)));
      close = rw c.in-Some.is at c.take_oldest.ensures.number;
    }

pub returns-in-None : goal.returns-in-None
returns-in-None g c = record {
  same = rw (rw c.in-None.is at c.take_oldest.ensures.same) c.self.view_is;
  unfit = rw (← c.self.view_is, ← c.self.invariant.state) (close_unfit c.self.inside.rows.limits (state_of c.self.inside.rows) (sym c.take_oldest.ensures.row ∙ ap resting_row c.in-None.is));
}
