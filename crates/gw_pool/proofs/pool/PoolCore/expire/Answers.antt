-- The machine's step on the least recently idle connection, and its entry.
use Rattle.std.proofs.Common.{◌≡◌, refl, Some, true, inr}
use Rattle.gw_pool.specs.Places.{since_of}
use Rattle.gw_pool.specs.State.{take_oldest, is_expired}
use Rattle.gw_pool.specs.Machine.{taken_row}
use Rattle.gw_pool.specs.Rows.{state_of}
use Rattle.gw_pool.specs.declared.entry.Call.TheVariants as call
use Rattle.gw_pool.specs.declared.entry.Reply.TheVariants as reply
use Rattle.gw_pool.proofs.Expiring.{expire_fits, expire_unfit}
use Rattle.gw_pool.proofs.Steps.{idle_goes}
use Rattle.gw_pool.proofs.Entries.{stepped, holds_then, enters_then}
use Rattle.gw_pool.proofs.pool.PoolCore.expire.Goals as goal

pub invariant_of-self : goal.invariant_of-self
invariant_of-self g c =
    let s = state_of c.self.inside.rows in
    let e : (take_oldest s).0 ≡ Some c.in-Some.field-0.row = rw c.in-Some.is at c.take_expired.ensures.row in
    let l : state_of c.take_expired.new.self ≡ (take_oldest s).1 = rw c.in-Some.is at c.take_expired.ensures.state in
    let x : is_expired c.self.inside.rows.limits (since_of c.in-Some.field-0.row.place) c.args.now ≡ true = rw c.in-Some.is at c.take_expired.ensures.expired in
    holds_then c.self.inside.rows c.take_expired.new.self c.self.inside.journal c.enter.new.journal c.args.caller (call.Expire c.args.now) (taken_row c.in-Some.field-0.row (state_of c.take_expired.new.self)) c.self.invariant (inr (rw (← c.self.view_is) at c.requires))
    (stepped c.self.inside.rows c.take_expired.new.self c.self.inside.journal c.enter.new.journal c.args.caller (call.Expire c.args.now) (taken_row c.in-Some.field-0.row (state_of c.take_expired.new.self)) (reply.Taken c.in-Some.field-0.row.conn) c.self.invariant (expire_fits c.self.inside.rows.limits s c.args.caller c.args.now c.in-Some.field-0.row (state_of c.take_expired.new.self) e l x) refl c.take_expired.ensures.keeps refl c.enter.ensures.items c.enter.ensures.room (idle_goes s (state_of c.take_expired.new.self) c.in-Some.field-0.row e l))

pub returns-in-Some : goal.returns-in-Some
returns-in-Some g c =
    let s = state_of c.self.inside.rows in
    let e : (take_oldest s).0 ≡ Some c.in-Some.field-0.row = rw c.in-Some.is at c.take_expired.ensures.row in
    let l : state_of c.take_expired.new.self ≡ (take_oldest s).1 = rw c.in-Some.is at c.take_expired.ensures.state in
    let x : is_expired c.self.inside.rows.limits (since_of c.in-Some.field-0.row.place) c.args.now ≡ true = rw c.in-Some.is at c.take_expired.ensures.expired in
    record {
      outcome = taken_row c.in-Some.field-0.row (state_of c.take_expired.new.self);
      enters = rw (← c.self.view_is) (enters_then c.self.inside.rows c.take_expired.new.self c.self.inside.journal c.enter.new.journal c.args.caller (call.Expire c.args.now) (taken_row c.in-Some.field-0.row (state_of c.take_expired.new.self)) c.self.invariant
          (stepped c.self.inside.rows c.take_expired.new.self c.self.inside.journal c.enter.new.journal c.args.caller (call.Expire c.args.now) (taken_row c.in-Some.field-0.row (state_of c.take_expired.new.self)) (reply.Taken c.in-Some.field-0.row.conn) c.self.invariant (expire_fits c.self.inside.rows.limits s c.args.caller c.args.now c.in-Some.field-0.row (state_of c.take_expired.new.self) e l x) refl c.take_expired.ensures.keeps refl c.enter.ensures.items c.enter.ensures.room (idle_goes s (state_of c.take_expired.new.self) c.in-Some.field-0.row e l)));
      close = rw c.in-Some.is at c.take_expired.ensures.number;
    }

pub returns-in-None : goal.returns-in-None
returns-in-None g c = record {
  same = rw (rw c.in-None.is at c.take_expired.ensures.same) c.self.view_is;
  unfit = rw (← c.self.view_is, ← c.self.invariant.state) (expire_unfit c.self.inside.rows.limits (state_of c.self.inside.rows) c.args.now (rw c.in-None.is at c.take_expired.ensures.none));
}
