-- The machine's step on a want, and its entry.
use Rattle.gw_pool.specs.Machine.{want_step}
use Rattle.gw_pool.specs.Rows.{state_of}
use Rattle.gw_pool.specs.declared.entry.Call.TheVariants as call
use Rattle.gw_pool.proofs.Fits.{want_fits}
use Rattle.gw_pool.proofs.Steps.{want_goes}
use Rattle.gw_pool.proofs.Entries.{has_room, holds_then, enters_then}
use Rattle.gw_pool.proofs.pool.PoolCore.want.Goals as goal
use Rattle.std.proofs.Common.{◌≤◌, ◌+◌, arith, refl, length, inr}
use Rattle.gw_pool.specs.History.{room}
use Rattle.gw_pool.proofs.Entries.{stepped_want}
use Rattle.gw_pool.proofs.Steps.{want_made}
use Rattle.gw_pool.proofs.Standings.{full_is, full_not}
use Rattle.gw_pool.proofs.pool.PoolCore.want.Goals.{in-Some, in-None}

pub returns-then-len-room : goal.returns-then-len-room
returns-then-len-room g c = (refl, rw (← c.self.view_is) (full_is c.self.inside.rows c.self.inside.journal c.len.result c.room.result c.self.invariant (omega (arith, c.len.ensures)) c.room.ensures c.if-len-room.true))

pub want-reply-requires-clause-room : goal.want-reply-requires-clause-room
want-reply-requires-clause-room g c = has_room c.self.inside.rows c.self.inside.journal c.self.invariant

pub invariant_of-self : goal.invariant_of-self
invariant_of-self g c =
    let s = state_of c.self.inside.rows in
    let fit = want_fits c.self.inside.rows.limits s c.args.caller c.args.host c.args.now (rw (← c.self.view_is, ← c.self.invariant.state) at c.requires.few) in
    let enough : length c.self.inside.journal.items + room s + 6 ≤ c.self.inside.rows.limits.journal = omega (arith, c.len.ensures, c.room.ensures, c.if-len-room.false) in
    holds_then c.self.inside.rows c.want-reply.new.self c.self.inside.journal c.enter.new.journal c.args.caller (call.Want c.args.host c.args.now) (want_step c.self.inside.rows.limits s c.args.caller c.args.host c.args.now) c.self.invariant (inr (rw (← c.self.view_is) at c.requires.caller))
    (stepped_want c.self.inside.rows c.want-reply.new.self c.self.inside.journal c.enter.new.journal c.args.caller (call.Want c.args.host c.args.now) (want_step c.self.inside.rows.limits s c.args.caller c.args.host c.args.now) c.want-reply.result.reply
    c.self.invariant fit c.want-reply.ensures.state c.want-reply.ensures.keeps c.want-reply.ensures.reply c.enter.ensures.items c.enter.ensures.room
    (want_goes c.self.inside.rows.limits s c.args.caller c.args.host c.args.now) enough)

pub returns : goal.returns
returns g c =
    let s = state_of c.self.inside.rows in
    let fit = want_fits c.self.inside.rows.limits s c.args.caller c.args.host c.args.now (rw (← c.self.view_is, ← c.self.invariant.state) at c.requires.few) in
    let enough : length c.self.inside.journal.items + room s + 6 ≤ c.self.inside.rows.limits.journal = omega (arith, c.len.ensures, c.room.ensures, c.if-len-room.false) in
    let enters = (enters_then c.self.inside.rows c.want-reply.new.self c.self.inside.journal c.enter.new.journal c.args.caller (call.Want c.args.host c.args.now) (want_step c.self.inside.rows.limits s c.args.caller c.args.host c.args.now) c.self.invariant
    (stepped_want c.self.inside.rows c.want-reply.new.self c.self.inside.journal c.enter.new.journal c.args.caller (call.Want c.args.host c.args.now) (want_step c.self.inside.rows.limits s c.args.caller c.args.host c.args.now) c.want-reply.result.reply
    c.self.invariant fit c.want-reply.ensures.state c.want-reply.ensures.keeps c.want-reply.ensures.reply c.enter.ensures.items c.enter.ensures.room
    (want_goes c.self.inside.rows.limits s c.args.caller c.args.host c.args.now) enough)) in
    let left = full_not c.self.inside.rows c.self.inside.journal c.len.result c.room.result c.self.invariant (omega (arith, c.len.ensures)) c.room.ensures c.if-len-room.false in
    elim c.match-close.branch [
      | in-Some w ↦ rw w.result-is (record {
        outcome = want_step c.self.inside.rows.limits s c.args.caller c.args.host c.args.now;
        enters = rw (← c.self.view_is) enters;
        has_room = rw (← c.self.view_is) left;
        close = rw w.in-Some.is at c.want-reply.ensures.close;
      })
      | in-None w ↦ rw w.result-is (record {
        outcome = want_step c.self.inside.rows.limits s c.args.caller c.args.host c.args.now;
        enters = rw (← c.self.view_is) enters;
        has_room = rw (← c.self.view_is) left;
        is_made = want_made c.self.inside.rows.limits s c.args.caller c.args.host c.args.now (rw w.in-None.is at c.want-reply.ensures.close);
      })
    ]
