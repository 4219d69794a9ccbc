-- The least recently idle connection is taken out by one pass.
use Rattle.std.proofs.Common.{sym, subst, refl}
use Rattle.gw_pool.specs.Core as core
use Rattle.gw_pool.specs.Lent as lent
use Rattle.gw_pool.specs.declared.entry.Call.TheVariants as call
use Rattle.gw_turn.specs.Meeting.{Entering, Leaving}
use Rattle.gw_turn.proofs.Leaving.{slot_out, slot_is}
use Rattle.gw_turn.proofs.Beginning.{begun, enters, leaves, becomes}
use Rattle.gw_pool.proofs.Inverts.{close_was}
use Rattle.gw_turn.proofs.CoreCalls.{leaving_same}
use Rattle.gw_turn.proofs.RowCalls.{enter_idle, idle_taken, idle_not}
use Rattle.gw_turn.proofs.pool.Pool.close_idle.Goals as goal

pub slot_mut-requires : goal.slot_mut-requires
slot_mut-requires g c = (c.begin-place.ensures.seat, slot_out c.begin-place.result.me.1 c.begin-place.ensures.slot)

pub close_idle-taken-requires : goal.close_idle-taken-requires
close_idle-taken-requires g c =
    let b = begun c.pass.inside.badge.table_id c.pass.inside.badge.views c.args.pass.now c.begin-place.result.me.0 c.begin-place.result.me.1 c.in-Some.core c.pass.inside.out c.pass.inside.waits c.pass.inside.number c.pass.view_is c.pass.invariant (slot_is c.begin-place.result.me.1 c.slot_mut.result.now c.in-Some.core c.slot_mut.ensures.value c.in-Some.is) c.begin-place.ensures.view in
    rw b.same_number b.meeting.below

pub enter-requires-clause-entry : goal.enter-requires-clause-entry
enter-requires-clause-entry g c =
    let b = begun c.pass.inside.badge.table_id c.pass.inside.badge.views c.args.pass.now c.begin-place.result.me.0 c.begin-place.result.me.1 c.in-Some.core c.pass.inside.out c.pass.inside.waits c.pass.inside.number c.pass.view_is c.pass.invariant (slot_is c.begin-place.result.me.1 c.slot_mut.result.now c.in-Some.core c.slot_mut.ensures.value c.in-Some.is) c.begin-place.ensures.view in
    let d = (subst (λ n. core.IdleTaken g.C.Link.link c.in-Some.core c.close_idle-taken.new.self n call.CloseIdle c.in-Some-taken.conn) b.same_number c.in-Some-taken.ensures) in
    enters c.args.pass.now c.begin-place.result.me.0 c.in-Some.core c.close_idle-taken.new.self c.pass.inside.out.out c.pass.inside.out.out c.pass.inside.waits c.pass.inside.number b
    (subst (λ o. Entering c.args.pass.now.lent.number c.in-Some.core c.close_idle-taken.new.self c.args.pass.now.lent.out o) (sym (b.same_out))
    (enter_idle g.C.Link.link c.args.pass.now.lent c.in-Some.core c.close_idle-taken.new.self call.CloseIdle c.in-Some-taken.conn b.meeting d (close_was c.in-Some.core.limits (core.state_at c.in-Some.core) c.args.pass.now.lent.number _ d.enters.fits) refl))

pub leave-requires-clause-leave : goal.leave-requires-clause-leave
leave-requires-clause-leave g c =
    let b = begun c.pass.inside.badge.table_id c.pass.inside.badge.views c.args.pass.now c.begin-place.result.me.0 c.begin-place.result.me.1 c.in-Some.core c.pass.inside.out c.pass.inside.waits c.pass.inside.number c.pass.view_is c.pass.invariant (slot_is c.begin-place.result.me.1 c.slot_mut.result.now c.in-Some.core c.slot_mut.ensures.value c.in-Some.is) c.begin-place.ensures.view in
    leaves c.args.pass.now c.begin-place.result.me.0 c.in-Some.core c.close_idle-taken.new.self c.pass.inside.out.out c.pass.inside.out.out c.pass.inside.waits c.pass.inside.number b
    (subst (λ o. Leaving c.args.pass.now.lent.number c.in-Some.core c.close_idle-taken.new.self c.args.pass.now.lent.out o) (sym (b.same_out))
    (leaving_same c.args.pass.now.lent c.in-Some.core c.close_idle-taken.new.self b.meeting c.in-None-taken.ensures.same))

pub returns-in-Some-taken-clause-step : goal.returns-in-Some-taken-clause-step
returns-in-Some-taken-clause-step g c =
    let b = begun c.pass.inside.badge.table_id c.pass.inside.badge.views c.args.pass.now c.begin-place.result.me.0 c.begin-place.result.me.1 c.in-Some.core c.pass.inside.out c.pass.inside.waits c.pass.inside.number c.pass.view_is c.pass.invariant (slot_is c.begin-place.result.me.1 c.slot_mut.result.now c.in-Some.core c.slot_mut.ensures.value c.in-Some.is) c.begin-place.ensures.view in
    let d = (subst (λ n. core.IdleTaken g.C.Link.link c.in-Some.core c.close_idle-taken.new.self n call.CloseIdle c.in-Some-taken.conn) b.same_number c.in-Some-taken.ensures) in
    subst (λ x. lent.IdleTaken g.C.Link.link c.args.pass.now.lent x call.CloseIdle c.in-Some-taken.conn) (becomes c.args.pass.now c.begin-place.result.me.0 c.in-Some.core c.close_idle-taken.new.self c.pass.inside.out.out c.pass.inside.out.out (c.args.pass.now.lent.out) c.pass.inside.waits c.pass.inside.waits (c.args.pass.now.lent.waits) c.pass.inside.number c.enter.result.table_id c.enter.result.views b c.enter.ensures.view (b.same_out) (b.same_waits))
    (idle_taken g.C.Link.link c.args.pass.now.lent c.in-Some.core c.close_idle-taken.new.self call.CloseIdle c.in-Some-taken.conn b.meeting d
    (enter_idle g.C.Link.link c.args.pass.now.lent c.in-Some.core c.close_idle-taken.new.self call.CloseIdle c.in-Some-taken.conn b.meeting d (close_was c.in-Some.core.limits (core.state_at c.in-Some.core) c.args.pass.now.lent.number _ d.enters.fits) refl))

pub returns-in-None-taken-clause-step : goal.returns-in-None-taken-clause-step
returns-in-None-taken-clause-step g c =
    let b = begun c.pass.inside.badge.table_id c.pass.inside.badge.views c.args.pass.now c.begin-place.result.me.0 c.begin-place.result.me.1 c.in-Some.core c.pass.inside.out c.pass.inside.waits c.pass.inside.number c.pass.view_is c.pass.invariant (slot_is c.begin-place.result.me.1 c.slot_mut.result.now c.in-Some.core c.slot_mut.ensures.value c.in-Some.is) c.begin-place.ensures.view in
    subst (λ x. lent.IdleNot c.args.pass.now.lent x call.CloseIdle) (becomes c.args.pass.now c.begin-place.result.me.0 c.in-Some.core c.close_idle-taken.new.self c.pass.inside.out.out c.pass.inside.out.out (c.args.pass.now.lent.out) c.pass.inside.waits c.pass.inside.waits (c.args.pass.now.lent.waits) c.pass.inside.number c.leave.result.table_id c.leave.result.views b c.leave.ensures.view (b.same_out) (b.same_waits))
    (idle_not c.args.pass.now.lent c.in-Some.core c.close_idle-taken.new.self call.CloseIdle b.meeting c.in-None-taken.ensures)
