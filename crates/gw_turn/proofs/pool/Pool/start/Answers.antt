-- A dial of one pass begins.
use Rattle.std.proofs.Common.{◌∙◌, ap, sym, subst, refl}
use Rattle.gw_pool.specs.Core as core
use Rattle.gw_pool.specs.Lent as lent
use Rattle.gw_pool.specs.Tokens.{change, with_dial}
use Rattle.gw_turn.specs.Meeting.{Entering, Leaving}
use Rattle.gw_turn.proofs.Leaving.{slot_out, slot_is}
use Rattle.gw_turn.proofs.Beginning.{begun, enters, leaves, becomes}
use Rattle.gw_turn.proofs.CoreCalls.{leaving_same}
use Rattle.gw_turn.proofs.RowCalls.{enter_start, start_go, start_not}
use Rattle.gw_turn.proofs.pool.Pool.start.Goals as goal

pub slot_mut-requires : goal.slot_mut-requires
slot_mut-requires g c = (c.begin-place.ensures.seat, slot_out c.begin-place.result.me.1 c.begin-place.ensures.slot)

pub start-begun-requires : goal.start-begun-requires
start-begun-requires g c =
    let b = begun c.pass.inside.badge.table_id c.pass.inside.badge.views c.args.pass.now c.begin-place.result.me.0 c.begin-place.result.me.1 c.in-Some.core c.pass.inside.out c.pass.inside.waits c.pass.inside.number c.pass.view_is c.pass.invariant (slot_is c.begin-place.result.me.1 c.slot_mut.result.now c.in-Some.core c.slot_mut.ensures.value c.in-Some.is) c.begin-place.ensures.view in
    b.meeting.ties.untaken c.args.t.now.want c.requires.token

pub enter-requires-clause-entry : goal.enter-requires-clause-entry
enter-requires-clause-entry g c =
    let b = begun c.pass.inside.badge.table_id c.pass.inside.badge.views c.args.pass.now c.begin-place.result.me.0 c.begin-place.result.me.1 c.in-Some.core c.pass.inside.out c.pass.inside.waits c.pass.inside.number c.pass.view_is c.pass.invariant (slot_is c.begin-place.result.me.1 c.slot_mut.result.now c.in-Some.core c.slot_mut.ensures.value c.in-Some.is) c.begin-place.ensures.view in
    enters c.args.pass.now c.begin-place.result.me.0 c.in-Some.core c.start-begun.new.self c.pass.inside.out.out c.hand_out_dial.new.self.out c.pass.inside.waits c.pass.inside.number b
    (subst (λ o. Entering c.args.pass.now.lent.number c.in-Some.core c.start-begun.new.self c.args.pass.now.lent.out o) (sym (c.hand_out_dial.ensures.out ∙ ap (λ o. change c.args.t.now.want with_dial o) b.same_out))
    (enter_start c.args.pass.now.lent c.in-Some.core c.start-begun.new.self c.args.t.now.want b.meeting c.requires.token (subst (λ r. core.StartDone c.in-Some.core c.start-begun.new.self c.args.t.now.want r) c.if-begun.true c.start-begun.ensures)))

pub leave-requires-clause-leave : goal.leave-requires-clause-leave
leave-requires-clause-leave g c =
    let b = begun c.pass.inside.badge.table_id c.pass.inside.badge.views c.args.pass.now c.begin-place.result.me.0 c.begin-place.result.me.1 c.in-Some.core c.pass.inside.out c.pass.inside.waits c.pass.inside.number c.pass.view_is c.pass.invariant (slot_is c.begin-place.result.me.1 c.slot_mut.result.now c.in-Some.core c.slot_mut.ensures.value c.in-Some.is) c.begin-place.ensures.view in
    leaves c.args.pass.now c.begin-place.result.me.0 c.in-Some.core c.start-begun.new.self c.pass.inside.out.out c.pass.inside.out.out c.pass.inside.waits c.pass.inside.number b
    (subst (λ o. Leaving c.args.pass.now.lent.number c.in-Some.core c.start-begun.new.self c.args.pass.now.lent.out o) (sym (b.same_out))
    (leaving_same c.args.pass.now.lent c.in-Some.core c.start-begun.new.self b.meeting (let started = (subst (λ r. core.StartDone c.in-Some.core c.start-begun.new.self c.args.t.now.want r) c.if-begun.false c.start-begun.ensures) in started.same)))

pub returns-then-begun-clause-step : goal.returns-then-begun-clause-step
returns-then-begun-clause-step g c =
    let b = begun c.pass.inside.badge.table_id c.pass.inside.badge.views c.args.pass.now c.begin-place.result.me.0 c.begin-place.result.me.1 c.in-Some.core c.pass.inside.out c.pass.inside.waits c.pass.inside.number c.pass.view_is c.pass.invariant (slot_is c.begin-place.result.me.1 c.slot_mut.result.now c.in-Some.core c.slot_mut.ensures.value c.in-Some.is) c.begin-place.ensures.view in
    subst (λ x. lent.StartGo c.args.pass.now.lent x c.args.t.now (record { want = c.args.t.now.want; host = c.args.t.now.host })) (becomes c.args.pass.now c.begin-place.result.me.0 c.in-Some.core c.start-begun.new.self c.pass.inside.out.out c.hand_out_dial.new.self.out (change c.args.t.now.want with_dial c.args.pass.now.lent.out) c.pass.inside.waits c.pass.inside.waits (c.args.pass.now.lent.waits) c.pass.inside.number c.enter.result.table_id c.enter.result.views b c.enter.ensures.view (c.hand_out_dial.ensures.out ∙ ap (λ o. change c.args.t.now.want with_dial o) b.same_out) (b.same_waits))
    (start_go c.args.pass.now.lent c.in-Some.core c.start-begun.new.self c.args.t.now _ b.meeting c.requires.token (subst (λ r. core.StartDone c.in-Some.core c.start-begun.new.self c.args.t.now.want r) c.if-begun.true c.start-begun.ensures) refl refl)

pub returns-else-begun-clause-step : goal.returns-else-begun-clause-step
returns-else-begun-clause-step g c =
    let b = begun c.pass.inside.badge.table_id c.pass.inside.badge.views c.args.pass.now c.begin-place.result.me.0 c.begin-place.result.me.1 c.in-Some.core c.pass.inside.out c.pass.inside.waits c.pass.inside.number c.pass.view_is c.pass.invariant (slot_is c.begin-place.result.me.1 c.slot_mut.result.now c.in-Some.core c.slot_mut.ensures.value c.in-Some.is) c.begin-place.ensures.view in
    subst (λ x. lent.StartNot c.args.pass.now.lent x c.args.t.now) (becomes c.args.pass.now c.begin-place.result.me.0 c.in-Some.core c.start-begun.new.self c.pass.inside.out.out c.pass.inside.out.out (c.args.pass.now.lent.out) c.pass.inside.waits c.pass.inside.waits (c.args.pass.now.lent.waits) c.pass.inside.number c.leave.result.table_id c.leave.result.views b c.leave.ensures.view (b.same_out) (b.same_waits))
    (start_not c.args.pass.now.lent c.in-Some.core c.start-begun.new.self c.args.t.now b.meeting (subst (λ r. core.StartDone c.in-Some.core c.start-begun.new.self c.args.t.now.want r) c.if-begun.false c.start-begun.ensures))
