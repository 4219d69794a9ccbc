-- A want of one pass.
use Rattle.std.proofs.Common.{◌∙◌, ◌++◌, ◌∷◌, [], ap, sym, subst, refl}
use Rattle.gw_pool.specs.Core as core
use Rattle.gw_pool.specs.Lent as lent
use Rattle.gw_pool.specs.Tokens.{ticket_of}
use Rattle.gw_turn.specs.Meeting.{Entering, Leaving}
use Rattle.gw_turn.proofs.Leaving.{slot_out, slot_is}
use Rattle.gw_turn.proofs.Beginning.{begun, enters, leaves, becomes, few}
use Rattle.gw_turn.proofs.CoreCalls.{enter_made, enter_expired, want_made, want_expired, want_full, leaving_same}
use Rattle.gw_turn.proofs.pool.Pool.want.Goals as goal

pub slot_mut-requires : goal.slot_mut-requires
slot_mut-requires g c = (c.begin-place.ensures.seat, slot_out c.begin-place.result.me.1 c.begin-place.ensures.slot)

pub want-made-requires-clause-few : goal.want-made-requires-clause-few
want-made-requires-clause-few g c =
    let b = begun c.pass.inside.badge.table_id c.pass.inside.badge.views c.args.pass.now c.begin-place.result.me.0 c.begin-place.result.me.1 c.in-Some.core c.pass.inside.out c.pass.inside.waits c.pass.inside.number c.pass.view_is c.pass.invariant (slot_is c.begin-place.result.me.1 c.slot_mut.result.now c.in-Some.core c.slot_mut.ensures.value c.in-Some.is) c.begin-place.ensures.view in
    few c.args.pass.now c.begin-place.result.me.0 c.in-Some.core c.pass.inside.out.out c.pass.inside.waits c.pass.inside.number b c.requires.few

pub enter-requires-clause-entry : goal.enter-requires-clause-entry
enter-requires-clause-entry g c =
    let b = begun c.pass.inside.badge.table_id c.pass.inside.badge.views c.args.pass.now c.begin-place.result.me.0 c.begin-place.result.me.1 c.in-Some.core c.pass.inside.out c.pass.inside.waits c.pass.inside.number c.pass.view_is c.pass.invariant (slot_is c.begin-place.result.me.1 c.slot_mut.result.now c.in-Some.core c.slot_mut.ensures.value c.in-Some.is) c.begin-place.ensures.view in
    enters c.args.pass.now c.begin-place.result.me.0 c.in-Some.core c.want-made.new.self c.pass.inside.out.out c.hand_out.new.self.out c.pass.inside.waits c.pass.inside.number b
    (subst (λ o. Entering c.args.pass.now.lent.number c.in-Some.core c.want-made.new.self c.args.pass.now.lent.out o) (sym (c.hand_out.ensures.out ∙ ap (λ o. o ++ ticket_of c.in-Made.want ∷ []) b.same_out))
    (enter_made c.args.pass.now.lent c.in-Some.core c.want-made.new.self c.args.host c.args.now c.in-Made.want b.meeting (subst (λ n. core.WantMade c.in-Some.core c.want-made.new.self n c.args.host c.args.now c.in-Made.want) b.same_number c.in-Made.ensures)))

pub enter-requires-in-Expired-clause-entry : goal.enter-requires-in-Expired-clause-entry
enter-requires-in-Expired-clause-entry g c =
    let b = begun c.pass.inside.badge.table_id c.pass.inside.badge.views c.args.pass.now c.begin-place.result.me.0 c.begin-place.result.me.1 c.in-Some.core c.pass.inside.out c.pass.inside.waits c.pass.inside.number c.pass.view_is c.pass.invariant (slot_is c.begin-place.result.me.1 c.slot_mut.result.now c.in-Some.core c.slot_mut.ensures.value c.in-Some.is) c.begin-place.ensures.view in
    enters c.args.pass.now c.begin-place.result.me.0 c.in-Some.core c.want-made.new.self c.pass.inside.out.out c.pass.inside.out.out c.pass.inside.waits c.pass.inside.number b
    (subst (λ o. Entering c.args.pass.now.lent.number c.in-Some.core c.want-made.new.self c.args.pass.now.lent.out o) (sym (b.same_out))
    (enter_expired g.C.Link.link c.args.pass.now.lent c.in-Some.core c.want-made.new.self c.args.host c.args.now c.in-Expired.conn b.meeting (subst (λ n. core.WantExpired g.C.Link.link c.in-Some.core c.want-made.new.self n c.args.host c.args.now c.in-Expired.conn) b.same_number c.in-Expired.ensures)))

pub leave-requires-clause-leave : goal.leave-requires-clause-leave
leave-requires-clause-leave g c =
    let b = begun c.pass.inside.badge.table_id c.pass.inside.badge.views c.args.pass.now c.begin-place.result.me.0 c.begin-place.result.me.1 c.in-Some.core c.pass.inside.out c.pass.inside.waits c.pass.inside.number c.pass.view_is c.pass.invariant (slot_is c.begin-place.result.me.1 c.slot_mut.result.now c.in-Some.core c.slot_mut.ensures.value c.in-Some.is) c.begin-place.ensures.view in
    leaves c.args.pass.now c.begin-place.result.me.0 c.in-Some.core c.want-made.new.self c.pass.inside.out.out c.pass.inside.out.out c.pass.inside.waits c.pass.inside.number b
    (subst (λ o. Leaving c.args.pass.now.lent.number c.in-Some.core c.want-made.new.self c.args.pass.now.lent.out o) (sym (b.same_out))
    (leaving_same c.args.pass.now.lent c.in-Some.core c.want-made.new.self b.meeting c.in-JournalFull.ensures.0))

pub returns-in-Made-clause-step : goal.returns-in-Made-clause-step
returns-in-Made-clause-step g c =
    let b = begun c.pass.inside.badge.table_id c.pass.inside.badge.views c.args.pass.now c.begin-place.result.me.0 c.begin-place.result.me.1 c.in-Some.core c.pass.inside.out c.pass.inside.waits c.pass.inside.number c.pass.view_is c.pass.invariant (slot_is c.begin-place.result.me.1 c.slot_mut.result.now c.in-Some.core c.slot_mut.ensures.value c.in-Some.is) c.begin-place.ensures.view in
    subst (λ x. lent.WantMade c.args.pass.now.lent x c.args.host c.args.now (record { want = c.in-Made.want; host = c.args.host })) (becomes c.args.pass.now c.begin-place.result.me.0 c.in-Some.core c.want-made.new.self c.pass.inside.out.out c.hand_out.new.self.out (c.args.pass.now.lent.out ++ ticket_of c.in-Made.want ∷ []) c.pass.inside.waits c.pass.inside.waits (c.args.pass.now.lent.waits) c.pass.inside.number c.enter.result.table_id c.enter.result.views b c.enter.ensures.view (c.hand_out.ensures.out ∙ ap (λ o. o ++ ticket_of c.in-Made.want ∷ []) b.same_out) (b.same_waits))
    (want_made c.args.pass.now.lent c.in-Some.core c.want-made.new.self c.args.host c.args.now c.in-Made.want _ 0 b.meeting (subst (λ n. core.WantMade c.in-Some.core c.want-made.new.self n c.args.host c.args.now c.in-Made.want) b.same_number c.in-Made.ensures) refl refl)

pub returns-in-Expired-clause-step : goal.returns-in-Expired-clause-step
returns-in-Expired-clause-step g c =
    let b = begun c.pass.inside.badge.table_id c.pass.inside.badge.views c.args.pass.now c.begin-place.result.me.0 c.begin-place.result.me.1 c.in-Some.core c.pass.inside.out c.pass.inside.waits c.pass.inside.number c.pass.view_is c.pass.invariant (slot_is c.begin-place.result.me.1 c.slot_mut.result.now c.in-Some.core c.slot_mut.ensures.value c.in-Some.is) c.begin-place.ensures.view in
    subst (λ x. lent.WantExpired g.C.Link.link c.args.pass.now.lent x c.args.host c.args.now c.in-Expired.conn) (becomes c.args.pass.now c.begin-place.result.me.0 c.in-Some.core c.want-made.new.self c.pass.inside.out.out c.pass.inside.out.out (c.args.pass.now.lent.out) c.pass.inside.waits c.pass.inside.waits (c.args.pass.now.lent.waits) c.pass.inside.number c.enter-in-Expired.result.table_id c.enter-in-Expired.result.views b c.enter-in-Expired.ensures.view (b.same_out) (b.same_waits))
    (want_expired g.C.Link.link c.args.pass.now.lent c.in-Some.core c.want-made.new.self c.args.host c.args.now c.in-Expired.conn b.meeting (subst (λ n. core.WantExpired g.C.Link.link c.in-Some.core c.want-made.new.self n c.args.host c.args.now c.in-Expired.conn) b.same_number c.in-Expired.ensures))

pub returns-in-JournalFull-clause-step : goal.returns-in-JournalFull-clause-step
returns-in-JournalFull-clause-step g c =
    let b = begun c.pass.inside.badge.table_id c.pass.inside.badge.views c.args.pass.now c.begin-place.result.me.0 c.begin-place.result.me.1 c.in-Some.core c.pass.inside.out c.pass.inside.waits c.pass.inside.number c.pass.view_is c.pass.invariant (slot_is c.begin-place.result.me.1 c.slot_mut.result.now c.in-Some.core c.slot_mut.ensures.value c.in-Some.is) c.begin-place.ensures.view in
    subst (λ x. lent.WantFull c.args.pass.now.lent x) (becomes c.args.pass.now c.begin-place.result.me.0 c.in-Some.core c.want-made.new.self c.pass.inside.out.out c.pass.inside.out.out (c.args.pass.now.lent.out) c.pass.inside.waits c.pass.inside.waits (c.args.pass.now.lent.waits) c.pass.inside.number c.leave.result.table_id c.leave.result.views b c.leave.ensures.view (b.same_out) (b.same_waits))
    (want_full c.args.pass.now.lent c.in-Some.core c.want-made.new.self b.meeting c.in-JournalFull.ensures.0 c.in-JournalFull.ensures.1)
