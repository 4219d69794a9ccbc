-- How a want of one pass stands.
use Rattle.std.proofs.Common.{◌∙◌, ap, sym, subst, refl}
use Rattle.gw_pool.specs.Lent as lent
use Rattle.gw_pool.specs.Tokens.{change, without_ticket, leased}
use Rattle.gw_turn.specs.Meeting.{Leaving}
use Rattle.gw_turn.proofs.Leaving.{slot_out, slot_is}
use Rattle.gw_turn.proofs.Beginning.{begun, leaves, becomes}
use Rattle.gw_turn.proofs.CoreCalls.{leaving_same}
use Rattle.gw_turn.proofs.RowCalls.{leave_taken, leave_none, ask_taken, ask_granted, ask_not_yet, ask_failed}
use Rattle.gw_turn.proofs.pool.Pool.ask.Goals as goal

pub slot_mut-requires : goal.slot_mut-requires
slot_mut-requires g c = (c.begin-place.ensures.seat, slot_out c.begin-place.result.me.1 c.begin-place.ensures.slot)

pub ask-asked-requires : goal.ask-asked-requires
ask-asked-requires g c =
    let b = begun c.pass.inside.badge.table_id c.pass.inside.badge.views c.args.pass.now c.begin-place.result.me.0 c.begin-place.result.me.1 c.in-Some.core c.pass.inside.out c.pass.inside.waits c.pass.inside.number c.pass.view_is c.pass.invariant (slot_is c.begin-place.result.me.1 c.slot_mut.result.now c.in-Some.core c.slot_mut.ensures.value c.in-Some.is) c.begin-place.ensures.view in
    b.meeting.ties.untaken c.args.t.want c.requires.token

pub leave-requires-clause-leave : goal.leave-requires-clause-leave
leave-requires-clause-leave g c =
    let b = begun c.pass.inside.badge.table_id c.pass.inside.badge.views c.args.pass.now c.begin-place.result.me.0 c.begin-place.result.me.1 c.in-Some.core c.pass.inside.out c.pass.inside.waits c.pass.inside.number c.pass.view_is c.pass.invariant (slot_is c.begin-place.result.me.1 c.slot_mut.result.now c.in-Some.core c.slot_mut.ensures.value c.in-Some.is) c.begin-place.ensures.view in
    leaves c.args.pass.now c.begin-place.result.me.0 c.in-Some.core c.ask-asked.new.self c.pass.inside.out.out c.lease.new.self.out c.pass.inside.waits c.pass.inside.number b
    (subst (λ o. Leaving c.args.pass.now.lent.number c.in-Some.core c.ask-asked.new.self c.args.pass.now.lent.out o) (sym (c.lease.ensures.out ∙ ap (λ o. change c.args.t.want leased o) b.same_out))
    (leave_taken g.C.Link.link c.args.pass.now.lent c.in-Some.core c.ask-asked.new.self c.args.t.want c.in-Taken.conn c.in-Taken.no c.in-Taken.reused c.in-Taken.host b.meeting c.requires.token c.in-Taken.ensures))

pub leave-requires-in-Granted-clause-leave : goal.leave-requires-in-Granted-clause-leave
leave-requires-in-Granted-clause-leave g c =
    let b = begun c.pass.inside.badge.table_id c.pass.inside.badge.views c.args.pass.now c.begin-place.result.me.0 c.begin-place.result.me.1 c.in-Some.core c.pass.inside.out c.pass.inside.waits c.pass.inside.number c.pass.view_is c.pass.invariant (slot_is c.begin-place.result.me.1 c.slot_mut.result.now c.in-Some.core c.slot_mut.ensures.value c.in-Some.is) c.begin-place.ensures.view in
    leaves c.args.pass.now c.begin-place.result.me.0 c.in-Some.core c.ask-asked.new.self c.pass.inside.out.out c.pass.inside.out.out c.pass.inside.waits c.pass.inside.number b
    (subst (λ o. Leaving c.args.pass.now.lent.number c.in-Some.core c.ask-asked.new.self c.args.pass.now.lent.out o) (sym (b.same_out))
    (leaving_same c.args.pass.now.lent c.in-Some.core c.ask-asked.new.self b.meeting c.in-Granted.ensures.1))

pub leave-requires-in-NotYet-clause-leave : goal.leave-requires-in-NotYet-clause-leave
leave-requires-in-NotYet-clause-leave g c =
    let b = begun c.pass.inside.badge.table_id c.pass.inside.badge.views c.args.pass.now c.begin-place.result.me.0 c.begin-place.result.me.1 c.in-Some.core c.pass.inside.out c.pass.inside.waits c.pass.inside.number c.pass.view_is c.pass.invariant (slot_is c.begin-place.result.me.1 c.slot_mut.result.now c.in-Some.core c.slot_mut.ensures.value c.in-Some.is) c.begin-place.ensures.view in
    leaves c.args.pass.now c.begin-place.result.me.0 c.in-Some.core c.ask-asked.new.self c.pass.inside.out.out c.pass.inside.out.out c.pass.inside.waits c.pass.inside.number b
    (subst (λ o. Leaving c.args.pass.now.lent.number c.in-Some.core c.ask-asked.new.self c.args.pass.now.lent.out o) (sym (b.same_out))
    (leaving_same c.args.pass.now.lent c.in-Some.core c.ask-asked.new.self b.meeting c.in-NotYet.ensures.1))

pub leave-requires-in-Failed-clause-leave : goal.leave-requires-in-Failed-clause-leave
leave-requires-in-Failed-clause-leave g c =
    let b = begun c.pass.inside.badge.table_id c.pass.inside.badge.views c.args.pass.now c.begin-place.result.me.0 c.begin-place.result.me.1 c.in-Some.core c.pass.inside.out c.pass.inside.waits c.pass.inside.number c.pass.view_is c.pass.invariant (slot_is c.begin-place.result.me.1 c.slot_mut.result.now c.in-Some.core c.slot_mut.ensures.value c.in-Some.is) c.begin-place.ensures.view in
    leaves c.args.pass.now c.begin-place.result.me.0 c.in-Some.core c.ask-asked.new.self c.pass.inside.out.out c.spend_ticket.new.self.out c.pass.inside.waits c.pass.inside.number b
    (subst (λ o. Leaving c.args.pass.now.lent.number c.in-Some.core c.ask-asked.new.self c.args.pass.now.lent.out o) (sym (c.spend_ticket.ensures.out ∙ ap (λ o. change c.args.t.want without_ticket o) b.same_out))
    (leave_none c.args.pass.now.lent c.in-Some.core c.ask-asked.new.self c.args.t.want b.meeting c.requires.token c.in-Failed.ensures.1 c.in-Failed.ensures.0))

pub returns-in-Taken-clause-step : goal.returns-in-Taken-clause-step
returns-in-Taken-clause-step g c =
    let b = begun c.pass.inside.badge.table_id c.pass.inside.badge.views c.args.pass.now c.begin-place.result.me.0 c.begin-place.result.me.1 c.in-Some.core c.pass.inside.out c.pass.inside.waits c.pass.inside.number c.pass.view_is c.pass.invariant (slot_is c.begin-place.result.me.1 c.slot_mut.result.now c.in-Some.core c.slot_mut.ensures.value c.in-Some.is) c.begin-place.ensures.view in
    subst (λ x. lent.AskTaken g.C.Link.link c.args.pass.now.lent x c.args.t (record { conn = c.in-Taken.conn; no = c.in-Taken.no; want = c.args.t.want; host = c.in-Taken.host; link = c.number-link.result; reused = c.in-Taken.reused })) (becomes c.args.pass.now c.begin-place.result.me.0 c.in-Some.core c.ask-asked.new.self c.pass.inside.out.out c.lease.new.self.out (change c.args.t.want leased c.args.pass.now.lent.out) c.pass.inside.waits c.pass.inside.waits (c.args.pass.now.lent.waits) c.pass.inside.number c.leave.result.table_id c.leave.result.views b c.leave.ensures.view (c.lease.ensures.out ∙ ap (λ o. change c.args.t.want leased o) b.same_out) (b.same_waits))
    (ask_taken g.C.Link.link c.args.pass.now.lent c.in-Some.core c.ask-asked.new.self c.args.t c.in-Taken.conn c.in-Taken.no c.in-Taken.reused c.in-Taken.host c.number-link.result b.meeting c.requires.token c.in-Taken.ensures c.number-link.ensures)

pub returns-in-Granted-clause-step : goal.returns-in-Granted-clause-step
returns-in-Granted-clause-step g c =
    let b = begun c.pass.inside.badge.table_id c.pass.inside.badge.views c.args.pass.now c.begin-place.result.me.0 c.begin-place.result.me.1 c.in-Some.core c.pass.inside.out c.pass.inside.waits c.pass.inside.number c.pass.view_is c.pass.invariant (slot_is c.begin-place.result.me.1 c.slot_mut.result.now c.in-Some.core c.slot_mut.ensures.value c.in-Some.is) c.begin-place.ensures.view in
    subst (λ x. lent.AskGranted c.args.pass.now.lent x c.args.t c.args.t) (becomes c.args.pass.now c.begin-place.result.me.0 c.in-Some.core c.ask-asked.new.self c.pass.inside.out.out c.pass.inside.out.out (c.args.pass.now.lent.out) c.pass.inside.waits c.pass.inside.waits (c.args.pass.now.lent.waits) c.pass.inside.number c.leave-in-Granted.result.table_id c.leave-in-Granted.result.views b c.leave-in-Granted.ensures.view (b.same_out) (b.same_waits))
    (ask_granted c.args.pass.now.lent c.in-Some.core c.ask-asked.new.self c.args.t b.meeting c.in-Granted.ensures.0 c.in-Granted.ensures.1)

pub returns-in-NotYet-clause-step : goal.returns-in-NotYet-clause-step
returns-in-NotYet-clause-step g c =
    let b = begun c.pass.inside.badge.table_id c.pass.inside.badge.views c.args.pass.now c.begin-place.result.me.0 c.begin-place.result.me.1 c.in-Some.core c.pass.inside.out c.pass.inside.waits c.pass.inside.number c.pass.view_is c.pass.invariant (slot_is c.begin-place.result.me.1 c.slot_mut.result.now c.in-Some.core c.slot_mut.ensures.value c.in-Some.is) c.begin-place.ensures.view in
    subst (λ x. lent.AskNotYet c.args.pass.now.lent x c.args.t c.args.t) (becomes c.args.pass.now c.begin-place.result.me.0 c.in-Some.core c.ask-asked.new.self c.pass.inside.out.out c.pass.inside.out.out (c.args.pass.now.lent.out) c.pass.inside.waits c.saturating_add-pass-inside.result (c.saturating_add-pass-inside.result) c.pass.inside.number c.leave-in-NotYet.result.table_id c.leave-in-NotYet.result.views b c.leave-in-NotYet.ensures.view (b.same_out) (refl))
    (ask_not_yet c.args.pass.now.lent c.in-Some.core c.ask-asked.new.self c.args.t c.saturating_add-pass-inside.result b.meeting c.in-NotYet.ensures.0 c.in-NotYet.ensures.1 (rw (← b.same_waits) c.saturating_add-pass-inside.ensures))

pub returns-in-Failed-clause-step : goal.returns-in-Failed-clause-step
returns-in-Failed-clause-step g c =
    let b = begun c.pass.inside.badge.table_id c.pass.inside.badge.views c.args.pass.now c.begin-place.result.me.0 c.begin-place.result.me.1 c.in-Some.core c.pass.inside.out c.pass.inside.waits c.pass.inside.number c.pass.view_is c.pass.invariant (slot_is c.begin-place.result.me.1 c.slot_mut.result.now c.in-Some.core c.slot_mut.ensures.value c.in-Some.is) c.begin-place.ensures.view in
    subst (λ x. lent.AskFailed c.args.pass.now.lent x c.args.t) (becomes c.args.pass.now c.begin-place.result.me.0 c.in-Some.core c.ask-asked.new.self c.pass.inside.out.out c.spend_ticket.new.self.out (change c.args.t.want without_ticket c.args.pass.now.lent.out) c.pass.inside.waits c.pass.inside.waits (c.args.pass.now.lent.waits) c.pass.inside.number c.leave-in-Failed.result.table_id c.leave-in-Failed.result.views b c.leave-in-Failed.ensures.view (c.spend_ticket.ensures.out ∙ ap (λ o. change c.args.t.want without_ticket o) b.same_out) (b.same_waits))
    (ask_failed c.args.pass.now.lent c.in-Some.core c.ask-asked.new.self c.args.t b.meeting c.requires.token c.in-Failed.ensures.0 c.in-Failed.ensures.1)
