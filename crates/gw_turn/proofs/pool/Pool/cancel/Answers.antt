-- A want of one pass is given up.
use Rattle.std.proofs.Common.{◌≡◌, ◌∙◌, ◌∷◌, [], ap, sym, subst, length, arith, Some}
use Rattle.gw_pool.specs.Lent as lent
use Rattle.gw_pool.specs.Tokens.{change, without_ticket}
use Rattle.gw_turn.specs.declared.view.PassView.{PassView}
use Rattle.gw_turn.specs.Meeting.{Meeting, Entering, Leaving}
use Rattle.gw_turn.specs.Steps.{PassMe, lent_of, core_of, took, released, slot_core}
use Rattle.gw_turn.proofs.Leaving.{slot_out, slot_is}
use Rattle.gw_turn.proofs.Beginning.{begun, enters, leaves, becomes}
use Rattle.gw_turn.proofs.RowCalls.{cancel_entered, cancel_left, cancels}
use Rattle.gw_turn.proofs.pool.Pool.cancel.Goals as goal

pub slot_mut-requires : goal.slot_mut-requires
slot_mut-requires g c = (
  c.entries-before.ensures.same.0 ∙ c.begin-place.ensures.seat,
  slot_out c.entries-before.new.place.me.1 (subst (λ (m : PassMe). m.1 ≡ (0, Some (slot_core m.1)) ∷ []) (sym c.entries-before.ensures.me) c.begin-place.ensures.slot),
)

pub cancel-put-requires : goal.cancel-put-requires
cancel-put-requires g c =
    let me = c.entries-before.new.place.me in
    let view = subst (λ (m : PassMe). (v : PassView) × (c.pass.inside.badge.views ≡ v ∷ []) × (m.0 ≡ took (slot_core m.1) v) × Meeting (lent_of v) (slot_core m.1)) (sym c.entries-before.ensures.me) c.begin-place.ensures.view in
    let b = begun c.pass.inside.badge.table_id c.pass.inside.badge.views c.args.pass.now me.0 me.1 c.in-Some.core c.pass.inside.out c.pass.inside.waits c.pass.inside.number c.pass.view_is c.pass.invariant (slot_is me.1 c.slot_mut.result.now c.in-Some.core c.slot_mut.ensures.value c.in-Some.is) view in
    b.meeting.ties.untaken c.args.t.want c.requires.token

pub enter-requires-clause-entry : goal.enter-requires-clause-entry
enter-requires-clause-entry g c =
    let me = c.entries-before.new.place.me in
    let view = subst (λ (m : PassMe). (v : PassView) × (c.pass.inside.badge.views ≡ v ∷ []) × (m.0 ≡ took (slot_core m.1) v) × Meeting (lent_of v) (slot_core m.1)) (sym c.entries-before.ensures.me) c.begin-place.ensures.view in
    let at = slot_is me.1 c.slot_mut.result.now c.in-Some.core c.slot_mut.ensures.value c.in-Some.is in
    let b = begun c.pass.inside.badge.table_id c.pass.inside.badge.views c.args.pass.now me.0 me.1 c.in-Some.core c.pass.inside.out c.pass.inside.waits c.pass.inside.number c.pass.view_is c.pass.invariant at view in
    let before : c.entries-before.result ≡ length c.in-Some.core.journal = c.entries-before.ensures.count ∙ ap (λ (m : PassMe). length (slot_core m.1).journal) (sym c.entries-before.ensures.me) ∙ ap (λ k. length k.journal) at in
    subst (λ (m : PassMe). Entering m.0.own.number (core_of m.0) (slot_core m.1) m.0.own.out c.spend_ticket.new.self.out) (sym c.entries.ensures.me)
    (enters c.args.pass.now me.0 c.in-Some.core c.cancel-put.new.self c.pass.inside.out.out c.spend_ticket.new.self.out c.pass.inside.waits c.pass.inside.number b
    (subst (λ o. Entering c.args.pass.now.lent.number c.in-Some.core c.cancel-put.new.self c.args.pass.now.lent.out o) (sym (c.spend_ticket.ensures.out ∙ ap (λ o. change c.args.t.want without_ticket o) b.same_out))
    (cancel_entered g.C.Link.link c.args.pass.now.lent c.in-Some.core c.cancel-put.new.self c.args.t.want c.args.now c.cancel-put.result.close _ b.meeting c.requires.token (omega (arith, c.if-entries-before.true, before, c.entries.ensures.count)) c.cancel-put.ensures)))

pub leave-requires-clause-leave : goal.leave-requires-clause-leave
leave-requires-clause-leave g c =
    let me = c.entries-before.new.place.me in
    let view = subst (λ (m : PassMe). (v : PassView) × (c.pass.inside.badge.views ≡ v ∷ []) × (m.0 ≡ took (slot_core m.1) v) × Meeting (lent_of v) (slot_core m.1)) (sym c.entries-before.ensures.me) c.begin-place.ensures.view in
    let at = slot_is me.1 c.slot_mut.result.now c.in-Some.core c.slot_mut.ensures.value c.in-Some.is in
    let b = begun c.pass.inside.badge.table_id c.pass.inside.badge.views c.args.pass.now me.0 me.1 c.in-Some.core c.pass.inside.out c.pass.inside.waits c.pass.inside.number c.pass.view_is c.pass.invariant at view in
    let before : c.entries-before.result ≡ length c.in-Some.core.journal = c.entries-before.ensures.count ∙ ap (λ (m : PassMe). length (slot_core m.1).journal) (sym c.entries-before.ensures.me) ∙ ap (λ k. length k.journal) at in
    subst (λ (m : PassMe). Leaving m.0.own.number (core_of m.0) (slot_core m.1) m.0.own.out c.spend_ticket.new.self.out) (sym c.entries.ensures.me)
    (leaves c.args.pass.now me.0 c.in-Some.core c.cancel-put.new.self c.pass.inside.out.out c.spend_ticket.new.self.out c.pass.inside.waits c.pass.inside.number b
    (subst (λ o. Leaving c.args.pass.now.lent.number c.in-Some.core c.cancel-put.new.self c.args.pass.now.lent.out o) (sym (c.spend_ticket.ensures.out ∙ ap (λ o. change c.args.t.want without_ticket o) b.same_out))
    (cancel_left g.C.Link.link c.args.pass.now.lent c.in-Some.core c.cancel-put.new.self c.args.t.want c.args.now c.cancel-put.result.close b.meeting c.requires.token (omega (arith, c.if-entries-before.false, before, c.entries.ensures.count)) c.cancel-put.ensures)))

pub returns-then-entries-before-clause-step : goal.returns-then-entries-before-clause-step
returns-then-entries-before-clause-step g c =
    let me = c.entries-before.new.place.me in
    let view = subst (λ (m : PassMe). (v : PassView) × (c.pass.inside.badge.views ≡ v ∷ []) × (m.0 ≡ took (slot_core m.1) v) × Meeting (lent_of v) (slot_core m.1)) (sym c.entries-before.ensures.me) c.begin-place.ensures.view in
    let b = begun c.pass.inside.badge.table_id c.pass.inside.badge.views c.args.pass.now me.0 me.1 c.in-Some.core c.pass.inside.out c.pass.inside.waits c.pass.inside.number c.pass.view_is c.pass.invariant (slot_is me.1 c.slot_mut.result.now c.in-Some.core c.slot_mut.ensures.value c.in-Some.is) view in
    let left = c.enter.ensures.view ∙ ap (λ (m : PassMe). released (slot_core m.1) c.spend_ticket.new.self.out c.pass.inside.waits m.0 ∷ []) c.entries.ensures.me in
    subst (λ x. lent.CancelStep g.C.Link.link c.args.pass.now.lent x c.args.t c.args.now c.cancel-put.result) (becomes c.args.pass.now me.0 c.in-Some.core c.cancel-put.new.self c.pass.inside.out.out c.spend_ticket.new.self.out (change c.args.t.want without_ticket c.args.pass.now.lent.out) c.pass.inside.waits c.pass.inside.waits (c.args.pass.now.lent.waits) c.pass.inside.number c.enter.result.table_id c.enter.result.views b left (c.spend_ticket.ensures.out ∙ ap (λ o. change c.args.t.want without_ticket o) b.same_out) (b.same_waits))
    (cancels g.C.Link.link c.args.pass.now.lent c.in-Some.core c.cancel-put.new.self c.args.t c.args.now c.cancel-put.result b.meeting c.requires.token c.cancel-put.ensures)

pub returns-else-entries-before-clause-step : goal.returns-else-entries-before-clause-step
returns-else-entries-before-clause-step g c =
    let me = c.entries-before.new.place.me in
    let view = subst (λ (m : PassMe). (v : PassView) × (c.pass.inside.badge.views ≡ v ∷ []) × (m.0 ≡ took (slot_core m.1) v) × Meeting (lent_of v) (slot_core m.1)) (sym c.entries-before.ensures.me) c.begin-place.ensures.view in
    let b = begun c.pass.inside.badge.table_id c.pass.inside.badge.views c.args.pass.now me.0 me.1 c.in-Some.core c.pass.inside.out c.pass.inside.waits c.pass.inside.number c.pass.view_is c.pass.invariant (slot_is me.1 c.slot_mut.result.now c.in-Some.core c.slot_mut.ensures.value c.in-Some.is) view in
    let left = c.leave.ensures.view ∙ ap (λ (m : PassMe). released (slot_core m.1) c.spend_ticket.new.self.out c.pass.inside.waits m.0 ∷ []) c.entries.ensures.me in
    subst (λ x. lent.CancelStep g.C.Link.link c.args.pass.now.lent x c.args.t c.args.now c.cancel-put.result) (becomes c.args.pass.now me.0 c.in-Some.core c.cancel-put.new.self c.pass.inside.out.out c.spend_ticket.new.self.out (change c.args.t.want without_ticket c.args.pass.now.lent.out) c.pass.inside.waits c.pass.inside.waits (c.args.pass.now.lent.waits) c.pass.inside.number c.leave.result.table_id c.leave.result.views b left (c.spend_ticket.ensures.out ∙ ap (λ o. change c.args.t.want without_ticket o) b.same_out) (b.same_waits))
    (cancels g.C.Link.link c.args.pass.now.lent c.in-Some.core c.cancel-put.new.self c.args.t c.args.now c.cancel-put.result b.meeting c.requires.token c.cancel-put.ensures)
