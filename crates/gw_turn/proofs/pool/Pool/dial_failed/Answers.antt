-- A dial of one pass failed.
use Rattle.std.proofs.Common.{◌∙◌, ap, sym, subst}
use Rattle.gw_pool.specs.Lent as lent
use Rattle.gw_pool.specs.Tokens.{change, without_dial}
use Rattle.gw_turn.specs.Meeting.{Entering}
use Rattle.gw_turn.proofs.Leaving.{slot_out, slot_is}
use Rattle.gw_turn.proofs.Beginning.{begun, enters, becomes}
use Rattle.gw_pool.specs.Core.{state_at}
use Rattle.gw_pool.specs.Owner.{owner}
use Rattle.gw_turn.proofs.Callers.{has_dial_row}
use Rattle.gw_turn.proofs.RowCalls.{enter_failed, dial_failed}
use Rattle.gw_turn.proofs.pool.Pool.dial_failed.Goals as goal

pub slot_mut-requires : goal.slot_mut-requires
slot_mut-requires g c = (c.begin-place.ensures.seat, slot_out c.begin-place.result.me.1 c.begin-place.ensures.slot)

pub dial_failed-requires : goal.dial_failed-requires
dial_failed-requires g c =
    let b = begun c.pass.inside.badge.table_id c.pass.inside.badge.views c.args.pass.now c.begin-place.result.me.0 c.begin-place.result.me.1 c.in-Some.core c.pass.inside.out c.pass.inside.waits c.pass.inside.number c.pass.view_is c.pass.invariant (slot_is c.begin-place.result.me.1 c.slot_mut.result.now c.in-Some.core c.slot_mut.ensures.value c.in-Some.is) c.begin-place.ensures.view in
    has_dial_row (owner c.in-Some.core.journal) c.args.pass.now.lent.number (state_at c.in-Some.core) c.args.pass.now.lent.out c.in-Some.core.taken c.args.d.want b.meeting.ties c.requires.token

pub enter-requires-clause-entry : goal.enter-requires-clause-entry
enter-requires-clause-entry g c =
    let b = begun c.pass.inside.badge.table_id c.pass.inside.badge.views c.args.pass.now c.begin-place.result.me.0 c.begin-place.result.me.1 c.in-Some.core c.pass.inside.out c.pass.inside.waits c.pass.inside.number c.pass.view_is c.pass.invariant (slot_is c.begin-place.result.me.1 c.slot_mut.result.now c.in-Some.core c.slot_mut.ensures.value c.in-Some.is) c.begin-place.ensures.view in
    enters c.args.pass.now c.begin-place.result.me.0 c.in-Some.core c.dial_failed.new.self c.pass.inside.out.out c.spend_dial.new.self.out c.pass.inside.waits c.pass.inside.number b
    (subst (λ o. Entering c.args.pass.now.lent.number c.in-Some.core c.dial_failed.new.self c.args.pass.now.lent.out o) (sym (c.spend_dial.ensures.out ∙ ap (λ o. change c.args.d.want without_dial o) b.same_out))
    (enter_failed c.args.pass.now.lent c.in-Some.core c.dial_failed.new.self c.args.d.want b.meeting c.requires.token c.dial_failed.ensures))

pub returns-clause-step : goal.returns-clause-step
returns-clause-step g c =
    let b = begun c.pass.inside.badge.table_id c.pass.inside.badge.views c.args.pass.now c.begin-place.result.me.0 c.begin-place.result.me.1 c.in-Some.core c.pass.inside.out c.pass.inside.waits c.pass.inside.number c.pass.view_is c.pass.invariant (slot_is c.begin-place.result.me.1 c.slot_mut.result.now c.in-Some.core c.slot_mut.ensures.value c.in-Some.is) c.begin-place.ensures.view in
    subst (λ x. lent.DialFailedStep c.args.pass.now.lent x c.args.d) (becomes c.args.pass.now c.begin-place.result.me.0 c.in-Some.core c.dial_failed.new.self c.pass.inside.out.out c.spend_dial.new.self.out (change c.args.d.want without_dial c.args.pass.now.lent.out) c.pass.inside.waits c.pass.inside.waits (c.args.pass.now.lent.waits) c.pass.inside.number c.enter.result.table_id c.enter.result.views b c.enter.ensures.view (c.spend_dial.ensures.out ∙ ap (λ o. change c.args.d.want without_dial o) b.same_out) (b.same_waits))
    (dial_failed c.args.pass.now.lent c.in-Some.core c.dial_failed.new.self c.args.d b.meeting c.requires.token c.dial_failed.ensures)
