-- A lease of one pass ends.
use Rattle.std.proofs.Common.{◌∙◌, ap, sym, subst}
use Rattle.gw_pool.specs.Lent as lent
use Rattle.gw_pool.specs.Tokens.{change, without_lease}
use Rattle.gw_turn.specs.Meeting.{Entering}
use Rattle.gw_turn.proofs.Leaving.{slot_out, slot_is}
use Rattle.gw_turn.proofs.Beginning.{begun, enters, becomes}
use Rattle.gw_turn.proofs.RowCalls.{drop_requires, enter_drop, drop_step}
use Rattle.gw_turn.proofs.pool.Pool.drop_conn.Goals as goal

pub slot_mut-requires : goal.slot_mut-requires
slot_mut-requires g c = (c.begin-place.ensures.seat, slot_out c.begin-place.result.me.1 c.begin-place.ensures.slot)

pub drop_conn-requires : goal.drop_conn-requires
drop_conn-requires g c =
    let b = begun c.pass.inside.badge.table_id c.pass.inside.badge.views c.args.pass.now c.begin-place.result.me.0 c.begin-place.result.me.1 c.in-Some.core c.pass.inside.out c.pass.inside.waits c.pass.inside.number c.pass.view_is c.pass.invariant (slot_is c.begin-place.result.me.1 c.slot_mut.result.now c.in-Some.core c.slot_mut.ensures.value c.in-Some.is) c.begin-place.ensures.view in
    drop_requires g.C.Link.link c.args.pass.now.lent c.in-Some.core c.args.l b.meeting c.requires.lease

pub enter-requires-clause-entry : goal.enter-requires-clause-entry
enter-requires-clause-entry g c =
    let b = begun c.pass.inside.badge.table_id c.pass.inside.badge.views c.args.pass.now c.begin-place.result.me.0 c.begin-place.result.me.1 c.in-Some.core c.pass.inside.out c.pass.inside.waits c.pass.inside.number c.pass.view_is c.pass.invariant (slot_is c.begin-place.result.me.1 c.slot_mut.result.now c.in-Some.core c.slot_mut.ensures.value c.in-Some.is) c.begin-place.ensures.view in
    enters c.args.pass.now c.begin-place.result.me.0 c.in-Some.core c.drop_conn.new.self c.pass.inside.out.out c.spend_lease.new.self.out c.pass.inside.waits c.pass.inside.number b
    (subst (λ o. Entering c.args.pass.now.lent.number c.in-Some.core c.drop_conn.new.self c.args.pass.now.lent.out o) (sym (c.spend_lease.ensures.out ∙ ap (λ o. change c.args.l.want without_lease o) b.same_out))
    (enter_drop g.C.Link.link c.args.pass.now.lent c.in-Some.core c.drop_conn.new.self c.args.l b.meeting c.requires.lease c.drop_conn.ensures))

pub returns-clause-step : goal.returns-clause-step
returns-clause-step g c =
    let b = begun c.pass.inside.badge.table_id c.pass.inside.badge.views c.args.pass.now c.begin-place.result.me.0 c.begin-place.result.me.1 c.in-Some.core c.pass.inside.out c.pass.inside.waits c.pass.inside.number c.pass.view_is c.pass.invariant (slot_is c.begin-place.result.me.1 c.slot_mut.result.now c.in-Some.core c.slot_mut.ensures.value c.in-Some.is) c.begin-place.ensures.view in
    subst (λ x. lent.DropStep c.args.pass.now.lent x c.args.l.no c.args.l.want) (becomes c.args.pass.now c.begin-place.result.me.0 c.in-Some.core c.drop_conn.new.self c.pass.inside.out.out c.spend_lease.new.self.out (change c.args.l.want without_lease c.args.pass.now.lent.out) c.pass.inside.waits c.pass.inside.waits (c.args.pass.now.lent.waits) c.pass.inside.number c.enter.result.table_id c.enter.result.views b c.enter.ensures.view (c.spend_lease.ensures.out ∙ ap (λ o. change c.args.l.want without_lease o) b.same_out) (b.same_waits))
    (drop_step g.C.Link.link c.args.pass.now.lent c.in-Some.core c.drop_conn.new.self c.args.l b.meeting c.requires.lease c.drop_conn.ensures)
