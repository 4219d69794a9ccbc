-- The machine's step on a want whose connection waits for it, and its entry.
use Rattle.std.proofs.Common.{sym, ◌∙◌, ap, None, inl, refl}
use Rattle.std.specs.List.{find}
use Rattle.gw_pool.specs.State.{wants_it, is_with}
use Rattle.gw_pool.specs.Machine.{cancel_conn}
use Rattle.gw_pool.specs.Rows.{state_of}
use Rattle.gw_pool.specs.declared.entry.Call.TheVariants as call
use Rattle.gw_pool.proofs.Fits.{cancel_conn_fits}
use Rattle.gw_pool.proofs.Steps.{cancel_conn_goes}
use Rattle.gw_pool.proofs.Entries.{has_room, stepped, holds_then, enters_then}
use Rattle.gw_pool.proofs.pool.PoolCore.cancel_conn.Goals as goal
use Rattle.std.proofs.Common.{◌≡◌}
use Rattle.gw_pool.proofs.Standings.{with_not_lent, with_out, cancelled_conn, cancelled_none}

pub cancel_conn-reply-requires-clause-room : goal.cancel_conn-reply-requires-clause-room
cancel_conn-reply-requires-clause-room g c = has_room c.self.inside.rows c.self.inside.journal c.self.invariant

pub cancel_conn-reply-requires-clause-kept : goal.cancel_conn-reply-requires-clause-kept
cancel_conn-reply-requires-clause-kept g c =
    with_not_lent c.self.inside.rows.conns.taken c.self.inside.rows.conns.rows c.args.want c.in-Some.row (sym (c.in-Some.ensures ∙ ap (λ l. find (is_with c.args.want) l) c.rows.ensures)) (rw (← c.self.view_is) at c.requires.kept)

pub unreachable-requires : goal.unreachable-requires
unreachable-requires g c =
    let out = with_out c.self.inside.rows.conns.rows c.args.want c.in-Some.row (sym (c.in-Some.ensures ∙ ap (λ l. find (is_with c.args.want) l) c.rows.ensures)) in
    let here = sym out.1 ∙ c.in-Idle.is in cc here

pub invariant_of-self : goal.invariant_of-self
invariant_of-self g c =
    let s = state_of c.self.inside.rows in
    let f = sym (c.in-Some.ensures ∙ ap (λ l. find (is_with c.args.want) l) c.rows.ensures) in
    let n : find (wants_it c.args.want) c.self.inside.rows.wants.items ≡ None = rw (← c.self.view_is, ← c.self.invariant.state) at c.requires.none in
    let out = with_out c.self.inside.rows.conns.rows c.args.want c.in-Some.row f in
    holds_then c.self.inside.rows c.cancel_conn-reply.new.self c.self.inside.journal c.enter.new.journal c.in-Out.caller (call.Cancel c.args.want c.args.now) (cancel_conn c.self.inside.rows.limits s c.args.want c.in-Some.row c.args.now) c.self.invariant (inl refl)
    (stepped c.self.inside.rows c.cancel_conn-reply.new.self c.self.inside.journal c.enter.new.journal c.in-Out.caller (call.Cancel c.args.want c.args.now) (cancel_conn c.self.inside.rows.limits s c.args.want c.in-Some.row c.args.now) c.cancel_conn-reply.result.reply
    c.self.invariant (cancel_conn_fits c.self.inside.rows.limits s c.args.want c.args.now c.in-Out.want c.in-Out.caller c.in-Some.row n f c.in-Out.is) c.cancel_conn-reply.ensures.state c.cancel_conn-reply.ensures.keeps c.cancel_conn-reply.ensures.reply c.enter.ensures.items c.enter.ensures.room
    (cancel_conn_goes c.self.inside.rows.limits s c.args.want c.args.now out.0 c.in-Some.row f out.1))

pub returns-in-Out : goal.returns-in-Out
returns-in-Out g c =
    let s = state_of c.self.inside.rows in
    let f = sym (c.in-Some.ensures ∙ ap (λ l. find (is_with c.args.want) l) c.rows.ensures) in
    let n : find (wants_it c.args.want) c.self.inside.rows.wants.items ≡ None = rw (← c.self.view_is, ← c.self.invariant.state) at c.requires.none in
    let out = with_out c.self.inside.rows.conns.rows c.args.want c.in-Some.row f in
    cancelled_conn g.C.Link.link c.args.self.now _ c.args.want c.args.now c.cancel_conn-reply.result.close c.in-Some.row (rw (← c.self.view_is, ← c.self.invariant.state) f)
    (record {
      caller = c.in-Out.caller;
      outcome = cancel_conn c.self.inside.rows.limits s c.args.want c.in-Some.row c.args.now;
      enters = rw (← c.self.view_is) (enters_then c.self.inside.rows c.cancel_conn-reply.new.self c.self.inside.journal c.enter.new.journal c.in-Out.caller (call.Cancel c.args.want c.args.now) (cancel_conn c.self.inside.rows.limits s c.args.want c.in-Some.row c.args.now) c.self.invariant
          (stepped c.self.inside.rows c.cancel_conn-reply.new.self c.self.inside.journal c.enter.new.journal c.in-Out.caller (call.Cancel c.args.want c.args.now) (cancel_conn c.self.inside.rows.limits s c.args.want c.in-Some.row c.args.now) c.cancel_conn-reply.result.reply
          c.self.invariant (cancel_conn_fits c.self.inside.rows.limits s c.args.want c.args.now c.in-Out.want c.in-Out.caller c.in-Some.row n f c.in-Out.is) c.cancel_conn-reply.ensures.state c.cancel_conn-reply.ensures.keeps c.cancel_conn-reply.ensures.reply c.enter.ensures.items c.enter.ensures.room
          (cancel_conn_goes c.self.inside.rows.limits s c.args.want c.args.now out.0 c.in-Some.row f out.1)));
      closes = c.cancel_conn-reply.ensures.close;
    })

pub returns-in-None : goal.returns-in-None
returns-in-None g c = cancelled_none g.C.Link.link c.args.self.now c.args.want c.args.now
    (rw (← c.self.view_is, ← c.self.invariant.state) (sym (c.in-None.ensures ∙ ap (λ l. find (is_with c.args.want) l) c.rows.ensures))) c.requires.none
