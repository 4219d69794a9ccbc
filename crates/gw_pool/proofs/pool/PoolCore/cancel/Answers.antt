-- The machine's step on a want that is given up, and its entry.
use Rattle.std.proofs.Common.{sym, ◌∙◌, ap, None, inl, refl}
use Rattle.std.specs.List.{find}
use Rattle.gw_pool.specs.State.{wants_it}
use Rattle.gw_pool.specs.Machine.{cancel_row}
use Rattle.gw_pool.specs.Rows.{state_of}
use Rattle.gw_pool.specs.declared.entry.Call.TheVariants as call
use Rattle.gw_pool.proofs.Fits.{cancel_fits}
use Rattle.gw_pool.proofs.Steps.{cancel_goes}
use Rattle.gw_pool.proofs.Entries.{has_room, stepped, holds_then, enters_then}
use Rattle.gw_pool.proofs.pool.PoolCore.cancel.Goals as goal
use Rattle.gw_pool.proofs.Standings.{cancelled_want, cancel_gone}

pub cancel_want-reply-requires : goal.cancel_want-reply-requires
cancel_want-reply-requires g c = (has_room c.self.inside.rows c.self.inside.journal c.self.invariant).wants

pub invariant_of-self : goal.invariant_of-self
invariant_of-self g c =
    let s = state_of c.self.inside.rows in
    let f = sym (c.in-Some.ensures ∙ ap (λ l. find (wants_it c.args.want) l) c.as_slice.ensures.value) in
    holds_then c.self.inside.rows c.cancel_want-reply.new.self c.self.inside.journal c.enter.new.journal c.in-Some.row.caller (call.Cancel c.args.want c.args.now) (cancel_row c.self.inside.rows.limits s c.in-Some.row) c.self.invariant (inl refl)
    (stepped c.self.inside.rows c.cancel_want-reply.new.self c.self.inside.journal c.enter.new.journal c.in-Some.row.caller (call.Cancel c.args.want c.args.now) (cancel_row c.self.inside.rows.limits s c.in-Some.row) c.cancel_want-reply.result
    c.self.invariant (cancel_fits c.self.inside.rows.limits s c.args.want c.args.now c.in-Some.row f) c.cancel_want-reply.ensures.state c.cancel_want-reply.ensures.keeps c.cancel_want-reply.ensures.reply c.enter.ensures.items c.enter.ensures.room
    (cancel_goes c.self.inside.rows.limits s c.args.want c.in-Some.row f))

pub returns-in-Some : goal.returns-in-Some
returns-in-Some g c =
    let s = state_of c.self.inside.rows in
    let f = sym (c.in-Some.ensures ∙ ap (λ l. find (wants_it c.args.want) l) c.as_slice.ensures.value) in
    cancelled_want g.C.Link.link c.args.self.now _ c.args.want c.args.now None c.in-Some.row (rw (← c.self.view_is, ← c.self.invariant.state) f)
    (record {
      caller = c.in-Some.row.caller;
      outcome = cancel_row c.self.inside.rows.limits s c.in-Some.row;
      enters = rw (← c.self.view_is) (enters_then c.self.inside.rows c.cancel_want-reply.new.self c.self.inside.journal c.enter.new.journal c.in-Some.row.caller (call.Cancel c.args.want c.args.now) (cancel_row c.self.inside.rows.limits s c.in-Some.row) c.self.invariant
          (stepped c.self.inside.rows c.cancel_want-reply.new.self c.self.inside.journal c.enter.new.journal c.in-Some.row.caller (call.Cancel c.args.want c.args.now) (cancel_row c.self.inside.rows.limits s c.in-Some.row) c.cancel_want-reply.result
          c.self.invariant (cancel_fits c.self.inside.rows.limits s c.args.want c.args.now c.in-Some.row f) c.cancel_want-reply.ensures.state c.cancel_want-reply.ensures.keeps c.cancel_want-reply.ensures.reply c.enter.ensures.items c.enter.ensures.room
          (cancel_goes c.self.inside.rows.limits s c.args.want c.in-Some.row f)));
      closes = cancel_gone c.self.inside.rows.limits s c.in-Some.row;
    })

pub returns-in-None : goal.returns-in-None
returns-in-None g c = c.cancel_conn.ensures
