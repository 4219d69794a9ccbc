-- The machine's step on a connection that is given up, and its entry.
use Rattle.std.proofs.Common.{sym, ◌∙◌, ap, inl, refl}
use Rattle.std.specs.List.{find}
use Rattle.gw_pool.specs.State.{has_number}
use Rattle.gw_pool.specs.Machine.{drop_row}
use Rattle.gw_pool.specs.Rows.{state_of}
use Rattle.gw_pool.specs.declared.entry.Call.TheVariants as call
use Rattle.gw_pool.proofs.Fits.{drop_fits}
use Rattle.gw_pool.proofs.Steps.{drop_goes}
use Rattle.gw_pool.proofs.Entries.{has_room, stepped, holds_then, enters_then}
use Rattle.gw_pool.proofs.pool.PoolCore.drop_conn.Goals as goal

pub drop_conn-reply-requires : goal.drop_conn-reply-requires
drop_conn-reply-requires g c = (has_room c.self.inside.rows c.self.inside.journal c.self.invariant).wants

pub invariant_of-self : goal.invariant_of-self
invariant_of-self g c =
    let s = state_of c.self.inside.rows in
    let f = sym (c.in-Some.ensures ∙ ap (λ l. find (has_number c.args.no) l) c.rows.ensures) in
    holds_then c.self.inside.rows c.drop_conn-reply.new.self c.self.inside.journal c.enter.new.journal c.in-Out.caller (call.Drop c.args.no) (drop_row c.self.inside.rows.limits s c.in-Some.row) c.self.invariant (inl refl)
    (stepped c.self.inside.rows c.drop_conn-reply.new.self c.self.inside.journal c.enter.new.journal c.in-Out.caller (call.Drop c.args.no) (drop_row c.self.inside.rows.limits s c.in-Some.row) c.drop_conn-reply.result
    c.self.invariant (drop_fits c.self.inside.rows.limits s c.args.no c.in-Out.want c.in-Out.caller c.in-Some.row f c.in-Out.is) c.drop_conn-reply.ensures.state c.drop_conn-reply.ensures.keeps c.drop_conn-reply.ensures.reply c.enter.ensures.items c.enter.ensures.room
    (drop_goes c.self.inside.rows.limits s c.args.no c.in-Out.want c.in-Out.caller c.in-Some.row f c.in-Out.is))

pub returns : goal.returns
returns g c =
    let s = state_of c.self.inside.rows in
    let f = sym (c.in-Some.ensures ∙ ap (λ l. find (has_number c.args.no) l) c.rows.ensures) in
    record {
      caller = c.in-Out.caller;
      outcome = drop_row c.self.inside.rows.limits s c.in-Some.row;
      enters = rw (← c.self.view_is) (enters_then c.self.inside.rows c.drop_conn-reply.new.self c.self.inside.journal c.enter.new.journal c.in-Out.caller (call.Drop c.args.no) (drop_row c.self.inside.rows.limits s c.in-Some.row) c.self.invariant
          (stepped c.self.inside.rows c.drop_conn-reply.new.self c.self.inside.journal c.enter.new.journal c.in-Out.caller (call.Drop c.args.no) (drop_row c.self.inside.rows.limits s c.in-Some.row) c.drop_conn-reply.result
          c.self.invariant (drop_fits c.self.inside.rows.limits s c.args.no c.in-Out.want c.in-Out.caller c.in-Some.row f c.in-Out.is) c.drop_conn-reply.ensures.state c.drop_conn-reply.ensures.keeps c.drop_conn-reply.ensures.reply c.enter.ensures.items c.enter.ensures.room
          (drop_goes c.self.inside.rows.limits s c.args.no c.in-Out.want c.in-Out.caller c.in-Some.row f c.in-Out.is)));
    }
