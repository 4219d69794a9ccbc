-- The machine's step on a connection that is given back, and its entry.
use Rattle.std.proofs.Common.{sym, ◌∙◌, ap, inl, refl}
use Rattle.std.specs.List.{find}
use Rattle.gw_pool.specs.State.{has_number}
use Rattle.gw_pool.specs.Machine.{back_row}
use Rattle.gw_pool.specs.Rows.{state_of}
use Rattle.gw_pool.specs.declared.entry.Call.TheVariants as call
use Rattle.gw_pool.proofs.Fits.{back_fits}
use Rattle.gw_pool.proofs.Steps.{back_goes}
use Rattle.gw_pool.proofs.Entries.{has_room, stepped, holds_then, enters_then}
use Rattle.gw_pool.proofs.pool.PoolCore.give_back.Goals as goal

pub give_back-reply-requires-clause-room : goal.give_back-reply-requires-clause-room
give_back-reply-requires-clause-room g c = has_room c.self.inside.rows c.self.inside.journal c.self.invariant

pub invariant_of-self : goal.invariant_of-self
invariant_of-self g c =
    let s = state_of c.self.inside.rows in
    let f = sym (c.in-Some.ensures ∙ ap (λ l. find (has_number c.args.no) l) c.rows.ensures) in
    holds_then c.self.inside.rows c.give_back-reply.new.self c.self.inside.journal c.enter.new.journal c.in-Out.caller (call.GiveBack c.args.no c.args.now) (back_row c.self.inside.rows.limits s c.in-Some.row c.args.now) c.self.invariant (inl refl)
    (stepped c.self.inside.rows c.give_back-reply.new.self c.self.inside.journal c.enter.new.journal c.in-Out.caller (call.GiveBack c.args.no c.args.now) (back_row c.self.inside.rows.limits s c.in-Some.row c.args.now) c.give_back-reply.result.reply
    c.self.invariant (back_fits c.self.inside.rows.limits s c.args.no c.args.now c.in-Out.want c.in-Out.caller c.in-Some.row f c.in-Out.is) c.give_back-reply.ensures.state c.give_back-reply.ensures.keeps c.give_back-reply.ensures.reply c.enter.ensures.items c.enter.ensures.room
    (back_goes c.self.inside.rows.limits s c.args.no c.args.now c.in-Out.want c.in-Out.caller c.in-Some.row f c.in-Out.is))

pub returns : goal.returns
returns g c =
    let s = state_of c.self.inside.rows in
    let f = sym (c.in-Some.ensures ∙ ap (λ l. find (has_number c.args.no) l) c.rows.ensures) in
    record {
      caller = c.in-Out.caller;
      outcome = back_row c.self.inside.rows.limits s c.in-Some.row c.args.now;
      enters = rw (← c.self.view_is) (enters_then c.self.inside.rows c.give_back-reply.new.self c.self.inside.journal c.enter.new.journal c.in-Out.caller (call.GiveBack c.args.no c.args.now) (back_row c.self.inside.rows.limits s c.in-Some.row c.args.now) c.self.invariant
          (stepped c.self.inside.rows c.give_back-reply.new.self c.self.inside.journal c.enter.new.journal c.in-Out.caller (call.GiveBack c.args.no c.args.now) (back_row c.self.inside.rows.limits s c.in-Some.row c.args.now) c.give_back-reply.result.reply
          c.self.invariant (back_fits c.self.inside.rows.limits s c.args.no c.args.now c.in-Out.want c.in-Out.caller c.in-Some.row f c.in-Out.is) c.give_back-reply.ensures.state c.give_back-reply.ensures.keeps c.give_back-reply.ensures.reply c.enter.ensures.items c.enter.ensures.room
          (back_goes c.self.inside.rows.limits s c.args.no c.args.now c.in-Out.want c.in-Out.caller c.in-Some.row f c.in-Out.is)));
      closes = c.give_back-reply.ensures.close;
    }
