-- The machine's step on a dial that gave a connection, and its entry.
use Rattle.std.proofs.Common.{sym, ◌∙◌, ap, inl, refl}
use Rattle.std.specs.List.{find}
use Rattle.gw_pool.specs.State.{dials_for}
use Rattle.gw_pool.specs.Machine.{dialed_row}
use Rattle.gw_pool.specs.Rows.{state_of}
use Rattle.gw_pool.specs.declared.entry.Call.TheVariants as call
use Rattle.gw_pool.proofs.Fits.{dialed_fits}
use Rattle.gw_pool.proofs.Steps.{dialed_goes}
use Rattle.gw_pool.proofs.Entries.{has_room, stepped, holds_then, enters_then}
use Rattle.gw_pool.proofs.pool.PoolCore.dialed.Goals as goal

pub dialed-reply-requires-clause-room : goal.dialed-reply-requires-clause-room
dialed-reply-requires-clause-room g c = has_room c.self.inside.rows c.self.inside.journal c.self.invariant

pub invariant_of-self : goal.invariant_of-self
invariant_of-self g c =
    let s = state_of c.self.inside.rows in
    let f = sym (c.in-Some.ensures ∙ ap (λ l. find (dials_for c.args.want) l) c.as_slice.ensures.value) in
    holds_then c.self.inside.rows c.dialed-reply.new.self c.self.inside.journal c.enter.new.journal c.in-Some.dial.caller (call.Dialed c.args.want c.number-link.result c.args.now) (dialed_row c.self.inside.rows.limits s c.in-Some.dial c.number-link.result c.args.now) c.self.invariant (inl refl)
    (stepped c.self.inside.rows c.dialed-reply.new.self c.self.inside.journal c.enter.new.journal c.in-Some.dial.caller (call.Dialed c.args.want c.number-link.result c.args.now) (dialed_row c.self.inside.rows.limits s c.in-Some.dial c.number-link.result c.args.now) c.dialed-reply.result.reply
    c.self.invariant (dialed_fits c.self.inside.rows.limits s c.args.want c.number-link.result c.args.now c.in-Some.dial f) c.dialed-reply.ensures.state c.dialed-reply.ensures.keeps c.dialed-reply.ensures.reply c.enter.ensures.items c.enter.ensures.room
    (dialed_goes c.self.inside.rows.limits s c.args.want c.number-link.result c.args.now c.in-Some.dial f))

pub returns : goal.returns
returns g c =
    let s = state_of c.self.inside.rows in
    let f = sym (c.in-Some.ensures ∙ ap (λ l. find (dials_for c.args.want) l) c.as_slice.ensures.value) in
    record {
      caller = c.in-Some.dial.caller;
      outcome = dialed_row c.self.inside.rows.limits s c.in-Some.dial c.number-link.result c.args.now;
      enters = rw (← c.self.view_is, ← c.number-link.ensures) (enters_then c.self.inside.rows c.dialed-reply.new.self c.self.inside.journal c.enter.new.journal c.in-Some.dial.caller (call.Dialed c.args.want c.number-link.result c.args.now) (dialed_row c.self.inside.rows.limits s c.in-Some.dial c.number-link.result c.args.now) c.self.invariant
          (stepped c.self.inside.rows c.dialed-reply.new.self c.self.inside.journal c.enter.new.journal c.in-Some.dial.caller (call.Dialed c.args.want c.number-link.result c.args.now) (dialed_row c.self.inside.rows.limits s c.in-Some.dial c.number-link.result c.args.now) c.dialed-reply.result.reply
          c.self.invariant (dialed_fits c.self.inside.rows.limits s c.args.want c.number-link.result c.args.now c.in-Some.dial f) c.dialed-reply.ensures.state c.dialed-reply.ensures.keeps c.dialed-reply.ensures.reply c.enter.ensures.items c.enter.ensures.room
          (dialed_goes c.self.inside.rows.limits s c.args.want c.number-link.result c.args.now c.in-Some.dial f)));
      closes = c.dialed-reply.ensures.close;
    }
