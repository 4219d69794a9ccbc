-- The machine's step on a failed dial, and its entry.
use Rattle.std.proofs.Common.{sym, ◌∙◌, ap, inl, refl}
use Rattle.std.specs.List.{find}
use Rattle.gw_pool.specs.State.{dials_for}
use Rattle.gw_pool.specs.Machine.{failed_row}
use Rattle.gw_pool.specs.Rows.{state_of}
use Rattle.gw_pool.specs.declared.entry.Call.TheVariants as call
use Rattle.gw_pool.proofs.Fits.{failed_fits}
use Rattle.gw_pool.proofs.Steps.{failed_goes}
use Rattle.gw_pool.proofs.Entries.{has_room, stepped, holds_then, enters_then}
use Rattle.gw_pool.proofs.pool.PoolCore.dial_failed.Goals as goal

pub failed-reply-requires : goal.failed-reply-requires
failed-reply-requires g c = (has_room c.self.inside.rows c.self.inside.journal c.self.invariant).wants

pub invariant_of-self : goal.invariant_of-self
invariant_of-self g c =
    let s = state_of c.self.inside.rows in
    let f = sym (c.in-Some.ensures ∙ ap (λ l. find (dials_for c.args.want) l) c.as_slice.ensures.value) in
    holds_then c.self.inside.rows c.failed-reply.new.self c.self.inside.journal c.enter.new.journal c.in-Some.dial.caller (call.DialFailed c.args.want) (failed_row c.self.inside.rows.limits s c.in-Some.dial) c.self.invariant (inl refl)
    (stepped c.self.inside.rows c.failed-reply.new.self c.self.inside.journal c.enter.new.journal c.in-Some.dial.caller (call.DialFailed c.args.want) (failed_row c.self.inside.rows.limits s c.in-Some.dial) c.failed-reply.result
    c.self.invariant (failed_fits c.self.inside.rows.limits s c.args.want c.in-Some.dial f) c.failed-reply.ensures.state c.failed-reply.ensures.keeps c.failed-reply.ensures.reply c.enter.ensures.items c.enter.ensures.room
    (failed_goes c.self.inside.rows.limits s c.args.want c.in-Some.dial f))

pub returns : goal.returns
returns g c =
    let s = state_of c.self.inside.rows in
    let f = sym (c.in-Some.ensures ∙ ap (λ l. find (dials_for c.args.want) l) c.as_slice.ensures.value) in
    record {
      caller = c.in-Some.dial.caller;
      outcome = failed_row c.self.inside.rows.limits s c.in-Some.dial;
      enters = rw (← c.self.view_is)
          (enters_then c.self.inside.rows c.failed-reply.new.self c.self.inside.journal c.enter.new.journal c.in-Some.dial.caller (call.DialFailed c.args.want) (failed_row c.self.inside.rows.limits s c.in-Some.dial) c.self.invariant
          (stepped c.self.inside.rows c.failed-reply.new.self c.self.inside.journal c.enter.new.journal c.in-Some.dial.caller (call.DialFailed c.args.want) (failed_row c.self.inside.rows.limits s c.in-Some.dial) c.failed-reply.result
          c.self.invariant (failed_fits c.self.inside.rows.limits s c.args.want c.in-Some.dial f) c.failed-reply.ensures.state c.failed-reply.ensures.keeps c.failed-reply.ensures.reply c.enter.ensures.items c.enter.ensures.room
          (failed_goes c.self.inside.rows.limits s c.args.want c.in-Some.dial f)));
    }
