-- The machine's step on a granted want, and its entry.
use Rattle.std.proofs.Common.{sym, ◌∙◌, ap, refl, inl}
use Rattle.std.specs.List.{find}
use Rattle.gw_pool.specs.State.{wants_it}
use Rattle.gw_pool.specs.Machine.{start_row}
use Rattle.gw_pool.specs.Rows.{state_of}
use Rattle.gw_pool.specs.declared.entry.Call.TheVariants as call
use Rattle.gw_pool.specs.declared.entry.Reply.TheVariants as reply
use Rattle.gw_pool.proofs.Fits.{start_fits, start_unfit, start_none}
use Rattle.gw_pool.proofs.Steps.{start_goes, start_reply}
use Rattle.gw_pool.proofs.Entries.{has_room, stepped, holds_then, enters_then}
use Rattle.gw_pool.proofs.pool.PoolCore.start.Goals as goal

pub start-requires : goal.start-requires
start-requires g c = record { room = has_room c.self.inside.rows c.self.inside.journal c.self.invariant }

pub invariant_of-self : goal.invariant_of-self
invariant_of-self g c =
    let s = state_of c.self.inside.rows in
    let f = sym (c.in-Some.ensures ∙ ap (λ l. find (wants_it c.args.want) l) c.as_slice.ensures.value) in
    holds_then c.self.inside.rows c.start.new.self c.self.inside.journal c.enter.new.journal c.in-Some.row.caller (call.Start c.args.want) (start_row s c.in-Some.row) c.self.invariant (inl refl)
    (stepped c.self.inside.rows c.start.new.self c.self.inside.journal c.enter.new.journal c.in-Some.row.caller (call.Start c.args.want) (start_row s c.in-Some.row) reply.Go
    c.self.invariant (start_fits c.self.inside.rows.limits s c.args.want c.in-Some.row f (sym c.is_granted.ensures ∙ c.if-is_granted.true)) c.start.ensures.state c.start.ensures.keeps (start_reply s c.in-Some.row) c.enter.ensures.items c.enter.ensures.room
    (start_goes s c.args.want c.in-Some.row f (sym c.is_granted.ensures ∙ c.if-is_granted.true)))

pub returns-then-is_granted : goal.returns-then-is_granted
returns-then-is_granted g c =
    let s = state_of c.self.inside.rows in
    let f = sym (c.in-Some.ensures ∙ ap (λ l. find (wants_it c.args.want) l) c.as_slice.ensures.value) in
    record {
      caller = c.in-Some.row.caller;
      outcome = start_row s c.in-Some.row;
      enters = rw (← c.self.view_is) (enters_then c.self.inside.rows c.start.new.self c.self.inside.journal c.enter.new.journal c.in-Some.row.caller (call.Start c.args.want) (start_row s c.in-Some.row) c.self.invariant
          (stepped c.self.inside.rows c.start.new.self c.self.inside.journal c.enter.new.journal c.in-Some.row.caller (call.Start c.args.want) (start_row s c.in-Some.row) reply.Go
          c.self.invariant (start_fits c.self.inside.rows.limits s c.args.want c.in-Some.row f (sym c.is_granted.ensures ∙ c.if-is_granted.true)) c.start.ensures.state c.start.ensures.keeps (start_reply s c.in-Some.row) c.enter.ensures.items c.enter.ensures.room
          (start_goes s c.args.want c.in-Some.row f (sym c.is_granted.ensures ∙ c.if-is_granted.true))));
      is_go = sym (start_reply s c.in-Some.row);
    }

pub returns-else-is_granted : goal.returns-else-is_granted
returns-else-is_granted g c = record {
  same = refl;
  unfit = rw (← c.self.view_is, ← c.self.invariant.state) (start_unfit c.self.inside.rows.limits (state_of c.self.inside.rows) c.args.want c.in-Some.row (sym (c.in-Some.ensures ∙ ap (λ l. find (wants_it c.args.want) l) c.as_slice.ensures.value)) (sym c.is_granted.ensures ∙ c.if-is_granted.false));
}

pub returns-in-None : goal.returns-in-None
returns-in-None g c = record {
  same = refl;
  unfit = rw (← c.self.view_is, ← c.self.invariant.state) (start_none c.self.inside.rows.limits (state_of c.self.inside.rows) c.args.want (sym (c.in-None.ensures ∙ ap (λ l. find (wants_it c.args.want) l) c.as_slice.ensures.value)));
}
