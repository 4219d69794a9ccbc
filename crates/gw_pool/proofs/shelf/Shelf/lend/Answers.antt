-- The connection that is out to the want stands beside its row.
use Rattle.std.proofs.Common.{arith, sym, ◌∙◌, ap, Some}
use Rattle.std.specs.List.{position}
use Rattle.gw_pool.proofs.Edits.{not_there}
use Rattle.gw_pool.proofs.Shelves.{kept_length, kept_at, lending}
use Rattle.gw_pool.specs.State.{is_with}
use Rattle.gw_pool.proofs.shelf.Shelf.lend.Goals as goal

pub index_mut-slot-requires : goal.index_mut-slot-requires
index_mut-slot-requires g c =
    omega (
      arith,
      kept_length g.C.Link.link c.self.inside.rows.items c.self.inside.held.items c.self.invariant,
      (lending g.C.Link.link c.self.inside.rows.items c.self.inside.held.items c.in-Some.at c.args.want c.index-row.result.now c.self.invariant (c.in-Some.ensures ∙ ap (λ l. position (is_with c.args.want) l) c.as_slice.ensures.value)).within,
    )

pub invariant_of-self : goal.invariant_of-self
invariant_of-self g c =
    rw c.take-conn.ensures.after
    (lending g.C.Link.link c.self.inside.rows.items c.self.inside.held.items c.in-Some.at c.args.want c.index-row.result.now c.self.invariant (c.in-Some.ensures ∙ ap (λ l. position (is_with c.args.want) l) c.as_slice.ensures.value)).kept

pub returns-in-Some-clause-found : goal.returns-in-Some-clause-found
returns-in-Some-clause-found g c =
    rw (← c.self.view_is)
    (ap (λ r. Some r) c.index-row.ensures
    ∙ sym ((lending g.C.Link.link c.self.inside.rows.items c.self.inside.held.items c.in-Some.at c.args.want c.index-row.result.now c.self.invariant (c.in-Some.ensures ∙ ap (λ l. position (is_with c.args.want) l) c.as_slice.ensures.value)).found c.index-row.result.now))

pub returns-in-Some-clause-kept : goal.returns-in-Some-clause-kept
returns-in-Some-clause-kept g c =
    rw (← c.self.view_is, c.take-conn.ensures.value, c.index-row.ensures, c.index_mut-slot.ensures.value)
    (kept_at g.C.Link.link c.self.inside.rows.items c.self.inside.held.items c.in-Some.at c.index-row.result.now c.index_mut-slot.result.now c.self.invariant
    (lending g.C.Link.link c.self.inside.rows.items c.self.inside.held.items c.in-Some.at c.args.want c.index-row.result.now c.self.invariant (c.in-Some.ensures ∙ ap (λ l. position (is_with c.args.want) l) c.as_slice.ensures.value)).within)

pub returns-in-Some-clause-taken : goal.returns-in-Some-clause-taken
returns-in-Some-clause-taken g c want n h =
    rw c.take-conn.ensures.after
    ((lending g.C.Link.link c.self.inside.rows.items c.self.inside.held.items c.in-Some.at c.args.want c.index-row.result.now c.self.invariant (c.in-Some.ensures ∙ ap (λ l. position (is_with c.args.want) l) c.as_slice.ensures.value)).taken want n (rw (← c.self.view_is) at h))

pub returns-in-None-clause-found : goal.returns-in-None-clause-found
returns-in-None-clause-found g c =
    rw (← c.self.view_is)
    (sym (not_there (is_with c.args.want) c.self.inside.rows.items (c.in-None.ensures ∙ ap (λ l. position (is_with c.args.want) l) c.as_slice.ensures.value)).found)
