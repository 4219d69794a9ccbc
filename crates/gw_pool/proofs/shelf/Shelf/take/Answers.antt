-- A row and its connection are taken out at the same place.
use Rattle.std.proofs.Common.{arith, sym, ◌∙◌, ap, Some}
use Rattle.gw_pool.proofs.Edits.{taken_at, not_there}
use Rattle.gw_pool.proofs.Shelves.{kept_length, kept_remove, kept_at, taken_remove}
use Rattle.gw_pool.proofs.shelf.Shelf.take.Goals as goal
use Rattle.gw_pool.proofs.shelf.Shelf.take.Goals.{After-remove-conn}

pub remove-conn-requires : goal.remove-conn-requires
remove-conn-requires g c =
    omega (arith, kept_length g.C.Link.link c.self.inside.rows.items c.self.inside.held.items c.self.invariant, rw (← c.self.view_is) at (c.requires c.in-Some.at c.in-Some.is))

pub invariant_of-self : goal.invariant_of-self
invariant_of-self g c =
    rw (c.remove-row.ensures.items, c.remove-conn.ensures.items)
    (kept_remove g.C.Link.link c.self.inside.rows.items c.self.inside.held.items c.in-Some.at c.self.invariant
    (rw (← c.self.view_is) at (c.requires c.in-Some.at c.in-Some.is)))

pub returns-in-Some-clause-found : goal.returns-in-Some-clause-found
returns-in-Some-clause-found g c test e =
    ap (λ r. Some r) c.remove-row.ensures.value
    ∙ sym ((taken_at test c.self.inside.rows.items c.in-Some.at (sym c.in-Some.is ∙ (rw (← c.self.view_is) at e))).found c.remove-row.result)
    ∙ (rw (← c.self.view_is))

pub returns-in-Some-clause-left : goal.returns-in-Some-clause-left
returns-in-Some-clause-left g c test e =
    rw (← c.self.view_is)
    (c.remove-row.ensures.items ∙ (taken_at test c.self.inside.rows.items c.in-Some.at (sym c.in-Some.is ∙ (rw (← c.self.view_is) at e))).left)

pub returns-in-Some-clause-kept : goal.returns-in-Some-clause-kept
returns-in-Some-clause-kept g c =
    rw (← c.self.view_is, c.remove-row.ensures.value, c.remove-conn.ensures.value)
    (kept_at g.C.Link.link c.self.inside.rows.items c.self.inside.held.items c.in-Some.at c.remove-row.result c.remove-conn.result c.self.invariant
    (rw (← c.self.view_is) at (c.requires c.in-Some.at c.in-Some.is)))

pub returns-in-Some-clause-taken : goal.returns-in-Some-clause-taken
returns-in-Some-clause-taken g c want h =
    rw (c.remove-row.ensures.items, c.remove-conn.ensures.items)
    (taken_remove g.C.Link.link c.self.inside.rows.items c.self.inside.held.items c.in-Some.at want c.self.invariant
    (rw (← c.self.view_is) at (c.requires c.in-Some.at c.in-Some.is)) (rw (← c.self.view_is) at h))

pub returns-in-None-clause-found : goal.returns-in-None-clause-found
returns-in-None-clause-found g c test e = sym (not_there test c.args.self.now.rows (sym c.in-None.is ∙ e)).found

pub returns-in-None-clause-left : goal.returns-in-None-clause-left
returns-in-None-clause-left g c test e = (not_there test c.args.self.now.rows (sym c.in-None.is ∙ e)).left
