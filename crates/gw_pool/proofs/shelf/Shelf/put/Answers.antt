-- A row and its connection stand at the same place.
use Rattle.std.proofs.Common.{arith}
use Rattle.gw_pool.proofs.Shelves.{kept_length, kept_push, taken_push}
use Rattle.gw_pool.proofs.shelf.Shelf.put.Goals as goal

pub push_reserved-requires-2 : goal.push_reserved-requires-2
push_reserved-requires-2 g c =
    omega (arith, kept_length g.C.Link.link c.self.inside.rows.items c.self.inside.held.items c.self.invariant, rw (← c.self.view_is) at c.requires.room)

pub invariant_of-self : goal.invariant_of-self
invariant_of-self g c =
    rw (c.push_reserved.ensures.items, c.push_reserved-2.ensures.items)
    (kept_push g.C.Link.link c.self.inside.rows.items c.self.inside.held.items c.args.row c.args.conn c.self.invariant c.requires.number)

pub returns-clause-taken : goal.returns-clause-taken
returns-clause-taken g c =
    rw (c.push_reserved.ensures.items, c.push_reserved-2.ensures.items, ← c.self.view_is)
    (taken_push g.C.Link.link c.self.inside.rows.items c.self.inside.held.items c.args.row c.args.conn c.self.invariant)
