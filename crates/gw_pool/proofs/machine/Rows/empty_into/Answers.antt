-- One more idle connection was moved.
use Rattle.std.proofs.Common.{◌∷◌, [], map, ap, sym, ◌∙◌, arith}
use Rattle.std.proofs.lemmas.List.{map-append}
use Rattle.gw_pool.specs.Rows.{state_of}
use Rattle.gw_pool.specs.Shelf.{resting_row}
use Rattle.gw_pool.proofs.Idling.{idle_then, moved_on}
use Rattle.gw_pool.proofs.machine.Rows.empty_into.Goals as goal

pub loop-conn-preserved : goal.loop-conn-preserved
loop-conn-preserved g c =
    let link = g.C.Link.link in
    let row = c.in-Some.field-0.row in
    let i = c.loop-conn.invariant in
    let fewer = rw c.in-Some.is at c.take_oldest.ensures.fewer in (
      omega (arith, fewer, i.0, c.push_reserved.ensures.len, c.push_reserved.ensures.capacity),
      moved_on _ (map (λ x. (link x).number) c.loop-conn.idle.items) (map (λ x. (link x).number) c.push_reserved.new.self.items)
          (state_of c.loop-conn.self) (state_of c.take_oldest.new.self) row (link c.in-Some.field-0.conn).number i.1
          (rw c.in-Some.is at c.take_oldest.ensures.number)
          (idle_then (state_of c.loop-conn.self) (state_of c.take_oldest.new.self) row (sym c.take_oldest.ensures.row ∙ ap resting_row c.in-Some.is) c.take_oldest.ensures.state fewer)
          (ap (λ l. map (λ x. (link x).number) l) c.push_reserved.ensures.items ∙ map-append (λ x. (link x).number) c.loop-conn.idle.items (c.in-Some.field-0.conn ∷ [])),
    )
