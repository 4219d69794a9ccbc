use Rattle.std.proofs.Common.{◌≡◌, ◌<◌, length, get_or, subst, sym, ◌∙◌}
use Rattle.gw_wire.specs.declared.memory.script.ConnEvent.{ConnEvent}
use Rattle.gw_wire.proofs.ScriptLemmas.{met_ready}
use Rattle.gw_wire.proofs.memory.mem_conn.next_event.Goals as goal

pub returns-then-offset-as_slice-clause-met : goal.returns-then-offset-as_slice-clause-met
returns-then-offset-as_slice-clause-met c =
    let P : ConnEvent → Type 0 = λ e. e ≡ get_or c.args.events.now c.loop-at.at e in
    let is = sym (subst P c.in-Piece.is c.index-events-at.is) in
    let ready : c.loop-at.offset < length c.in-Piece.bytes = rw (← c.as_slice.ensures) c.if-offset-as_slice.true in
    sym (met_ready c.args.events.now c.loop-at.at c.loop-at.offset c.in-Piece.bytes c.loop-at-test.true is ready) ∙ c.loop-at.invariant.0
