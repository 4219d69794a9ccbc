use Rattle.std.proofs.Common.{All, List, [], ◌∷◌, sym, subst}
use Rattle.std.proofs.lemmas.List.Elements.{All-append, All-cons, All-nil}
use Rattle.gw_wire.specs.Memory.{WireState, wire_view}
use Rattle.gw_wire.specs.World.{IsAlone}
use Rattle.gw_top.proofs.tests.workers.wires.Goals as goal

pub loop-made-preserved : goal.loop-made-preserved
loop-made-preserved c =
    let P : WireState → Type 0 = λ w. IsAlone (wire_view w) in
    let one : All P (c.in_ok-busy.field-0 ∷ []) = All-cons P c.in_ok-busy.field-0 [] c.in_ok-busy.ensures (All-nil P) in
    subst (λ (l : List WireState). All P l) (sym c.in_ok-push.ensures.items) (All-append P c.loop-made.wires.items (c.in_ok-busy.field-0 ∷ []) c.loop-made.invariant one)
