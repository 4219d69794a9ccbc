use Rattle.std.proofs.Common.{◌≡◌, ◌<◌, length}
use Rattle.std.proofs.lemmas.List.{get_or_read}
use Rattle.gw_context.specs.Node.{root, node_at}
use Rattle.gw_context.proofs.Births.{timed_joins}
use Rattle.gw_context.proofs.contexts.Tree.with_deadline.Goals as goal

pub add-requires-clause-joins : goal.add-requires-clause-joins
add-requires-clause-joins c =
    let inside = c.self.inside in
    let within : c.args.parent < length inside.nodes.items = rw (← c.self.view_is) at c.requires.inside in
    let above : c.index-above.result.now ≡ node_at inside.nodes.items c.args.parent =
    get_or_read inside.nodes.items c.args.parent c.index-above.result.now within c.index-above.ensures root in
    rw (← c.self.view_is) (timed_joins inside.last inside.nodes.items c.args.parent c.lesser-deadline.result c.index-above.result.now c.cause_at_birth-cause.result c.self.invariant within above c.cause_at_birth-cause.ensures)
