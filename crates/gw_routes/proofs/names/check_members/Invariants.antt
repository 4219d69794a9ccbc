use Rattle.std.proofs.Common.{◌≡◌}
use Rattle.serde_json.specs.View.{members_view}
use Rattle.gw_routes.specs.Names.{are_known}
use Rattle.gw_routes.proofs.names.check_members.Given as goal

abbrev pub invariant-loop-name : goal.invariant-loop-name
invariant-loop-name l =
    (goal.iterator-loop-name).can_next l.name-iterator × (goal.iterator-loop-name).is_finite l.name-iterator
    × (are_known l.kind (members_view l.name-iterator) ≡ are_known l.kind (members_view l.members.entries))
