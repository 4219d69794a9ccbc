use Rattle.std.proofs.Common.{◌≡◌, ◌≤◌, length, drop}
use Rattle.std.specs.List.{All}
use Rattle.serde_json.specs.View.{items_view}
use Rattle.gw_pattern.specs.Pattern.{IsWellFormed, wildcard_count}
use Rattle.gw_routes.specs.Routes.{route_list, routes_from, no_routes}
use Rattle.gw_routes.proofs.placing.place_all.Given as goal

abbrev pub invariant-loop-i : goal.invariant-loop-i
invariant-loop-i l =
    (routes_from l.i (route_list l.placed) (items_view (drop l.i l.values)) ≡ routes_from 0 no_routes (items_view l.values))
    × (length l.placed.hosts ≤ l.i)
    × (length l.placed.patterns.items ≡ l.i)
    × All IsWellFormed l.placed.patterns.items
    × All (λ p. wildcard_count p.segs.items ≤ 16) l.placed.patterns.items
