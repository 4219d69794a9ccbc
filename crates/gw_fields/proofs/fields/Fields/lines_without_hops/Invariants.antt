use Rattle.std.proofs.Common.{◌≡◌, ◌++◌, drop, filter, map, not}
use Rattle.gw_fields.specs.Fields.{pair_of}
use Rattle.gw_fields.specs.Hops.{is_hop, without_hops}
use Rattle.gw_fields.proofs.fields.Fields.lines_without_hops.Given as goal

-- what was kept, and what is still to come
abbrev pub invariant-loop-name : goal.invariant-loop-name
invariant-loop-name l =
    l.lines ++ filter (λ field. not (is_hop l.self field.0)) (map pair_of (drop l.name-index l.name-items))
    ≡ without_hops l.self
