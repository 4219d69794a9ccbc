use Rattle.std.proofs.Common.{◌≡◌, ◌++◌, drop, map}
use Rattle.arrayvec.specs.ArrayVec.{array_vec_len}
use Rattle.gw_fields.specs.Fields.{pair_of}
use Rattle.gw_fields.specs.Hops.{is_hop}
use Rattle.gw_fields.proofs.hops.first_hops.Given as goal

-- what was asked, and what is still to come
abbrev pub invariant-loop-name : goal.invariant-loop-name
invariant-loop-name l =
    (l.hops.items ++ map (λ item. is_hop (map pair_of l.items) item.0) (drop l.name-index l.first)
    ≡ map (λ item. is_hop (map pair_of l.items) item.0) l.first)
    × (array_vec_len l.hops ≡ l.name-index)
