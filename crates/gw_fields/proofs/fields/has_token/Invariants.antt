use Rattle.std.proofs.Common.{◌≡◌, drop, map}
use Rattle.gw_fields.specs.Fields.{pair_of, has_token}
use Rattle.gw_fields.proofs.fields.has_token.Given as goal

-- no field so far lists the token
abbrev pub invariant-loop-own : goal.invariant-loop-own
invariant-loop-own l =
    has_token l.name l.token (map pair_of (drop l.own-index l.items)) ≡ has_token l.name l.token (map pair_of l.items)
