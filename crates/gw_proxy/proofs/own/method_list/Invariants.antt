use Rattle.std.proofs.Common.{◌≡◌, ◌++◌, codes, drop, flat_map}
use Rattle.gw_proxy.proofs.own.method_list.Given as goal

-- the methods so far, and those still to come
abbrev pub invariant-loop-other : goal.invariant-loop-other
invariant-loop-other l =
    l.text.items ++ flat_map (λ other. codes ", " ++ other) (drop l.other-index l.others)
    ≡ l.initial.text.items ++ flat_map (λ other. codes ", " ++ other) l.others
