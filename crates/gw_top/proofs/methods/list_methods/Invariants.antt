use Rattle.std.proofs.Common.{◌≡◌, ◌++◌, drop}
use Rattle.gw_top.specs.Methods.{listed_behind}
use Rattle.gw_top.proofs.methods.list_methods.Given as goal

-- what is written and what is still to be written are the whole
abbrev pub invariant-loop-method : goal.invariant-loop-method
invariant-loop-method l =
    l.text.items ++ listed_behind (drop l.method-index l.rest) ≡ l.initial.text.items ++ listed_behind l.rest
