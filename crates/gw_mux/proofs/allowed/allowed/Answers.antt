use Rattle.std.specs.Cmp.Lexicographic.{texts_ties}
use Rattle.std.proofs.lemmas.List.Filters.{dedup_is}
use Rattle.gw_mux.proofs.Methods.{named_sorted}
use Rattle.gw_mux.proofs.allowed.allowed.Goals as goal

pub returns : goal.returns
returns c =
    named_sorted c.args.patterns.now c.args.served.now c.in_ok-methods.methods.items c.sort_unstable.new.self.items c.dedup.new.self.items texts_ties c.in_ok-methods.ensures c.sort_unstable.ensures.permutation c.sort_unstable.ensures.sorted (dedup_is _ _ _ c.dedup.ensures.filtered)
