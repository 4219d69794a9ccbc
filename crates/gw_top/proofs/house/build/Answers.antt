use Rattle.std.proofs.Common.{◌∙◌}
use Rattle.gw_top.proofs.SetupLemmas.{forest_of_base}
use Rattle.gw_top.proofs.house.build.Goals as goal

pub new-requires-2-clause-forest : goal.new-requires-2-clause-forest
new-requires-2-clause-forest g c =
    forest_of_base c.as_slice.result.now (c.as_slice.ensures.value ∙ c.in_ok-nodes.ensures.items_if_clones_equal (λ y same. same))
