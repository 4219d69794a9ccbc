-- Worked rows of the nodes: what is a forest, and who is above whom.
use Rattle.std.proofs.Common.{◌≡◌, ℕ, zero, suc, ◌+◌, true, false, List, [], ◌∷◌, refl, arith}
use Rattle.gw_ctxwords.specs.declared.nodes.NodeSpec.{NodeSpec}
use Rattle.gw_ctxwords.specs.Nodes.{root_spec, Under, passed, is_forest}

-- node 1 tied to 0, node 2 not
abbrev three : List NodeSpec
three = root_spec ∷ record { parent = 0; tied = true } ∷ record { parent = 0; tied = false } ∷ []

three_is : is_forest three ≡ true
three_is = refl

one_ends_with_zero : Under three 0 1
one_ends_with_zero = (1, ((omega arith, refl), refl))

two_alone : passed three 1 2 ≡ 2 ∷ []
two_alone = refl

none_is_not : is_forest [] ≡ false
none_is_not = refl

-- a parent has a lower number
later_parent_is_not : is_forest (root_spec ∷ record { parent = 2; tied = true } ∷ record { parent = 0; tied = true } ∷ []) ≡ false
later_parent_is_not = refl

own_parent_is_not : is_forest (root_spec ∷ record { parent = 1; tied = false } ∷ []) ≡ false
own_parent_is_not = refl

-- so many nodes, each tied to the one before
abbrev chained : ℕ → ℕ → List NodeSpec
chained zero from = []
chained (suc count) from = record { parent = from; tied = true } ∷ chained count (from + 1)

sixteen_steps : is_forest (root_spec ∷ chained 16 0) ≡ true
sixteen_steps = refl

seventeen_are_not : is_forest (root_spec ∷ chained 17 0) ≡ false
seventeen_are_not = refl
