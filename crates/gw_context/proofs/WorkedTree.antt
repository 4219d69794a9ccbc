-- One worked tree, by computing: the nodes 0 to 4 are node 0, its child, a child of that with the deadline 100, a
-- child of that asked for 200, and a loose one under node 2.
use Rattle.std.proofs.Common.{◌≡◌, ℕ, zero, suc, Some, None, refl}
use Rattle.gw_context.specs.Node.{node_at, Under, IsUnderDue}
use Rattle.gw_context.specs.Tree.{TreeView, new_tree, added, child_of, timed_child_of, loose_child_of}

abbrev one : TreeView
one = added new_tree (child_of new_tree 0)

abbrev two : TreeView
two = added one (timed_child_of one 1 100)

abbrev three : TreeView
three = added two (timed_child_of two 2 200)

abbrev tree : TreeView
tree = added three (loose_child_of 2)

-- the lesser deadline
pub deadline_of_3 : (node_at tree.nodes 3).deadline ≡ Some 100
deadline_of_3 = refl

pub deadline_of_1 : (node_at tree.nodes 1).deadline ≡ None
deadline_of_1 = refl

-- at 100 the nodes 2 and 3 end, and 1 and 4 don't
pub due_2 : IsUnderDue tree.nodes 100 2
due_2 = (2, refl, (0, refl))

pub due_3 : IsUnderDue tree.nodes 100 3
due_3 = (2, refl, (1, (refl, refl)))

pub not_due_1 : ¬ (IsUnderDue tree.nodes 100 1)
not_due_1 (d, due, (zero, climbs)) = absurd (let e = rw (← climbs) at due in cc)
not_due_1 (d, due, (suc zero, climbs)) = absurd (let c = climbs.1 in let e = rw (← c) at due in cc)
not_due_1 (d, due, (suc (suc k), climbs)) = absurd (let c = climbs.1.0 in cc)

pub not_due_4 : ¬ (IsUnderDue tree.nodes 100 4)
not_due_4 (d, due, (zero, climbs)) = absurd (let e = rw (← climbs) at due in cc)
not_due_4 (d, due, (suc k, climbs)) = absurd (let c = climbs.0 in cc)

-- at 99 none ends
pub none_due : (m : ℕ) → ¬ (IsUnderDue tree.nodes 99 m)
none_due m (zero, due, u) = absurd (cc)
none_due m (suc zero, due, u) = absurd (cc)
none_due m (suc (suc zero), due, u) = absurd (cc)
none_due m (suc (suc (suc zero)), due, u) = absurd (cc)
none_due m (suc (suc (suc (suc zero))), due, u) = absurd (cc)
none_due m (suc (suc (suc (suc (suc d)))), due, u) = absurd (cc)

-- a cancel of node 1 reaches node 3, and not node 4
pub under_1 : Under tree.nodes 1 3
under_1 = (2, (refl, (refl, refl)))

pub loose_4 : ¬ (Under tree.nodes 1 4)
loose_4 (zero, climbs) = absurd (cc)
loose_4 (suc k, climbs) = absurd (let c = climbs.0 in cc)
