-- The nodes under a node, or under one whose deadline has come, on the way down the list.
use Rattle.std.proofs.Common.{◌≡◌, ℕ, zero, suc, ◌<◌, ◌≤◌, ◌==◌, true, ◌⊎◌, inl, inr, List, refl, arith, eq-eqb}
use Rattle.std.proofs.lemmas.Bool.{eqb-true}
use Rattle.gw_context.specs.declared.parts.Cause.{Cause}
use Rattle.gw_context.specs.declared.parts.Node.{Node}
use Rattle.gw_context.specs.Node.{node_at, IsTied, Climbs, Under, is_due, IsUnderDue, IsLinked}
use Rattle.gw_context.proofs.Passing.{Passing, Spreads}

-- what is above has a lower number
pub under_higher : (nodes : List Node) (linked : IsLinked nodes) (steps m n : ℕ) → Climbs nodes steps m n → n ≤ m
under_higher nodes linked zero m n climbs = omega (arith, climbs)
under_higher nodes linked (suc steps) m n climbs =
    let parent : ℕ = (node_at nodes m).parent in
    let down : parent < m = linked.lower m climbs.0 in
    let up : n ≤ parent = under_higher nodes linked steps parent n climbs.1 in
    omega arith

why_under : (nodes : List Node) (n i steps : ℕ) → Climbs nodes steps i n → ((i == n) ≡ true) ⊎ (IsTied (node_at nodes i) × Under nodes n (node_at nodes i).parent)
why_under nodes n i zero climbs = inl (eq-eqb i n climbs)
why_under nodes n i (suc steps) climbs = inr (climbs.0, (steps, climbs.1))

pub spreads_under : (nodes : List Node) (n i : ℕ) → Spreads (Under nodes n) nodes i (i == n)
spreads_under nodes n i =
    record {
      here = λ e. (0, eqb-true i n e);
      below = λ t u. (suc u.0, (t, u.1));
      why = λ u. why_under nodes n i u.0 u.1;
    }

why_due : (nodes : List Node) (moment d i steps : ℕ) → is_due moment (node_at nodes d).deadline ≡ true → Climbs nodes steps i d → (is_due moment (node_at nodes i).deadline ≡ true) ⊎ (IsTied (node_at nodes i) × IsUnderDue nodes moment (node_at nodes i).parent)
why_due nodes moment d i zero due climbs = inl (rw climbs due)
why_due nodes moment d i (suc steps) due climbs = inr (climbs.0, (d, due, (steps, climbs.1)))

pub spreads_due : (nodes : List Node) (moment i : ℕ) → Spreads (IsUnderDue nodes moment) nodes i (is_due moment (node_at nodes i).deadline)
spreads_due nodes moment i =
    record {
      here = λ e. (i, e, (0, refl));
      below = λ t u. (u.0, u.1, (suc u.2.0, (t, u.2.1)));
      why = λ u. why_due nodes moment u.0 i u.2.0 u.1 u.2.1;
    }

-- before the pass begins at the node itself
pub under_from : (cause : Cause) (nodes : List Node) (n : ℕ) → IsLinked nodes → Passing cause (Under nodes n) nodes nodes n
under_from cause nodes n linked =
    record {
      count = refl;
      done = λ j h. inr (λ p. absurd (let above : n ≤ j = under_higher nodes linked p.0.0 j n p.0.1 in omega arith), refl);
      rest = λ j h. refl;
    }

-- before the pass begins at node 0
pub due_from : (cause : Cause) (nodes : List Node) (IsMember : ℕ → Type 0) → Passing cause IsMember nodes nodes 0
due_from cause nodes IsMember =
    record { count = refl; done = λ j h. absurd (omega arith); rest = λ j h. refl }
