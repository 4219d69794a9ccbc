-- The tree of deadlines between two requests.
use Rattle.std.proofs.Common.{ℕ, zero, suc, ◌≡◌, ◌≤◌, true, false, List, [], ◌∷◌, length, refl, ap, sym, subst, ◌∙◌, arith, inl, inr}
use Rattle.gw_context.specs.declared.parts.Cause.TheVariants.{DeadlineExceeded}
use Rattle.gw_context.specs.declared.parts.Node.{Node}
use Rattle.gw_context.specs.Node.{Ends, Fate, IsUnderDue, is_due, node_at, root}
use Rattle.gw_context.specs.Tree.{Advanced, TreeView}
use Rattle.gw_session.specs.Stand.{IsBare}

node_root : (d : ℕ) → node_at (root ∷ []) d ≡ root
node_root zero = refl
node_root (suc d) = refl

one_node : (nodes : List Node) → length nodes ≡ 1 → node_at nodes 0 ≡ root → nodes ≡ root ∷ []
one_node [] count first = absurd (let e = count in omega arith)
one_node (x ∷ []) count first = ap (λ y. y ∷ []) first
one_node (x ∷ y ∷ nodes) count first = absurd (let e = count in omega arith)

root_stays : (moment : ℕ) (node : Node) → Fate DeadlineExceeded (IsUnderDue (root ∷ []) moment 0) root node → node ≡ root
root_stays moment node (inl f) = absurd (let bad : false ≡ true = sym (ap (λ (n : Node). is_due moment n.deadline) (node_root f.0.0)) ∙ f.0.1 in cc)
root_stays moment node (inr f) = f.1

-- a moment is told to it
pub bare_advanced : (moment at : ℕ) (before now : TreeView) → before.nodes ≡ root ∷ [] → before.last ≤ at → moment ≤ at → Advanced moment before now → IsBare now at
bare_advanced moment at before now nodes early le a =
    let ends : Ends DeadlineExceeded (IsUnderDue (root ∷ []) moment) (root ∷ []) now.nodes = subst (λ (l : List Node). Ends DeadlineExceeded (IsUnderDue l moment) l now.nodes) nodes a.ends in
    record {
      nodes = one_node now.nodes ends.count (root_stays moment (node_at now.nodes 0) (ends.each 0 (omega arith)));
      last = (let l = a.last in let e = early in let m = le in omega arith);
    }

-- the same where it was told the last moment before
pub bare_told : (old new : TreeView) (moment now : ℕ) → IsBare old moment → moment ≤ now → Advanced now old new → IsBare new now
bare_told old new moment now bare le a = bare_advanced now now old new bare.nodes (let b = bare.last in let m = le in omega arith) (let m = le in omega arith) a
