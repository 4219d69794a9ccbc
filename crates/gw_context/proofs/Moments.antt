-- Two moments told one after another do what the later one does.
use Rattle.std.proofs.Common.{◌≡◌, ℕ, ◌≤◌, max, true, ◌⊎◌, inl, inr, List, Option, Some, None, sym, ap, ◌∙◌, arith}
use Rattle.std.proofs.Math.Nat.{le-max_left, le-max_right}
use Rattle.std.proofs.lemmas.Bool.Decides.{nat_tests}
use Rattle.gw_context.specs.declared.parts.Cause.TheVariants.{DeadlineExceeded}
use Rattle.gw_context.specs.declared.parts.Node.{Node}
use Rattle.gw_context.specs.Node.{node_at, is_due, IsUnderDue, ended, Fate}
use Rattle.gw_context.specs.Tree.{TreeView, Advanced}
use Rattle.gw_context.proofs.Soundness.{place_kept, places_found, due_later, under_due_kept}

due_by_either : (a b : ℕ) (deadline : Option ℕ) → is_due (max a b) deadline ≡ true → (is_due a deadline ≡ true) ⊎ (is_due b deadline ≡ true)
due_by_either a b None e = inl e
due_by_either a b (Some d) e = grind (arith, nat_tests)

under_by_either : (nodes : List Node) (a b m : ℕ) → IsUnderDue nodes (max a b) m → IsUnderDue nodes a m ⊎ IsUnderDue nodes b m
under_by_either nodes a b m u =
    elim (due_by_either a b (node_at nodes u.0).deadline u.1) [
      | inl e ↦ inl (u.0, e, u.2)
      | inr e ↦ inr (u.0, e, u.2)
    ]

under_later : (nodes : List Node) (a b m : ℕ) → a ≤ b → IsUnderDue nodes a m → IsUnderDue nodes b m
under_later nodes a b m rise u = (u.0, due_later a b (node_at nodes u.0).deadline rise u.1, u.2)

fate_of_both : (P Q R S : Type 0) (x y z : Node) → (P → R) → (Q → R) → (R → P ⊎ Q) → (S → Q) → (Q → S) → Fate DeadlineExceeded P x y → Fate DeadlineExceeded S y z → Fate DeadlineExceeded R x z
fate_of_both P Q R S x y z first second either back forth one two =
    elim one [
      | inl f ↦ elim two [
        | inl g ↦ absurd (let e : y.cause ≡ Some DeadlineExceeded = ap (λ (n : Node). n.cause) f.2 in let l : y.cause ≡ None = g.1 in cc)
        | inr g ↦ inl (first f.0, f.1, g.1 ∙ f.2)
      ]
      | inr f ↦ elim two [
        | inl g ↦ inl (second (back g.0), ap (λ (n : Node). n.cause) (sym f.1) ∙ g.1, g.2 ∙ ap (ended DeadlineExceeded) f.1)
        | inr g ↦ inr (
          λ r. elim (either r.0) [
            | inl p ↦ f.0 (p, r.1)
            | inr q ↦ g.0 (forth q, ap (λ (n : Node). n.cause) f.1 ∙ r.1)
          ],
          g.1 ∙ f.1,
        )
      ]
    ]

pub advanced_twice : (a b : ℕ) (x y z : TreeView) → Advanced a x y → Advanced b y z → Advanced (max a b) x z
advanced_twice a b x y z one two =
    record {
      last = omega (arith, one.last, two.last);
      ends = record {
        count = two.ends.count ∙ one.ends.count;
        each = λ i h. fate_of_both (IsUnderDue x.nodes a i) (IsUnderDue x.nodes b i) (IsUnderDue x.nodes (max a b) i) (IsUnderDue y.nodes b i) (node_at x.nodes i) (node_at y.nodes i) (node_at z.nodes i)
            (under_later x.nodes a (max a b) i (le-max_left a b))
            (under_later x.nodes b (max a b) i (le-max_right a b))
            (under_by_either x.nodes a b i)
            (under_due_kept y.nodes x.nodes (places_found DeadlineExceeded (IsUnderDue x.nodes a) x.nodes y.nodes one.ends) b b i (omega arith))
            (under_due_kept x.nodes y.nodes (λ j. place_kept DeadlineExceeded (IsUnderDue x.nodes a) x.nodes y.nodes j one.ends) b b i (omega arith))
            (one.ends.each i h)
            (two.ends.each i (omega (arith, one.ends.count)));
      };
    }
