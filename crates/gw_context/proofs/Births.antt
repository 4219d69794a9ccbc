-- A node with a deadline is born as what holds of every tree wants it.
use Rattle.std.proofs.Common.{◌≡◌, ℕ, ◌<◌, true, false, ◌⊎◌, inl, inr, List, length, Option, Some, None, refl, ap, ◌∙◌, sym}
use Rattle.gw_context.specs.declared.parts.Cause.{Cause}
use Rattle.gw_context.specs.declared.parts.Cause.TheVariants.{DeadlineExceeded}
use Rattle.gw_context.specs.declared.parts.Node.{Node}
use Rattle.gw_context.specs.Node.{node_at, is_due, IsSound, Joins}
use Rattle.gw_context.specs.Tree.{cause_at_birth}
use Rattle.gw_context.proofs.Passing.{bool_cases}

born_live : (last deadline : ℕ) (above : Option Cause) → cause_at_birth last deadline above ≡ None → (above ≡ None) × (is_due last (Some deadline) ≡ false)
born_live last deadline (Some cause) e = absurd (cc)
born_live last deadline None e =
    elim (bool_cases (is_due last (Some deadline))) [
      | inl b ↦ absurd (let f = rw b at e in cc)
      | inr b ↦ (refl, b)
    ]

born_expired : (last deadline : ℕ) (above : Option Cause) → cause_at_birth last deadline above ≡ Some DeadlineExceeded → (is_due last (Some deadline) ≡ true) ⊎ (above ≡ Some DeadlineExceeded)
born_expired last deadline (Some cause) e = inr e
born_expired last deadline None e =
    elim (bool_cases (is_due last (Some deadline))) [
      | inl b ↦ inl b
      | inr b ↦ absurd (let f = rw b at e in cc)
    ]

pub timed_joins : (last : ℕ) (nodes : List Node) (parent deadline : ℕ) (above : Node) (cause : Option Cause) → IsSound last nodes → parent < length nodes → above ≡ node_at nodes parent → cause ≡ cause_at_birth last deadline above.cause → Joins last nodes (record { parent = parent; tied = true; deadline = Some deadline; cause = cause })
timed_joins last nodes parent deadline above cause sound inside is born =
    record {
      lower = λ t. inside;
      joint = λ t live. ap (λ (n : Node). n.cause) (sym is) ∙ (born_live last deadline above.cause (sym born ∙ live)).0;
      early = λ live. (born_live last deadline above.cause (sym born ∙ live)).1;
      due = λ expired. elim (born_expired last deadline above.cause (sym born ∙ expired)) [
        | inl d ↦ inl d
        | inr e ↦ inr (refl, sound.due parent (ap (λ (n : Node). n.cause) (sym is) ∙ e))
      ];
    }
