-- What is seen beside a wire, one stretch after another.
use Rattle.std.proofs.Common.{ℕ, ◌≡◌, ◌≤◌, Option, sym, subst, refl, ◌∙◌, arith, inl, inr}
use Rattle.gw_wire.specs.Wire.{WireView}
use Rattle.gw_stream.specs.Guard.{GuardView, GuardGoes, IsBefore}
use Rattle.gw_stream.specs.Watched.{Asked, Watched}
use Rattle.gw_stream.proofs.GuardLemmas.{guard_later, guard_same, guard_then}

asked_then : (d e : Option ℕ) (x y z : ℕ) → e ≡ d → Asked d x y → Asked e y z → Asked d x z
asked_then d e x y z same p (inr b) = inr (subst (λ (o : Option ℕ). IsBefore o z) same b)
asked_then d e x y z same (inl p) (inl q) = inl (q ∙ p)
asked_then d e x y z same (inr b) (inl q) = inr (subst (λ (n : ℕ). IsBefore d n) (sym q) b)

pub watched_then : (x y z : WireView) (f g h : GuardView) → y.moment ≤ z.moment → Watched x y f g → Watched y z g h → Watched x z f h
watched_then x y z f g h le p q = record {
  goes = guard_then f g h y.moment z.moment le p.goes q.goes;
  asked = asked_then f.deadline g.deadline x.asked y.asked z.asked p.goes.deadline p.asked q.asked;
}

pub watched_same : (w : WireView) (g : GuardView) → g.last ≤ w.moment → Watched w w g g
watched_same w g le = record { goes = guard_same g w.moment le; asked = inl refl }

pub watched_look : (w0 w : WireView) (g0 g h : GuardView) → Watched w0 w g0 g → GuardGoes g h w.moment → Watched w0 w g0 h
watched_look w0 w g0 g h p q = record { goes = guard_then g0 g h w.moment w.moment (omega arith) p.goes q; asked = p.asked }

-- a read or a write that began before the deadline
pub watched_ask : (w0 w x : WireView) (g0 g : GuardView) → Watched w0 w g0 g → IsBefore g.deadline w.moment → w.moment ≤ x.moment → x.asked ≡ w.moment
    → Watched w0 x g0 g
watched_ask w0 w x g0 g p before le asked = record {
  goes = guard_later g0 g w.moment x.moment le p.goes;
  asked = inr (subst (λ (m : ℕ). IsBefore g0.deadline m) (sym asked) (subst (λ (d : Option ℕ). IsBefore d w.moment) p.goes.deadline before));
}

-- the clock is read
pub watched_now : (w0 w x : WireView) (g0 g : GuardView) → Watched w0 w g0 g → w.moment ≤ x.moment → x.asked ≡ w.asked → Watched w0 x g0 g
watched_now w0 w x g0 g p le same = record {
  goes = guard_later g0 g w.moment x.moment le p.goes;
  asked = subst (λ (n : ℕ). Asked g0.deadline w0.asked n) (sym same) p.asked;
}
