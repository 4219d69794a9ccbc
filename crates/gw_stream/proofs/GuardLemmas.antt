-- What looks may do, one after another.
use Rattle.std.proofs.Common.{ℕ, ◌≡◌, ◌≤◌, max, true, List, [], ◌++◌, Some, None, refl, ap, sym, subst, ◌∙◌, arith, append_assoc, append-nil, inl, inr, ◌⊎◌}
use Rattle.std.proofs.lemmas.List.Elements.{All-nil, All-append}
use Rattle.gw_context.specs.declared.parts.Cause.{Cause}
use Rattle.gw_context.specs.declared.parts.Cause.TheVariants.{Canceled}
use Rattle.gw_context.specs.Tree.{TreeView, Advanced}
use Rattle.gw_context.proofs.Facts.{advanced_twice}
use Rattle.gw_stream.specs.Guard.{GuardView, GuardGoes, TreeGoes, ShutGoes, IsPast}

pub guard_same : (g : GuardView) (moment : ℕ) → g.last ≤ moment → GuardGoes g g moment
guard_same g moment le = record {
  tree = inl refl;
  node = refl;
  deadline = refl;
  table = refl;
  places = refl;
  base = record { more = []; cancels = sym (append-nil g.words.view.cancels); base = All-nil (λ (set : ℕ × Cause). set ≡ (0, Canceled)); past = inl refl };
  own = refl;
  gate = refl;
  room = refl;
  held = refl;
  shut = refl;
  seen_shut = λ e. e;
  grace = refl;
  shut_at = inl refl;
  last = omega arith;
  seen = le;
  cancels = omega arith;
}

tree_later : (x y : TreeView) (m n : ℕ) → m ≤ n → TreeGoes x y m → TreeGoes x y n
tree_later x y m n le (inl same) = inl same
tree_later x y m n le (inr t) = inr (t.0, (let f = t.1 in omega arith), t.2)

tree_then : (x y z : TreeView) (m n : ℕ) → m ≤ n → TreeGoes x y m → TreeGoes y z n → TreeGoes x z n
tree_then x y z m n le (inl same) t = subst (λ (v : TreeView). TreeGoes v z n) same t
tree_then x y z m n le (inr s) (inl same) = inr (s.0, (let f = s.1 in omega arith), subst (λ (v : TreeView). Advanced s.0 x v) (sym same) s.2)
tree_then x y z m n le (inr s) (inr t) =
    inr (max s.0 t.0, (let f = s.1 in let g = t.1 in omega arith), advanced_twice s.0 t.0 x y z s.2 t.2)

shut_later : (g h : GuardView) (m n : ℕ) → m ≤ n → ShutGoes g h m → ShutGoes g h n
shut_later g h m n le (inl same) = inl same
shut_later g h m n le (inr s) = inr (s.0, (s.1.0, s.1.1, s.1.2, (let f = s.1.3 in omega arith), s.1.4))

past_later : (g h : GuardView) (m n : ℕ) → m ≤ n → h.grace ≡ g.grace → ShutGoes g h n → IsPast g m → IsPast h n
past_later g h m n le grace (inl same) p = (p.0, same ∙ p.1, (let f = p.2 in omega (arith, grace)))
past_later g h m n le grace (inr s) p = absurd (let bad : Some p.0 ≡ None = sym p.1 ∙ s.0 in cc)

base_past : (f g h : GuardView) (m n : ℕ) (x y : List (ℕ × Cause)) → m ≤ n → h.grace ≡ g.grace → ShutGoes g h n
    → (x ≡ []) ⊎ IsPast g m → (y ≡ []) ⊎ IsPast h n → (x ++ y ≡ []) ⊎ IsPast h n
base_past f g h m n x y le grace s p (inr q) = inr q
base_past f g h m n x y le grace s (inr p) (inl none) = inr (past_later g h m n le grace s p)
base_past f g h m n x y le grace s (inl gone) (inl none) = inl (ap (λ l. l ++ y) gone ∙ none)

shut_then : (f g h : GuardView) (m n : ℕ) → m ≤ n → f.last ≤ g.last → (g.gate.view.seen_shut ≡ true → h.gate.view.seen_shut ≡ true)
    → ShutGoes f g m → ShutGoes g h n → ShutGoes f h n
shut_then f g h m n le last seen (inl same) (inl still) = inl (still ∙ same)
shut_then f g h m n le last seen (inl same) (inr t) = inr (sym same ∙ t.0, (t.1.0, t.1.1, (let e = t.1.2 in omega arith), t.1.3, t.1.4))
shut_then f g h m n le last seen (inr s) (inl still) = inr (s.0, (s.1.0, still ∙ s.1.1, s.1.2, (let e = s.1.3 in omega arith), seen s.1.4))
shut_then f g h m n le last seen (inr s) (inr t) = absurd (let bad : Some s.1.0 ≡ None = sym s.1.1 ∙ t.0 in cc)

pub guard_then : (f g h : GuardView) (m n : ℕ) → m ≤ n → GuardGoes f g m → GuardGoes g h n → GuardGoes f h n
guard_then f g h m n le p q = record {
  tree = tree_then f.tree g.tree h.tree m n le p.tree q.tree;
  node = q.node ∙ p.node;
  deadline = q.deadline ∙ p.deadline;
  table = q.table ∙ p.table;
  places = q.places ∙ p.places;
  base = record {
    more = p.base.more ++ q.base.more;
    cancels = q.base.cancels ∙ ap (λ l. l ++ q.base.more) p.base.cancels ∙ append_assoc f.words.view.cancels p.base.more q.base.more;
    base = All-append (λ (set : ℕ × Cause). set ≡ (0, Canceled)) p.base.more q.base.more p.base.base q.base.base;
    past = base_past f g h m n p.base.more q.base.more le q.grace q.shut_at p.base.past q.base.past;
  };
  own = q.own ∙ p.own;
  gate = q.gate ∙ p.gate;
  room = q.room ∙ p.room;
  held = q.held ∙ p.held;
  shut = q.shut ∙ p.shut;
  seen_shut = λ e. q.seen_shut (p.seen_shut e);
  grace = q.grace ∙ p.grace;
  shut_at = shut_then f g h m n le p.last q.seen_shut p.shut_at q.shut_at;
  last = (let a = p.last in let b = q.last in omega arith);
  seen = q.seen;
  cancels = (let a = p.cancels in let b = q.cancels in omega arith);
}

pub guard_later : (f g : GuardView) (m n : ℕ) → m ≤ n → GuardGoes f g m → GuardGoes f g n
guard_later f g m n le p = guard_then f g g m n le p (guard_same g n (let s = p.seen in omega arith))
