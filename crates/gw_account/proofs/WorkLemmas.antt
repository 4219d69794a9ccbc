-- Work as a sum: which stretches are put together first doesn't matter, and nothing adds nothing.
use Rattle.std.proofs.Common.{ℕ, ◌≡◌, ◌+◌, List, [], ◌∷◌, ◌++◌, ap, sym, ◌∙◌, arith, append_assoc, append-nil}
use Rattle.gw_wire.specs.declared.values.Act.{Act}
use Rattle.gw_account.specs.Work.{Bill, Work, At, free, both, nothing, and, sum, behind, Only}

add_add : (a b c : ℕ) → (a + b) + c ≡ a + (b + c)
add_add a b c = omega arith

add_none : (a : ℕ) → a + 0 ≡ a
add_none a = omega arith

none_add : (a : ℕ) → 0 + a ≡ a
none_add a = omega arith

pub both_both : (a b c : Bill) → both (both a b) c ≡ both a (both b c)
both_both a b c = λ i. record {
  begun = add_add a.begun b.begun c.begun i;
  dials = add_add a.dials b.dials c.dials i;
  millis = add_add a.millis b.millis c.millis i;
  ticks = add_add a.ticks b.ticks c.ticks i;
  rests = add_add a.rests b.rests c.rests i;
  refused = add_add a.refused b.refused c.refused i;
  memory = add_add a.memory b.memory c.memory i;
  said = append_assoc a.said b.said c.said i;
}

pub free_both : (b : Bill) → both free b ≡ b
free_both b = λ i. record {
  begun = none_add b.begun i;
  dials = none_add b.dials i;
  millis = none_add b.millis i;
  ticks = none_add b.ticks i;
  rests = none_add b.rests i;
  refused = none_add b.refused i;
  memory = none_add b.memory i;
  said = b.said;
}

pub both_free : (b : Bill) → both b free ≡ b
both_free b = λ i. record {
  begun = add_none b.begun i;
  dials = add_none b.dials i;
  millis = add_none b.millis i;
  ticks = add_none b.ticks i;
  rests = add_none b.rests i;
  refused = add_none b.refused i;
  memory = add_none b.memory i;
  said = append-nil b.said i;
}

pub and_and : (u v w : Work) → and (and u v) w ≡ and u (and v w)
and_and u v w = λ i. record {
  acts = append_assoc u.acts v.acts w.acts i;
  made = append_assoc u.made v.made w.made i;
  bill = both_both u.bill v.bill w.bill i;
}

pub nothing_and : (w : Work) → and nothing w ≡ w
nothing_and w = λ i. record { acts = w.acts; made = w.made; bill = free_both w.bill i }

pub and_nothing : (w : Work) → and w nothing ≡ w
and_nothing w = λ i. record {
  acts = append-nil w.acts i;
  made = append-nil w.made i;
  bill = both_free w.bill i;
}

-- one stretch more at the end of a list of them
pub sum_push : {A : Type 0} (f : A → Work) (xs : List A) (x : A) → sum f (xs ++ x ∷ []) ≡ and (sum f xs) (f x)
sum_push f [] x = and_nothing (f x) ∙ sym (nothing_and (f x))
sum_push f (y ∷ ys) x = ap (λ w. and (f y) w) (sum_push f ys x) ∙ sym (and_and (f y) (sum f ys) (f x))

pub behind_behind : (a : At) (u v : Work) → behind (behind a u) v ≡ behind a (and u v)
behind_behind a u v = λ i. record {
  limits = a.limits;
  caller = a.caller;
  groups = a.groups;
  history = append_assoc a.history u.made v.made i;
}

pub behind_nothing : (a : At) → behind a nothing ≡ a
behind_nothing a = λ i. record {
  limits = a.limits;
  caller = a.caller;
  groups = a.groups;
  history = append-nil a.history i;
}

-- work without entries leaves the history as it was
pub behind_silent : (a : At) (w : Work) → w.made ≡ [] → behind a w ≡ a
behind_silent a w none = ap (λ made. record a { history = a.history ++ made }) none ∙ behind_nothing a

-- work that is told by its three parts is those three
pub only_is : (bill : Bill) (P : List Act → Type 0) (a : At) (w : Work) → Only bill P a w → w ≡ record { acts = w.acts; made = []; bill = bill }
only_is bill P a w o = λ i. record { acts = w.acts; made = o.0 i; bill = o.1 i }
