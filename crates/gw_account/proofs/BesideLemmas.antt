-- How work that interleaves begins, and how it goes on: on the one side, or on the other.
use Rattle.std.proofs.Common.{ℕ, ◌≡◌, ◌+◌, List, [], ◌∷◌, ◌++◌, refl, ap, sym, subst, ◌∙◌, arith, append-nil, inl, inr}
use Rattle.gw_wire.specs.declared.values.Act.{Act}
use Rattle.gw_wire.specs.Shuffle.{Shuffle}
use Rattle.gw_wire.specs.Wire.{WireView}
use Rattle.gw_wire.proofs.Facts.{shuffle_turned}
use Rattle.gw_pool.specs.declared.entry.Entry.{Entry}
use Rattle.gw_pool.specs.Lent.{Lent}
use Rattle.gw_account.specs.Did.{span, Did, Went}
use Rattle.gw_account.specs.Work.{Bill, Work, At, both, nothing, and, behind, at_of, Idle, Seq, Beside}
use Rattle.gw_account.proofs.DidLemmas.{at_then, doing_then, doing_went}
use Rattle.gw_account.proofs.WorkLemmas.{both_both, both_free, free_both}

-- a row beside nothing
pub one_alone : (acts : List Act) → Shuffle acts [] acts
one_alone [] = (refl, refl)
one_alone (act ∷ acts) = inl (acts, refl, one_alone acts)

-- more acts of the one row, and more of the other
pub shuffle_one : (one other acts more : List Act) → Shuffle one other acts → Shuffle (one ++ more) other (acts ++ more)
shuffle_one one other [] more s =
    subst (λ (o : List Act). Shuffle (o ++ more) other more) (sym s.0) (subst (λ (o : List Act). Shuffle more o more) (sym s.1) (one_alone more))
shuffle_one one other (act ∷ acts) more (inl s) = inl (s.0 ++ more, ap (λ l. l ++ more) s.1, shuffle_one s.0 other acts more s.2)
shuffle_one one other (act ∷ acts) more (inr s) = inr (s.0, s.1, shuffle_one one s.0 acts more s.2)

pub shuffle_other : (one other acts more : List Act) → Shuffle one other acts → Shuffle one (other ++ more) (acts ++ more)
shuffle_other one other acts more s =
    shuffle_turned (other ++ more) one (acts ++ more) (shuffle_one other one acts more (shuffle_turned one other acts s))

pub beside_one : {P : At → Work → Type 0} (a : At) (w : Work) → P a w → w.made ≡ [] → Beside P Idle a w
beside_one {P} a w p none = record {
  one = w;
  other = nothing;
  acts = one_alone w.acts;
  apart = none;
  silent = refl;
  made = none;
  bill = sym (both_free w.bill);
  left = p;
  right = refl;
}

pub beside_other : {Q : At → Work → Type 0} (a : At) (w : Work) → Q a w → w.bill.said ≡ [] → Beside Idle Q a w
beside_other {Q} a w q silent = record {
  one = nothing;
  other = w;
  acts = shuffle_turned w.acts [] w.acts (one_alone w.acts);
  apart = refl;
  silent = silent;
  made = refl;
  bill = sym (free_both w.bill);
  left = refl;
  right = q;
}

pub beside_map : {P Q R S : At → Work → Type 0} (a : At) (w : Work) → ((b : At) (u : Work) → P b u → R b u) → ((b : At) (u : Work) → Q b u → S b u)
    → Beside P Q a w → Beside R S a w
beside_map {P} {Q} {R} {S} a w f g b = record {
  one = b.one;
  other = b.other;
  acts = b.acts;
  apart = b.apart;
  silent = b.silent;
  made = b.made;
  bill = b.bill;
  left = f a b.one b.left;
  right = g a b.other b.right;
}

swap_last : (a b c : ℕ) → (a + b) + c ≡ (a + c) + b
swap_last a b c = omega arith

said_last : {A : Type 0} (a b c : List A) → b ≡ [] → (a ++ b) ++ c ≡ (a ++ c) ++ b
said_last a b c none = rw none (rw (append-nil a, append-nil (a ++ c)) refl)

-- a bill may move before one that dates no reply
both_swap : (a b c : Bill) → b.said ≡ [] → both (both a b) c ≡ both (both a c) b
both_swap a b c silent = λ i. record {
  begun = swap_last a.begun b.begun c.begun i;
  dials = swap_last a.dials b.dials c.dials i;
  millis = swap_last a.millis b.millis c.millis i;
  ticks = swap_last a.ticks b.ticks c.ticks i;
  rests = swap_last a.rests b.rests c.rests i;
  refused = swap_last a.refused b.refused c.refused i;
  memory = swap_last a.memory b.memory c.memory i;
  said = said_last a.said b.said c.said silent i;
}

-- the one side goes on, by calls on the wire alone
pub beside_went : {P Q : At → Work → Type 0} (R : At → Work → Type 0) (a : At) (u v : Work) → v.made ≡ [] → ((b : At) → R b v) → Beside P Q a u
    → Beside (Seq P R) Q a (and u v)
beside_went {P} {Q} R a u v none does b = record {
  one = and b.one v;
  other = b.other;
  acts = shuffle_one b.one.acts b.other.acts u.acts v.acts b.acts;
  apart = rw (b.apart, none) refl;
  silent = b.silent;
  made = ap (λ m. u.made ++ m) none ∙ append-nil u.made ∙ b.made;
  bill = ap (λ c. both c v.bill) b.bill ∙ both_swap b.one.bill b.other.bill v.bill b.silent;
  left = (b.one, v, refl, b.left, does (behind a b.one));
  right = b.right;
}

-- the other side goes on, by work that says no reply
pub beside_did : {P Q : At → Work → Type 0} (R : At → Work → Type 0) (a : At) (u v : Work) → v.bill.said ≡ [] → R (behind a u) v → Beside P Q a u
    → Beside P (Seq Q R) a (and u v)
beside_did {P} {Q} R a u v silent does b =
    let T : List Entry → Type 0 = λ m. R (record a { history = a.history ++ m }) v in
    record {
      one = b.one;
      other = and b.other v;
      acts = shuffle_other b.one.acts b.other.acts u.acts v.acts b.acts;
      apart = b.apart;
      silent = rw (b.silent, silent) refl;
      made = ap (λ m. m ++ v.made) b.made;
      bill = ap (λ c. both c v.bill) b.bill ∙ both_both b.one.bill b.other.bill v.bill;
      left = b.left;
      right = (b.other, v, refl, b.right, subst T b.made does);
    }

unfoldable pub did_one : {x y z : WireView} {a b : Lent} {P Q R : At → Work → Type 0}
    → Did (span x y a b) (Beside P Q) → Went y z R → Did (span x z a b) (Beside (Seq P R) Q)
did_one {x} {y} {z} {a} {b} {P} {Q} {R} d w = record {
  work = and d.work w.work;
  doing = doing_then x y z a b b d.work w.work d.doing (doing_went y z b w.work w.fresh w.wired w.made w.rests);
  out = d.out;
  does = beside_went R (at_of x a) d.work w.work w.made w.does d.does;
}

unfoldable pub did_other : {x y z : WireView} {a b c : Lent} {P Q R : At → Work → Type 0} → ((t : At) (w : Work) → R t w → w.bill.said ≡ [])
    → Did (span x y a b) (Beside P Q) → Did (span y z b c) R → Did (span x z a c) (Beside P (Seq Q R))
did_other {x} {y} {z} {a} {b} {c} {P} {Q} {R} silent d e =
    let T : At → Type 0 = λ t. R t e.work in
    record {
      work = and d.work e.work;
      doing = doing_then x y z a b c d.work e.work d.doing e.doing;
      out = e.out ∙ d.out;
      does = beside_did R (at_of x a) d.work e.work (silent (at_of y b) e.work e.does)
          (subst T (at_then x y a b d.work d.doing.wired d.doing.pooled) e.does) d.does;
    }
