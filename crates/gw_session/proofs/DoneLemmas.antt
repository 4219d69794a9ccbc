-- Stretches of a session's work, one after another.
use Rattle.std.proofs.Common.{ℕ, ◌≡◌, ◌≤◌, List, [], ◌∷◌, ◌++◌, Option, Some, None, refl, ap, sym, subst, ◌∙◌, arith}
use Rattle.gw_wire.specs.declared.values.Act.{Act}
use Rattle.gw_wire.specs.Causes.{Rose}
use Rattle.gw_wire.specs.Wire.{WireView}
use Rattle.gw_pool.specs.Lent.{Lent}
use Rattle.gw_account.specs.Did.{Span, Went, span}
use Rattle.gw_account.specs.Work.{Bill, Work, At, Idle, Only, Seq, and, at_of, behind, both, free}
use Rattle.gw_account.proofs.Facts.{and_and, and_nothing, at_then, behind_behind, behind_nothing, doing_then, doing_went, nothing_and}
use Rattle.gw_stream.specs.Guard.{IsDue}
use Rattle.gw_transport.specs.Stretch.{Part}
use Rattle.gw_session.specs.Stand.{Done}
use Rattle.gw_session.proofs.SayLemmas.{dated_bill}
use Rattle.gw_session.specs.Replies.{dated}

pub done_then : {x y z : WireView} {a b c : Lent} {P Q : At → Work → Type 0} → Done (span x y a b) P → Done (span y z b c) Q → Done (span x z a c) (Seq P Q)
done_then {x} {y} {z} {a} {b} {c} {P} {Q} p q =
    let T : At → Type 0 = λ t. Q t q.work in
    record {
      work = and p.work q.work;
      doing = doing_then x y z a b c p.work q.work p.doing q.doing;
      does = (p.work, q.work, refl, p.does, subst T (at_then x y a b p.work p.doing.wired p.doing.pooled) q.does);
    }

pub done_map : {s : Span} {P Q : At → Work → Type 0} → Done s P → ((a : At) (w : Work) → P a w → Q a w) → Done s Q
done_map {s} {P} {Q} p f = record { work = p.work; doing = p.doing; does = f (at_of s.old s.before) p.work p.does }

pub done_went : {x y : WireView} {P : At → Work → Type 0} (a : Lent) → Went x y P → Done (span x y a a) P
done_went {x} {y} {P} a w = record {
  work = w.work;
  doing = doing_went x y a w.work w.fresh w.wired w.made w.rests;
  does = w.does (at_of x a);
}

pub done_part : {s : Span} {P : At → Work → Type 0} → Part s P → Done s P
done_part {s} {P} p = record { work = p.work; doing = p.doing; does = p.does }

-- nothing was done before
pub after_idle : (P : At → Work → Type 0) (a : At) (w : Work) → Seq Idle P a w → P a w
after_idle P a w s =
    let T : Work → Type 0 = λ v. P a v in
    let U : At → Type 0 = λ b. P b s.1 in
    subst T (sym (s.2 ∙ ap (λ u. and u s.1) s.3 ∙ nothing_and s.1)) (subst U (ap (λ u. behind a u) s.3 ∙ behind_nothing a) s.4)

-- nothing was done behind
pub then_idle : (P : At → Work → Type 0) (a : At) (w : Work) → Seq P Idle a w → P a w
then_idle P a w s =
    let T : Work → Type 0 = λ v. P a v in
    subst T (sym (s.2 ∙ ap (λ v. and s.0 v) s.4 ∙ and_nothing s.0)) s.3

pub done_after : {x y z : WireView} {b c : Lent} {P : At → Work → Type 0} → Went x y Idle → Done (span y z b c) P → Done (span x z b c) P
done_after {x} {y} {z} {b} {c} {P} w d = done_map (done_then (done_went b w) d) (after_idle P)

-- calls that are dated behind a clock that was read
pub dated_then : (moment : ℕ) (b : Bill) (P : List Act → Type 0) → b.said ≡ [] → (a : At) (w : Work)
    → Seq (Only (record free { said = moment ∷ [] }) (λ acts. acts ≡ [])) (Only b P) a w → Only (dated moment b) P a w
dated_then moment b P none a w s =
    let u : Work = s.0 in
    let v : Work = s.1 in (
      ap (λ (z : Work). z.made) s.2 ∙ ap (λ (m : List _). m ++ v.made) s.3.0 ∙ s.4.0,
      ap (λ (z : Work). z.bill) s.2 ∙ ap (λ (c : Bill). both c v.bill) s.3.1 ∙ ap (λ (c : Bill). both (record free { said = moment ∷ [] }) c) s.4.1 ∙ dated_bill moment b none,
      subst P (sym (ap (λ (z : Work). z.acts) s.2 ∙ ap (λ (m : List Act). m ++ v.acts) s.3.2)) s.4.2,
    )

-- what is due stays so
pub due_later : (deadline : Option ℕ) (m n : ℕ) → m ≤ n → IsDue deadline m → IsDue deadline n
due_later None m n le due = due
due_later (Some d) m n le due = omega arith

pub rose_before : (a b c : ℕ) → a ≤ b → Rose b c → Rose a c
rose_before a b c le rose = omega arith

pub rose_behind : (a b c : ℕ) → b ≤ c → Rose a b → Rose a c
rose_behind a b c le rose = omega arith

-- three stretches, whichever two are put together first
pub seq_left : (P Q R : At → Work → Type 0) (a : At) (w : Work) → Seq P (Seq Q R) a w → Seq (Seq P Q) R a w
seq_left P Q R a w s =
    let u = s.0 in
    let t = s.4 in
    let x = t.0 in
    let y = t.1 in
    let T : At → Type 0 = λ b. R b y in
    (and u x, y, s.2 ∙ ap (λ v. and u v) t.2 ∙ sym (and_and u x y), (u, x, refl, s.3, t.3), subst T (behind_behind a u x) t.4)

pub seq_map : (P Q R S : At → Work → Type 0) → ((a : At) (w : Work) → P a w → R a w) → ((a : At) (w : Work) → Q a w → S a w)
    → (a : At) (w : Work) → Seq P Q a w → Seq R S a w
seq_map P Q R S f g a w s = (s.0, s.1, s.2, f a s.0 s.3, g (behind a s.0) s.1 s.4)
