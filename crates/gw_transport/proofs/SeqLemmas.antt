-- How facts on stretches follow one another, and what stands before a call without being the caller's own.
use Rattle.std.proofs.Common.{ℕ, zero, suc, ◌≡◌, List, [], ◌∷◌, ◌++◌, refl, ap, sym, subst, ◌∙◌, append_assoc}
use Rattle.gw_wire.specs.declared.values.Addr.{Addr}
use Rattle.gw_pool.specs.declared.entry.Call.{Call}
use Rattle.gw_pool.specs.declared.entry.Call.TheVariants as call
use Rattle.gw_pool.specs.declared.entry.Entry.{Entry}
use Rattle.gw_pool.specs.declared.entry.Reply.{Reply}
use Rattle.gw_pool.specs.declared.entry.Reply.TheVariants as reply
use Rattle.gw_pool.specs.declared.limits.Limits.{Limits}
use Rattle.gw_pool.specs.declared.rows.ConnRow.{ConnRow}
use Rattle.gw_pool.specs.Gone.{left_by}
use Rattle.gw_pool.specs.History.{after, mine}
use Rattle.gw_pool.specs.Lent.{entry_of}
use Rattle.gw_pool.specs.Machine.{step}
use Rattle.gw_account.specs.Work.{Bill, Work, At, free, both, and, behind, Seq}
use Rattle.gw_account.proofs.Facts.{and_and, behind_behind, mine_then}
use Rattle.gw_transport.specs.Parts.{Way, Anywhere, Called, Closes, Comes, Dials, Fails, FailsToDial, Hands, Repeats, Sees, Starts}

pub seq_map : (P Q R S : At → Work → Type 0) → ((a : At) (w : Work) → P a w → R a w) → ((a : At) (w : Work) → Q a w → S a w)
    → (a : At) (w : Work) → Seq P Q a w → Seq R S a w
seq_map P Q R S f g a w s = (s.0, s.1, s.2, f a s.0 s.3, g (behind a s.0) s.1 s.4)

pub seq_left : (P Q R : At → Work → Type 0) (a : At) (w : Work) → Seq P (Seq Q R) a w → Seq (Seq P Q) R a w
seq_left P Q R a w s =
    let u = s.0 in
    let t = s.4 in
    let x = t.0 in
    let y = t.1 in
    let T : At → Type 0 = λ b. R b y in
    (and u x, y, s.2 ∙ ap (λ v. and u v) t.2 ∙ sym (and_and u x y), (u, x, refl, s.3, t.3), subst T (behind_behind a u x) t.4)

pub seq_right : (P Q R : At → Work → Type 0) (a : At) (w : Work) → Seq (Seq P Q) R a w → Seq P (Seq Q R) a w
seq_right P Q R a w s =
    let t = s.3 in
    let u = t.0 in
    let x = t.1 in
    let y = s.1 in
    let T : At → Type 0 = λ b. R b y in
    (u, and x y, s.2 ∙ ap (λ v. and v y) t.2 ∙ and_and u x y, t.3, (x, y, refl, t.4, subst T (ap (λ v. behind a v) t.2 ∙ sym (behind_behind a u x)) s.4))

pub sees_sees : (p q : Bill) (a : At) (w : Work) → Seq (Sees p) (Sees q) a w → Sees (both p q) a w
sees_sees p q a w s =
    let u = s.0 in
    let v = s.1 in
    let T : Work → Type 0 = λ x. Sees (both p q) a x in
    subst T (sym s.2) (
      mine_then u.made v.made a.caller ∙ ap (λ m. m ++ mine v.made a.caller) s.3.0 ∙ s.4.0,
      ap (λ m. m ++ v.acts) s.3.1 ∙ s.4.1,
      ap (λ b. both b v.bill) s.3.2 ∙ ap (λ b. both p b) s.4.2,
    )

pub sees_called : (P : Limits → List Entry → Type 0) (asked : Call) (answer : Reply) (links : List ℕ) (a : At) (w : Work)
    → Seq (Sees free) (Called P asked answer links) a w → Called P asked answer links a w
sees_called P asked answer links a w s =
    let u = s.0 in
    let v = s.1 in
    let c = s.4 in
    let T : Work → Type 0 = λ x. Called P asked answer links a x in
    let place : List Entry → Type 0 = λ h. P a.limits h in
    let leaves : List Entry → Type 0 = λ h. left_by (step a.limits (after a.limits h) a.caller asked) ≡ links in
    let same = append_assoc a.history u.made c.others in
    subst T (sym s.2) (record {
      others = u.made ++ c.others;
      made = ap (λ m. u.made ++ m) c.made ∙ sym (append_assoc u.made c.others (entry_of a.caller asked answer ∷ []));
      foreign = mine_then u.made c.others a.caller ∙ ap (λ m. m ++ mine c.others a.caller) s.3.0 ∙ c.foreign;
      place = subst place same c.place;
      left = subst leaves same c.left;
      quiet = ap (λ m. m ++ v.acts) s.3.1 ∙ c.quiet;
      bill = ap (λ b. both b v.bill) s.3.2 ∙ ap (λ b. both free b) c.bill;
    })

-- what is seen before a row of stretches is seen before its first one
pub sees_seq : (P Q : At → Work → Type 0) → ((a : At) (w : Work) → Seq (Sees free) P a w → P a w) → (a : At) (w : Work)
    → Seq (Sees free) (Seq P Q) a w → Seq P Q a w
sees_seq P Q f a w s = seq_map (Seq (Sees free) P) Q P Q f (λ b x q. q) a w (seq_left (Sees free) P Q a w s)

pub sees_hands : (P : Limits → List Entry → Type 0) (asked : Call) (answer : Reply) (a : At) (w : Work)
    → Seq (Sees free) (Hands P asked answer) a w → Hands P asked answer a w
sees_hands P asked answer a w s =
    let links = s.4.0 in
    (links, sees_seq (Called P asked answer links) (Closes links) (sees_called P asked answer links) a w (s.0, s.1, s.2, s.3, s.4.1))

pub sees_repeats : (n : ℕ) (P : At → Work → Type 0) (a : At) (w : Work) → Seq (Sees free) (Repeats n P) a w → Repeats n P a w
sees_repeats zero P a w s = sees_sees free free a w s
sees_repeats (suc n) P a w s = sees_seq (Repeats n P) P (sees_repeats n P) a w s

pub sees_comes : (host : ℕ) (backend : Addr) (want : ℕ) (row : ConnRow) (way : Way) (a : At) (w : Work)
    → Seq (Sees free) (Comes host backend want row way) a w → Comes host backend want row way a w
sees_comes host backend want row Way.ByOther a w s = sees_sees free free a w s
sees_comes host backend want row (Way.ByDial link) a w s =
    let t = s.4 in (
      t.0,
      t.1,
      t.2,
      sees_seq (Starts want) (Seq (Dials host backend link) (Seq (Hands Anywhere (call.Dialed want link t.0) t.1) (Sees free)))
          (sees_called Anywhere (call.Start want) reply.Go []) a w (s.0, s.1, s.2, s.3, t.3),
    )
sees_comes host backend want row Way.ByLate a w s =
    let t = s.4 in (
      t.0,
      sees_seq (Starts want) (Seq (FailsToDial host backend) (Seq (Called Anywhere (call.DialFailed want) (reply.Late t.0) []) (Sees free)))
          (sees_called Anywhere (call.Start want) reply.Go []) a w (s.0, s.1, s.2, s.3, t.1),
    )

pub sees_fails : (host : ℕ) (backend : Addr) (want : ℕ) (a : At) (w : Work) → Seq (Sees free) (Fails host backend want) a w → Fails host backend want a w
sees_fails host backend want a w s =
    let t = s.4 in (
      t.0,
      sees_seq (Starts want) (Seq (FailsToDial host backend) (Seq (Called Anywhere (call.DialFailed want) (reply.Ended t.0) []) (Sees free)))
          (sees_called Anywhere (call.Start want) reply.Go []) a w (s.0, s.1, s.2, s.3, t.1),
    )
