-- A write behind another one.
use Rattle.std.proofs.Common.{ℕ, ◌≡◌, Bool, not, nat_lt, List, [], ◌∷◌, ◌++◌, length, ◌==◌, Option, refl, ap, sym, subst, ◌∙◌, arith, append_assoc, ne_eqb}
use Rattle.std.proofs.lemmas.Bool.{lt-ltb}
use Rattle.gw_wire.specs.declared.values.Act.{Act}
use Rattle.gw_wire.specs.Link.{LinkView}
use Rattle.gw_wire.specs.Stretch.{Then}
use Rattle.gw_wire.proofs.Facts.{link_then}
use Rattle.gw_account.specs.Work.{Bill}
use Rattle.gw_account.proofs.Facts.{free_both}
use Rattle.gw_stream.specs.declared.waits.Sent.{Sent}
use Rattle.gw_stream.specs.declared.waits.Sent.TheVariants as sent
use Rattle.gw_stream.specs.Waits.{Side, Waited, Says, SentCause, SentStep, Writes, said_behind, sent_bill}
use Rattle.gw_stream.proofs.ComesLemmas.{says_then}
use Rattle.gw_stream.proofs.LinkLemmas.{rose_from, waited_map, waited_then}
use Rattle.gw_stream.proofs.SendLemmas.{stop_cause}

bill_behind : (silence : Option ℕ) (some : Bool) (said : Sent) → sent_bill silence said ≡ sent_bill silence (said_behind some said)
bill_behind silence some sent.All = refl
bill_behind silence some (sent.Failed part) = refl
bill_behind silence some (sent.Stopped why) = refl

cause_behind : (a b c : Side) (from at to : LinkView) (bytes : List ℕ) (silence : Option ℕ) (some : Bool) (said : Sent) → SentStep a b from at bytes silence sent.All
    → SentCause b c at to silence said → SentCause a c from to silence (said_behind some said)
cause_behind a b c from at to bytes silence some sent.All p q = q
cause_behind a b c from at to bytes silence some (sent.Failed part) p q = rose_from from.faults at.faults to.faults p.link.faults q
cause_behind a b c from at to bytes silence some (sent.Stopped why) p q =
    stop_cause a.guard b.guard c.guard c.wire.moment silence why p.waited.watched.goes.cancels p.waited.watched.goes.deadline q

any_of : (a : List ℕ) (empty : Bool) → empty ≡ (length a == 0) → not empty ≡ nat_lt 0 (length a)
any_of [] empty e = rw e refl
any_of (b ∷ a) empty e = rw (e, ne_eqb (length (b ∷ a)) 0 (omega arith)) (sym (lt-ltb 0 (length (b ∷ a)) (omega arith)))

-- a write that went whole, and then another one
pub sent_then : (a b c : Side) (from at to : LinkView) (first second : List ℕ) (silence : Option ℕ) (empty : Bool) (said : Sent) → empty ≡ (length first == 0)
    → SentStep a b from at first silence sent.All → SentStep b c at to second silence said
    → SentStep a c from to (first ++ second) silence (said_behind (not empty) said)
sent_then a b c from at to first second silence empty said is p q =
    let both = waited_then p.waited q.waited in
    let T : List Act → Type 0 = Says from.number (first ++ second) (said_behind (not empty) said) in
    let more = waited_map both (λ l (t : Then (Writes from.number first) (Says at.number second said) l).
    subst T (sym t.2) (says_then from.number first second said (not empty) t.0 t.1 (any_of first empty is) t.3
    (subst (λ (n : ℕ). Says n second said t.1) p.link.number t.4))) in
    record {
      waited = subst (λ (u : Bill). Waited a c u T) (free_both (sent_bill silence said) ∙ bill_behind silence (not empty) said) more;
      link = link_then from at to p.link q.link;
      cause = cause_behind a b c from at to first silence (not empty) said p q.cause;
    }

-- a first one that didn't go whole
pub sent_front : (a b : Side) (from to : LinkView) (first second : List ℕ) (silence : Option ℕ) (said : Sent) → (said ≡ sent.All → ⊥)
    → SentStep a b from to first silence said → SentStep a b from to (first ++ second) silence said
sent_front a b from to first second silence sent.All not_all p = absurd (not_all refl)
sent_front a b from to first second silence (sent.Failed some) not_all p = record {
  waited = waited_map p.waited (λ l s. (s.0, s.1 ++ second, ap (λ x. x ++ second) s.2 ∙ append_assoc s.0 s.1 second, s.3, s.4));
  link = p.link;
  cause = p.cause;
}
sent_front a b from to first second silence (sent.Stopped why) not_all p = record {
  waited = waited_map p.waited (λ l s. (s.0, s.1 ++ second, ap (λ x. x ++ second) s.2 ∙ append_assoc s.0 s.1 second, s.3));
  link = p.link;
  cause = p.cause;
}
