-- Steps of a wait for a reply, over plain variables.
use Rattle.std.proofs.Common.{ℕ, zero, suc, ◌≡◌, ◌≤◌, ◌<◌, ◌+◌, ◌||◌, Bool, true, false, nat_lt, List, [], ◌∷◌, ◌++◌, length, Some, None, refl, ap, sym, subst, ◌∙◌, arith, inl, inr, append_assoc}
use Rattle.std.proofs.lemmas.Bool.{le-leb, lt-ltb}
use Rattle.std.proofs.lemmas.Bool.Decides.{nat_tests}
use Rattle.gw_wire.specs.declared.values.Act.{Act}
use Rattle.gw_wire.specs.Link.{LinkView, LinkLater}
use Rattle.gw_wire.specs.Stretch.{Then}
use Rattle.gw_wire.specs.Wire.{WireView}
use Rattle.gw_wire.proofs.Facts.{link_same, link_then}
use Rattle.gw_head.specs.declared.reply.ReplyHead.{ReplyHead}
use Rattle.gw_head.specs.Head.{ReplyHeadOf}
use Rattle.gw_body.specs.declared.place.Place.{Place}
use Rattle.gw_body.specs.Framing.{reply_framing_of}
use Rattle.gw_body.specs.Places.{begins}
use Rattle.gw_retry.specs.declared.Failure.TheVariants as failure
use Rattle.gw_account.specs.Work.{Bill, free}
use Rattle.gw_account.proofs.Facts.{free_both}
use Rattle.gw_stream.specs.declared.waits.Loss.{Loss}
use Rattle.gw_stream.specs.declared.waits.Loss.TheVariants as loss
use Rattle.gw_stream.specs.declared.waits.Stop.TheVariants as stops
use Rattle.gw_stream.specs.Drawing.{HearsWhile}
use Rattle.gw_stream.specs.Guard.{GuardView}
use Rattle.gw_stream.specs.Waits.{Side, side, LossCause, Waited, loss_acts, loss_bill}
use Rattle.gw_stream.proofs.Facts.{goes_same, goes_waited, hears_then, loss_within, waited_map, waited_same, waited_then}
use Rattle.gw_transport.specs.declared.attempts.Tried.{Tried}
use Rattle.gw_transport.specs.declared.attempts.Tried.TheVariants as tried
use Rattle.gw_transport.specs.declared.replying.Begun.{Begun}
use Rattle.gw_transport.specs.declared.replying.End.{End}
use Rattle.gw_transport.specs.declared.replying.End.TheVariants as end
use Rattle.gw_transport.specs.declared.replying.HeadHeard.{HeadHeard}
use Rattle.gw_transport.specs.declared.replying.HeadHeard.TheVariants as heard
use Rattle.gw_transport.specs.Attempts.{TriedCause}
use Rattle.gw_transport.specs.Leasing.{Lateness}
use Rattle.gw_transport.specs.Replying.{BeginsReply, FailsToReply, HeadStep, HearsFor, HearsHead, HearsReply, Informs, IsAnswering, IsOfWait, IsOpenReply, LosesReply, Replies, ReplyStep, failure_bill, is_final, is_informational, lost_by, tried_bill}

-- ---- informational heads in front

-- reads for a head are reads for the reply whose informational heads stand before
reply_inside : (k n : ℕ) (front ahead bytes : List ℕ) (acts : List Act) → n ≤ 5 → Informs n front → HearsHead k ahead bytes acts
    → HearsWhile IsOpenReply k (front ++ ahead) (front ++ bytes) acts
reply_inside k n front ahead bytes [] few i h = ap (λ l. front ++ l) h
reply_inside k n front ahead bytes (act ∷ acts) few i h = (
  record { count = n; front = front; behind = ahead; few = few; bytes_are = refl; informs = i; undecided = h.0 },
  h.1,
  h.2,
  subst (λ (l : List ℕ). HearsWhile IsOpenReply k l (front ++ bytes) acts) (sym (append_assoc front ahead h.1)) (reply_inside k n front (ahead ++ h.1) bytes acts few i h.3),
)

-- informational heads were read, and what follows them is ahead
abbrev pub Drops : ℕ → ℕ → List ℕ → List Act → Type 0
Drops link count ahead acts = (front : List ℕ) × Informs count front × HearsReply link (front ++ ahead) acts

-- a reply whose final head is waited for
pub record Dropping (old new : Side) (from at : LinkView) (count : ℕ) (ahead : List ℕ) : Type 0 where
  pub waited : Waited old new free (Drops from.number count ahead)
  pub link : LinkLater from at

pub dropping_begins : (w : WireView) (g : GuardView) (l : LinkView) (ahead : List ℕ) → ahead ≡ [] → w.aged ≡ false → g.last ≤ w.moment
    → Dropping (side w g) (side w g) l l 0 ahead
dropping_begins w g l ahead none fresh le = record {
  waited = waited_map (waited_same w g fresh le) (λ acts quiet. ([], refl, subst (HearsReply l.number ahead) (sym quiet) none));
  link = link_same l;
}

-- what was read for one more head
further : (k n : ℕ) (ahead bytes : List ℕ) (l : List Act) → n ≤ 5 → Then (Drops k n ahead) (HearsHead k ahead bytes) l
    → (front : List ℕ) × Informs n front × HearsReply k (front ++ bytes) l
further k n ahead bytes l few t =
    let front : List ℕ = t.3.0 in (
      front,
      t.3.1,
      subst (HearsReply k (front ++ bytes)) (sym t.2)
          (hears_then IsOpenReply k [] (front ++ ahead) (front ++ bytes) t.0 t.1 t.3.2 (reply_inside k n front ahead bytes t.1 few t.3.1 t.4)),
    )

further_head : (k n : ℕ) (ahead left : List ℕ) (head : ReplyHead) (l : List Act) → n ≤ 5 → Then (Drops k n ahead) (HearsFor k ahead left (heard.Head head)) l
    → (text : List ℕ) × ReplyHeadOf text head × ((front : List ℕ) × Informs n front × HearsReply k (front ++ (text ++ left)) l)
further_head k n ahead left head l few t =
    let text : List ℕ = t.4.0 in
    (text, t.4.1, further k n ahead (text ++ left) l few (t.0, t.1, t.2, t.3, t.4.2))

at_link : (j k : ℕ) (ahead left : List ℕ) (r : HeadHeard) → j ≡ k → (l : List Act) → HearsFor j ahead left r l → HearsFor k ahead left r l
at_link j k ahead left r same l h = subst (λ (n : ℕ). HearsFor n ahead left r l) same h

-- both stretches, over one link
joined : (a b c : Side) (from at to : LinkView) (n : ℕ) (ahead left : List ℕ) (r : HeadHeard) (u : Bill) → Dropping a b from at n ahead
    → Waited b c u (HearsFor at.number ahead left r) → Waited a c u (Then (Drops from.number n ahead) (HearsFor from.number ahead left r))
joined a b c from at to n ahead left r u d w =
    let k : ℕ = from.number in
    subst (λ v. Waited a c v (Then (Drops k n ahead) (HearsFor k ahead left r))) (free_both u)
    (waited_then d.waited (waited_map w (at_link at.number k ahead left r d.link.number)))

pub dropping_more : (a b c : Side) (from at to : LinkView) (n : ℕ) (ahead left : List ℕ) (head : ReplyHead) → n ≤ 5 → is_informational head.code ≡ true
    → Dropping a b from at n ahead → HeadStep b c at to ahead left (heard.Head head) → Dropping a c from to (n + 1) left
dropping_more a b c from at to n ahead left head few informs d t =
    let k : ℕ = from.number in
    let one : n + 1 ≡ suc n = omega arith in
    let T : ℕ → Type 0 = λ m. Dropping a c from to m left in
    subst T (sym one) (record {
      waited = waited_map (joined a b c from at to n ahead left (heard.Head head) free d t.waited) (λ l p.
          let h = further_head k n ahead left head l few p in (
            h.2.0 ++ h.0,
            (h.2.0, h.0, head, refl, h.2.1, h.1, informs),
            subst (λ (bytes : List ℕ). HearsReply k bytes l) (sym (append_assoc h.2.0 h.0 left)) h.2.2,
          ));
      link = link_then from at to d.link t.link;
    })

-- ---- how it ends

answered : (a c : Side) (from to : LinkView) (method : List ℕ) (place : Place) (left : List ℕ) (result : Tried Begun End)
    → TriedCause a.guard c.guard c.wire.moment Lateness.ByDeadline result → LinkLater from to
    → Waited a c (tried_bill Lateness.ByDeadline result) (Replies from.number method place left result)
    → ReplyStep a c from to method place left result
answered a c from to method place left result cause link w = record { late = Lateness.ByDeadline; of_wait = tt; waited = w; link = link; cause = cause }

pub reply_begun : (a b c : Side) (from at to : LinkView) (n : ℕ) (ahead left method : List ℕ) (place : Place) (r : Begun) (head : ReplyHead) → n ≤ 5
    → is_final head.code ≡ true → r.head ≡ head → r.framing ≡ reply_framing_of head method → place ≡ begins r.framing
    → Dropping a b from at n ahead → HeadStep b c at to ahead left (heard.Head head) → ReplyStep a c from to method place left (tried.Reply r)
reply_begun a b c from at to n ahead left method place r head few final same framing begun d t =
    let k : ℕ = from.number in
    answered a c from to method place left (tried.Reply r) tt (link_then from at to d.link t.link)
    (waited_map (joined a b c from at to n ahead left (heard.Head head) free d t.waited) (λ l p.
    let h = further_head k n ahead left head l few p in (
      framing ∙ ap (λ (x : ReplyHead). reply_framing_of x method) (sym same),
      begun,
      subst (λ (x : ReplyHead). BeginsReply k x left l) (sym same) (record {
        count = n;
        front = h.2.0;
        text = h.0;
        few = few;
        informs = h.2.1;
        head_of = h.1;
        final = final;
        hears = h.2.2;
      }),
    )))

pub reply_neither : (a b c : Side) (from at to : LinkView) (n : ℕ) (ahead left method : List ℕ) (place : Place) (head : ReplyHead) → n ≤ 5
    → is_final head.code ≡ false → is_informational head.code ≡ false
    → Dropping a b from at n ahead → HeadStep b c at to ahead left (heard.Head head) → ReplyStep a c from to method place left (tried.Failed failure.BadResponse)
reply_neither a b c from at to n ahead left method place head few early other d t =
    let k : ℕ = from.number in
    answered a c from to method place left (tried.Failed failure.BadResponse) tt (link_then from at to d.link t.link)
    (waited_map (joined a b c from at to n ahead left (heard.Head head) free d t.waited) (λ l p.
    let h = further_head k n ahead left head l few p in
    (h.2.0 ++ (h.0 ++ left), inl (n, h.2.0, h.0 ++ left, few, refl, h.2.1, inr (h.0, left, head, refl, h.1, early, other)), h.2.2)))

pub reply_bad : (a b c : Side) (from at to : LinkView) (n : ℕ) (ahead left method : List ℕ) (place : Place) → n ≤ 5
    → Dropping a b from at n ahead → HeadStep b c at to ahead left heard.Bad → ReplyStep a c from to method place left (tried.Failed failure.BadResponse)
reply_bad a b c from at to n ahead left method place few d t =
    let k : ℕ = from.number in
    answered a c from to method place left (tried.Failed failure.BadResponse) tt (link_then from at to d.link t.link)
    (waited_map (joined a b c from at to n ahead left heard.Bad free d t.waited) (λ l p.
    let bytes : List ℕ = p.4.0 in
    let h = further k n ahead bytes l few (p.0, p.1, p.2, p.3, p.4.2) in
    (h.0 ++ bytes, inl (n, h.0, bytes, few, refl, h.1, inl p.4.1), h.2)))

pub reply_sixth : (a b : Side) (from at : LinkView) (n : ℕ) (ahead method : List ℕ) (place : Place) → 6 ≤ n → n ≤ 6
    → Dropping a b from at n ahead → ReplyStep a b from at method place ahead (tried.Failed failure.BadResponse)
reply_sixth a b from at n ahead method place least most d =
    let six : n ≡ 6 = omega arith in
    let k : ℕ = from.number in
    let T : ℕ → Type 0 = λ m. Waited a b free (Drops k m ahead) in
    answered a b from at method place ahead (tried.Failed failure.BadResponse) tt d.link
    (waited_map (subst T six d.waited) (λ l p. (p.0 ++ ahead, inr (p.0, ahead, refl, p.1), p.2)))

pub reply_memory : (a b c : Side) (from at to : LinkView) (n : ℕ) (ahead left method : List ℕ) (place : Place) → n ≤ 5
    → Dropping a b from at n ahead → HeadStep b c at to ahead left heard.NoMemory → ReplyStep a c from to method place left (tried.Over end.NoMemory)
reply_memory a b c from at to n ahead left method place few d t =
    let k : ℕ = from.number in
    answered a c from to method place left (tried.Over end.NoMemory) tt (link_then from at to d.link t.link)
    (waited_map (joined a b c from at to n ahead left heard.NoMemory free d t.waited) (λ l p.
    let bytes : List ℕ = p.4.0 in
    let h = further k n ahead bytes l few (p.0, p.1, p.2, p.3, p.4.1) in
    (h.0 ++ bytes, h.2)))

-- ---- a link that is lost

abbrev late_of : Loss → Lateness
late_of loss.End = Lateness.ByDeadline
late_of loss.Failed = Lateness.ByDeadline
late_of (loss.Stopped stops.Cancelled) = Lateness.ByDeadline
late_of (loss.Stopped stops.Deadline) = Lateness.ByDeadline
late_of (loss.Stopped stops.Silent) = Lateness.ByDeadline
late_of (loss.Stopped stops.Ticks) = Lateness.ByTicks

late_of_wait : (why : Loss) → IsOfWait (late_of why)
late_of_wait loss.End = tt
late_of_wait loss.Failed = tt
late_of_wait (loss.Stopped stops.Cancelled) = tt
late_of_wait (loss.Stopped stops.Deadline) = tt
late_of_wait (loss.Stopped stops.Silent) = tt
late_of_wait (loss.Stopped stops.Ticks) = tt

lost_bill : (why : Loss) (answering : Bool) → loss_bill None why ≡ failure_bill (late_of why) (lost_by why answering)
lost_bill loss.End true = refl
lost_bill loss.End false = refl
lost_bill loss.Failed true = refl
lost_bill loss.Failed false = refl
lost_bill (loss.Stopped stops.Cancelled) answering = refl
lost_bill (loss.Stopped stops.Deadline) answering = refl
lost_bill (loss.Stopped stops.Silent) answering = refl
lost_bill (loss.Stopped stops.Ticks) answering = refl

none_some : (n : ℕ) → None ≡ Some n → ⊥
none_some n e = cc

lost_cause : (a c : Side) (from to : LinkView) (why : Loss) (answering : Bool) → LossCause a c from to None why
    → TriedCause {R = Begun} {E = End} a.guard c.guard c.wire.moment (late_of why) (tried.Failed (lost_by why answering))
lost_cause a c from to loss.End true cause = tt
lost_cause a c from to loss.End false cause = tt
lost_cause a c from to loss.Failed true cause = tt
lost_cause a c from to loss.Failed false cause = tt
lost_cause a c from to (loss.Stopped stops.Cancelled) answering cause = cause
lost_cause a c from to (loss.Stopped stops.Deadline) answering cause = cause
lost_cause a c from to (loss.Stopped stops.Silent) answering cause = absurd (none_some cause.0 cause.1)
lost_cause a c from to (loss.Stopped stops.Ticks) answering cause = tt

-- whether a byte of the reply had come
answering_of : (n : ℕ) (bytes : List ℕ) → (nat_lt 0 (length bytes) || nat_lt 0 n) ≡ true → IsAnswering n bytes
answering_of zero [] e = absurd (let bad : false ≡ true = e in cc)
answering_of zero (b ∷ bytes) e = inr (omega arith)
answering_of (suc n) bytes e = inl (omega arith)

none_of : (n : ℕ) (bytes : List ℕ) → (nat_lt 0 (length bytes) || nat_lt 0 n) ≡ false → (n ≡ 0) × (bytes ≡ [])
none_of zero [] e = (refl, refl)
none_of n (b ∷ bytes) e =
    absurd (let bad : true ≡ false = ap (λ s. s || nat_lt 0 n) (sym (lt-ltb 0 (length (b ∷ bytes)) (omega arith))) ∙ e in cc)
none_of (suc n) [] e = absurd (let bad : true ≡ false = sym (lt-ltb 0 (suc n) (omega arith)) ∙ e in cc)

loses_by : (k n : ℕ) (behind : List ℕ) (why : Loss) (answering : Bool) (l : List Act) → answering ≡ (nat_lt 0 (length behind) || nat_lt 0 n)
    → LosesReply k n behind (loss_acts k why) l → FailsToReply k (lost_by why answering) l
loses_by k n behind loss.End true l is p = (n, behind, answering_of n behind (sym is), inl p)
loses_by k n behind loss.End false l is p =
    let none = none_of n behind (sym is) in
    let T : ℕ → List ℕ → Type 0 = λ m b. LosesReply k m b (loss_acts k loss.End) l in
    subst (T 0) none.1 (subst (λ m. T m behind) none.0 p)
loses_by k n behind loss.Failed true l is p = (n, behind, answering_of n behind (sym is), inr p)
loses_by k n behind loss.Failed false l is p =
    let none = none_of n behind (sym is) in
    let T : ℕ → List ℕ → Type 0 = λ m b. LosesReply k m b (loss_acts k loss.Failed) l in
    subst (T 0) none.1 (subst (λ m. T m behind) none.0 p)
loses_by k n behind (loss.Stopped stops.Cancelled) answering l is p = (n, behind, p)
loses_by k n behind (loss.Stopped stops.Deadline) answering l is p = (n, behind, p)
loses_by k n behind (loss.Stopped stops.Silent) answering l is p = (n, behind, p)
loses_by k n behind (loss.Stopped stops.Ticks) answering l is p = (n, behind, p)

loses : (k n : ℕ) (ahead left : List ℕ) (why : Loss) (some answering : Bool) (l : List Act) → n ≤ 5 → answering ≡ (some || nat_lt 0 n)
    → Then (Drops k n ahead) (HearsFor k ahead left (heard.Lost why some)) l → FailsToReply k (lost_by why answering) l
loses k n ahead left why some answering l few is t =
    let bytes : List ℕ = t.4.0 in
    let q = t.4.3 in
    let front : List ℕ = t.3.0 in
    loses_by k n bytes why answering l (is ∙ ap (λ s. s || nat_lt 0 n) t.4.2) (record {
      front = front;
      few = few;
      informs = t.3.1;
      undecided = t.4.1;
      hears = (
        t.0 ++ q.0,
        q.1,
        t.2 ∙ ap (λ y. t.0 ++ y) q.2 ∙ sym (append_assoc t.0 q.0 q.1),
        hears_then IsOpenReply k [] (front ++ ahead) (front ++ bytes) t.0 q.0 t.3.2 (reply_inside k n front ahead bytes q.0 few t.3.1 q.3),
        q.4,
      );
    })

pub reply_lost : (a b c : Side) (from at to : LinkView) (n : ℕ) (ahead left method : List ℕ) (place : Place) (why : Loss) (some answering : Bool) → n ≤ 5
    → answering ≡ (some || nat_lt 0 n) → Dropping a b from at n ahead → HeadStep b c at to ahead left (heard.Lost why some)
    → ReplyStep a c from to method place left (tried.Failed (lost_by why answering))
reply_lost a b c from at to n ahead left method place why some answering few is d t =
    let k : ℕ = from.number in
    let F : List Act → Type 0 = FailsToReply k (lost_by why answering) in
    record {
      late = late_of why;
      of_wait = late_of_wait why;
      waited = subst (λ (v : Bill). Waited a c v F) (lost_bill why answering)
          (waited_map (joined a b c from at to n ahead left (heard.Lost why some) (loss_bill None why) d t.waited) (λ l p. loses k n ahead left why some answering l few is p));
      link = link_then from at to d.link t.link;
      cause = lost_cause a c from to why answering (loss_within a b c c from at to None why (goes_waited d.waited) (goes_same c) d.link t.cause);
    }

-- the code is that of a final reply, or below
pub final_head : (code : ℕ) → 200 ≤ code → is_final code ≡ true
final_head code o = le-leb 200 code o

pub early_head : (code : ℕ) → code < 200 → is_final code ≡ false
early_head code o = grind (arith, nat_tests)
