-- Steps of an attempt with a kept body, over plain variables.
use Rattle.std.proofs.Common.{ℕ, ◌≡◌, ◌≤◌, arith, Some, Bool, true, false, List, ◌++◌, None, refl, ap, sym, subst, ◌∙◌, inl, inr}
use Rattle.gw_wire.specs.declared.values.Act.{Act}
use Rattle.gw_wire.specs.Link.{LinkView}
use Rattle.gw_wire.specs.Stretch.{Then}
use Rattle.gw_head.specs.declared.framing.Framing.TheVariants.{None as NoBody, Length, Chunked, ToEnd}
use Rattle.gw_body.specs.Written.{body_text}
use Rattle.gw_proxy.specs.declared.request.OutHead.{OutHead}
use Rattle.gw_proxy.specs.OutRequest.{request_text_of}
use Rattle.gw_account.specs.Work.{Bill, free}
use Rattle.gw_account.proofs.Facts.{free_both, went_map}
use Rattle.gw_stream.specs.declared.relaying.Incoming.{Incoming}
use Rattle.gw_stream.specs.declared.waits.Sent.TheVariants as sent
use Rattle.gw_stream.specs.declared.waits.Stop.{Stop}
use Rattle.gw_stream.specs.declared.waits.Stop.TheVariants as stops
use Rattle.gw_stream.specs.Guard.{GuardView}
use Rattle.gw_stream.specs.Waits.{Side, Says, SentStep, StopCause, Waited, Writes, stop_bill}
use Rattle.gw_stream.proofs.Facts.{waited_map, waited_then}
use Rattle.gw_transport.specs.declared.attempts.Tried.{Tried}
use Rattle.gw_transport.specs.declared.attempts.Tried.TheVariants as tried
use Rattle.gw_transport.specs.declared.replying.Begun.{Begun}
use Rattle.gw_transport.specs.declared.replying.End.{End}
use Rattle.gw_transport.specs.Attempts.{AttemptStep, TriedCause}
use Rattle.gw_transport.specs.Leasing.{Lateness}
use Rattle.gw_transport.specs.Replying.{IsOfWait, Replies, ReplyStep, failure_bill, stopped_by, tried_bill, unwritten}
use Rattle.gw_transport.specs.Sending.{Exchanges, ExchangesKept, IsKept, IsSameRequest, KeptView, Unsent, kept_view}
use Rattle.gw_transport.proofs.AttemptLemmas.{failure_from}

-- a cause stands where it is looked at from an earlier guard
pub tried_from : (f g h : GuardView) (moment : ℕ) (late : Lateness) (result : Tried Begun End) → f.cancels ≤ g.cancels → g.deadline ≡ f.deadline
    → TriedCause g h moment late result → TriedCause f h moment late result
tried_from f g h moment late (tried.Reply r) more same cause = tt
tried_from f g h moment late (tried.Failed why) more same cause = failure_from f g h moment moment late why more same (omega arith) cause
tried_from f g h moment late (tried.Over e) more same cause = tt

-- a kept body's text is its data
kept_text : (out : OutHead) (d : List ℕ) → IsKept out.framing d → request_text_of out d ≡ out.bytes ++ d
kept_text out d kept = elim out.framing as (λ f. IsKept f d → out.bytes ++ body_text f d ≡ out.bytes ++ d) [
  | NoBody ↦ λ k. refl
  | Length n ↦ λ k. refl
  | Chunked ↦ λ k. absurd k
  | ToEnd ↦ λ k. absurd k
] kept

same_request : (out : OutHead) (d : List ℕ) (old new : Incoming) (room now : ℕ) → now ≡ room → IsSameRequest (kept_view out d old room) (kept_view out d new now)
same_request out d old new room now same = record { out = refl; body = refl; room = same }

-- what an attempt's waits were is what it did
attempt_of : (a c : Side) (from to : KeptView) (k : ℕ) (result : Tried Begun End) (late : Lateness) → IsSameRequest from to → IsOfWait late
    → Waited a c (tried_bill late result) (Exchanges k (request_text_of from.out from.body) from.out.method to.place to.ahead result)
    → TriedCause a.guard c.guard c.wire.moment late result
    → AttemptStep a.wire c.wire a.guard c.guard (ExchangesKept from to k result) result
attempt_of a c from to k result late same of_wait p cause = record {
  late = late;
  went = went_map p.went (λ x w o. record { same = same; of_wait = of_wait; only = o });
  watched = p.watched;
  cause = cause;
}

pub attempt_answered : (a b c : Side) (from at to : LinkView) (out : OutHead) (d : List ℕ) (old new : Incoming) (room now : ℕ) (bytes : List ℕ) (result : Tried Begun End)
    → bytes ≡ out.bytes → IsKept out.framing d → now ≡ room → SentStep a b from at (bytes ++ d) None sent.All
    → ReplyStep b c at to out.method new.body new.inbox result
    → AttemptStep a.wire c.wire a.guard c.guard (ExchangesKept (kept_view out d old room) (kept_view out d new now) from.number result) result
attempt_answered a b c from at to out d old new room now bytes result is kept same s r =
    let k : ℕ = from.number in
    let text : List ℕ = request_text_of out d in
    let text_is : bytes ++ d ≡ text = ap (λ l. l ++ d) is ∙ sym (kept_text out d kept) in
    let T : List Act → Type 0 = Exchanges k text out.method new.body new.inbox result in
    let both = waited_then s.waited r.waited in
    attempt_of a c (kept_view out d old room) (kept_view out d new now) k result r.late (same_request out d old new room now same) r.of_wait
    (subst (λ (u : Bill). Waited a c u T) (free_both (tried_bill r.late result))
    (waited_map both (λ l (t : Then (Writes k (bytes ++ d)) (Replies at.number out.method new.body new.inbox result) l).
    inl (
      t.0,
      t.1,
      t.2,
      subst (λ (x : List ℕ). Writes k x t.0) text_is t.3,
      subst (λ (n : ℕ). Replies n out.method new.body new.inbox result t.1) s.link.number t.4,
    ))))
    (tried_from a.guard b.guard c.guard c.wire.moment r.late result s.waited.watched.goes.cancels s.waited.watched.goes.deadline r.cause)

failed_unsent : (k : ℕ) (text : List ℕ) (some : Bool) (l : List Act) → Says k text (sent.Failed some) l → Unsent k text (tried.Failed (unwritten some)) l
failed_unsent k text true l s = s
failed_unsent k text false l s = s

failed_bill : (some : Bool) → free ≡ failure_bill Lateness.ByDeadline (unwritten some)
failed_bill true = refl
failed_bill false = refl

pub failed_cause : (f h : GuardView) (moment : ℕ) (some : Bool) → TriedCause {R = Begun} {E = End} f h moment Lateness.ByDeadline (tried.Failed (unwritten some))
failed_cause f h moment true = tt
failed_cause f h moment false = tt

pub attempt_failed : (a b : Side) (from at : LinkView) (out : OutHead) (d : List ℕ) (old : Incoming) (room now : ℕ) (bytes : List ℕ) (some : Bool)
    → bytes ≡ out.bytes → IsKept out.framing d → now ≡ room → SentStep a b from at (bytes ++ d) None (sent.Failed some)
    → AttemptStep {R = Begun} {E = End} a.wire b.wire a.guard b.guard
    (ExchangesKept (kept_view out d old room) (kept_view out d old now) from.number (tried.Failed (unwritten some))) (tried.Failed (unwritten some))
attempt_failed a b from at out d old room now bytes some is kept same s =
    let k : ℕ = from.number in
    let text : List ℕ = request_text_of out d in
    let text_is : bytes ++ d ≡ text = ap (λ l. l ++ d) is ∙ sym (kept_text out d kept) in
    let r : Tried Begun End = tried.Failed (unwritten some) in
    let T : List Act → Type 0 = Exchanges k text out.method old.body old.inbox r in
    attempt_of a b (kept_view out d old room) (kept_view out d old now) k r Lateness.ByDeadline (same_request out d old old room now same) tt
    (subst (λ (u : Bill). Waited a b u T) (failed_bill some)
    (waited_map s.waited (λ l p. inr (failed_unsent k text some l (subst (λ (x : List ℕ). Says k x (sent.Failed some) l) text_is p)))))
    (failed_cause a.guard b.guard b.wire.moment some)

-- ---- a wait for the link that was given up

abbrev pub late_of_stop : Stop → Lateness
late_of_stop stops.Cancelled = Lateness.ByDeadline
late_of_stop stops.Deadline = Lateness.ByDeadline
late_of_stop stops.Silent = Lateness.ByDeadline
late_of_stop stops.Ticks = Lateness.ByTicks

pub stop_of_wait : (why : Stop) → IsOfWait (late_of_stop why)
stop_of_wait stops.Cancelled = tt
stop_of_wait stops.Deadline = tt
stop_of_wait stops.Silent = tt
stop_of_wait stops.Ticks = tt

pub stopped_bill : (why : Stop) → stop_bill None why ≡ failure_bill (late_of_stop why) (stopped_by why)
stopped_bill stops.Cancelled = refl
stopped_bill stops.Deadline = refl
stopped_bill stops.Silent = refl
stopped_bill stops.Ticks = refl

none_some : (n : ℕ) → None ≡ Some n → ⊥
none_some n e = cc

pub stopped_cause : (f h : GuardView) (moment : ℕ) (why : Stop) → StopCause f h moment None why
    → TriedCause {R = Begun} {E = End} f h moment (late_of_stop why) (tried.Failed (stopped_by why))
stopped_cause f h moment stops.Cancelled cause = cause
stopped_cause f h moment stops.Deadline cause = cause
stopped_cause f h moment stops.Silent cause = absurd (none_some cause.0 cause.1)
stopped_cause f h moment stops.Ticks cause = tt

stopped_unsent : (k : ℕ) (text : List ℕ) (why : Stop) (l : List Act) → Says k text (sent.Stopped why) l → Unsent k text (tried.Failed (stopped_by why)) l
stopped_unsent k text stops.Cancelled l s = s
stopped_unsent k text stops.Deadline l s = s
stopped_unsent k text stops.Silent l s = s
stopped_unsent k text stops.Ticks l s = s

pub attempt_stopped : (a b : Side) (from at : LinkView) (out : OutHead) (d : List ℕ) (old : Incoming) (room now : ℕ) (bytes : List ℕ) (why : Stop)
    → bytes ≡ out.bytes → IsKept out.framing d → now ≡ room → SentStep a b from at (bytes ++ d) None (sent.Stopped why)
    → AttemptStep {R = Begun} {E = End} a.wire b.wire a.guard b.guard
    (ExchangesKept (kept_view out d old room) (kept_view out d old now) from.number (tried.Failed (stopped_by why))) (tried.Failed (stopped_by why))
attempt_stopped a b from at out d old room now bytes why is kept same s =
    let k : ℕ = from.number in
    let text : List ℕ = request_text_of out d in
    let text_is : bytes ++ d ≡ text = ap (λ l. l ++ d) is ∙ sym (kept_text out d kept) in
    let r : Tried Begun End = tried.Failed (stopped_by why) in
    let T : List Act → Type 0 = Exchanges k text out.method old.body old.inbox r in
    attempt_of a b (kept_view out d old room) (kept_view out d old now) k r (late_of_stop why) (same_request out d old old room now same) (stop_of_wait why)
    (subst (λ (u : Bill). Waited a b u T) (stopped_bill why)
    (waited_map s.waited (λ l p. inr (stopped_unsent k text why l (subst (λ (x : List ℕ). Says k x (sent.Stopped why) l) text_is p)))))
    (stopped_cause a.guard b.guard b.wire.moment why s.cause)
