-- Waits behind a reading of the clock, and rows of writes.
use Rattle.std.proofs.Common.{ℕ, ◌≡◌, ◌≤◌, ◌+◌, ◌-◌, nat_lt, Bool, false, List, [], ◌∷◌, ◌++◌, length, take, drop, refl, ap, sym, subst, ◌∙◌, arith, append-nil, length-drop}
use Rattle.std.proofs.lemmas.Bool.{eq-eqb}
use Rattle.std.proofs.lemmas.List.{length-take-le, take-append-drop}
use Rattle.std.proofs.lemmas.List.Elements.{All-nil, All-push}
use Rattle.std.proofs.lemmas.Grind.{flat_map-append}
use Rattle.std.proofs.Math.Seq.{take-add, take-length}
use Rattle.gw_wire.specs.declared.values.Act.{Act}
use Rattle.gw_wire.specs.declared.values.Act.TheVariants.{Wrote, WriteFailed}
use Rattle.gw_wire.specs.Acts.{written_of, bytes_written}
use Rattle.gw_wire.specs.Link.{LinkView, LinkLater}
use Rattle.gw_wire.specs.Stretch.{Acts, Then}
use Rattle.gw_wire.specs.Wire.{WireView, NowStep}
use Rattle.gw_wire.proofs.Facts.{link_same, link_then}
use Rattle.gw_account.specs.Work.{Bill, free}
use Rattle.gw_account.proofs.Facts.{free_both}
use Rattle.gw_stream.specs.declared.waits.Heard.{Heard}
use Rattle.gw_stream.specs.declared.waits.Heard.TheVariants as heard
use Rattle.gw_stream.specs.declared.waits.Loss.TheVariants as loss
use Rattle.gw_stream.specs.declared.waits.Sent.{Sent}
use Rattle.gw_stream.specs.declared.waits.Sent.TheVariants as sent
use Rattle.gw_stream.specs.declared.waits.Stop.{Stop}
use Rattle.gw_stream.specs.declared.waits.Stop.TheVariants as stops
use Rattle.gw_stream.specs.declared.waits.Taken.TheVariants as taken
use Rattle.gw_stream.specs.Guard.{GuardView}
use Rattle.gw_stream.specs.Waits.{Side, side, Waited, CountedStep, HeardCause, HeardStep, IsCounted, IsWriteOf, Says, SaysFront, SentStep, StopCause, TakenStep, Writes}
use Rattle.gw_stream.proofs.LinkLemmas.{rose_from, waited_free, waited_map, waited_same, waited_then}
use Rattle.gw_stream.proofs.WatchedLemmas.{watched_now, watched_same}

-- ---- behind calls that log nothing

quiet_front : (P : List Act → Type 0) (l : List Act) → Then (Acts []) P l → P l
quiet_front P l t = subst P (sym (t.2 ∙ ap (λ f. f ++ t.1) t.3)) t.4

pub waited_behind : {a b c : Side} {u : Bill} {P : List Act → Type 0} → Waited a b free (Acts []) → Waited b c u P → Waited a c u P
waited_behind {a} {b} {c} {u} {P} p q =
    subst (λ (v : Bill). Waited a c v P) (free_both u) (waited_map (waited_then p q) (quiet_front P))

pub waited_now : (w x : WireView) (g : GuardView) (now : ℕ) → g.last ≤ w.moment → NowStep w x now → Waited (side w g) (side x g) free (Acts [])
waited_now w x g now le n =
    waited_free (side w g) (side x g) [] (watched_now w w x g g (watched_same w g le) n.later.moment n.asked) n.later n.aged n.log

-- the guard as the clock leaves it
pub looked_now : (w x : WireView) (g : GuardView) (now : ℕ) → g.last ≤ w.moment → NowStep w x now → g.last ≤ now
looked_now w x g now le n = let l = n.later.moment in let m = n.given in omega arith

heard_cause : (w x : WireView) (g : GuardView) (b : Side) (from to : LinkView) (piece : List ℕ) (silence : _) (result : Heard)
    → HeardCause (side x g) b from to piece silence result → HeardCause (side w g) b from to piece silence result
heard_cause w x g b from to piece silence heard.Got c = c
heard_cause w x g b from to piece silence (heard.Lost loss.End) c = c
heard_cause w x g b from to piece silence (heard.Lost loss.Failed) c = c
heard_cause w x g b from to piece silence (heard.Lost (loss.Stopped why)) c = c

pub heard_behind : (w x : WireView) (g : GuardView) (b : Side) (from to : LinkView) (piece : List ℕ) (silence : _) (result : Heard) (now : ℕ) → g.last ≤ w.moment
    → NowStep w x now → HeardStep (side x g) b from to piece silence result → HeardStep (side w g) b from to piece silence result
heard_behind w x g b from to piece silence result now le n h = record {
  waited = waited_behind (waited_now w x g now le n) h.waited;
  link = h.link;
  cause = heard_cause w x g b from to piece silence result h.cause;
}

-- ---- rows of writes

pub writes_none : (k : ℕ) → Writes k [] []
writes_none k = record { only = All-nil (IsWriteOf k); all = refl }

pub writes_more : (k : ℕ) (front piece : List ℕ) (acts : List Act) → Writes k front acts → Writes k (front ++ piece) (acts ++ Wrote k piece ∷ [])
writes_more k front piece acts w = record {
  only = All-push (IsWriteOf k) acts (Wrote k piece) w.only (piece, refl);
  all = flat_map-append (written_of k) acts (Wrote k piece ∷ []) ∙ ap (λ a. a ++ bytes_written k (Wrote k piece ∷ [])) w.all
      ∙ ap (λ b. front ++ b) (rw (eq-eqb k k refl) (append-nil piece));
}

-- a write of many bytes that goes on: a front of so many of all was taken
pub record Sending (old new : Side) (from to : LinkView) (front : List ℕ) (all count : ℕ) : Type 0 where
  pub within : count ≤ all
  pub waited : Waited old new free (Writes from.number front)
  pub link : LinkLater from to

pub sending_begins : (w : WireView) (g : GuardView) (l : LinkView) (bytes : List ℕ) → w.aged ≡ false → g.last ≤ w.moment
    → Sending (side w g) (side w g) l l (take 0 bytes) (length bytes) 0
sending_begins w g l bytes fresh le = record {
  within = omega arith;
  waited = waited_map (waited_same w g fresh le) (λ acts none. subst (Writes l.number []) (sym none) (writes_none l.number));
  link = link_same l;
}

pub sending_looked : (w0 w : WireView) (g0 g : GuardView) (from at : LinkView) (front : List ℕ) (all count : ℕ)
    → Sending (side w0 g0) (side w g) from at front all count → g.last ≤ w.moment
sending_looked w0 w g0 g from at front all count s = s.waited.watched.goes.seen

-- a write behind a reading of the clock
pub offered : (w0 w x y : WireView) (g0 g h : GuardView) (from at : LinkView) (front : List ℕ) (all count now : ℕ) (u : Bill) (P : List Act → Type 0)
    → Sending (side w0 g0) (side w g) from at front all count → NowStep w x now → Waited (side x g) (side y h) u P
    → Waited (side w0 g0) (side y h) u (Then (Writes from.number front) P)
offered w0 w x y g0 g h from at front all count now u P s n t =
    subst (λ (v : Bill). Waited (side w0 g0) (side y h) v (Then (Writes from.number front) P)) (free_both u)
    (waited_then s.waited (waited_behind (waited_now w x g now (sending_looked w0 w g0 g from at front all count s) n) t))

pub sending_more : (w0 w x y : WireView) (g0 g h : GuardView) (from at to : LinkView) (bytes rest : List ℕ) (count now : ℕ) (silence : _) (n : ℕ) → rest ≡ drop count bytes
    → Sending (side w0 g0) (side w g) from at (take count bytes) (length bytes) count → NowStep w x now
    → TakenStep (side x g) (side y h) at to rest silence (taken.Some n)
    → Sending (side w0 g0) (side y h) from to (take (count + n) bytes) (length bytes) (count + n)
sending_more w0 w x y g0 g h from at to bytes rest count now silence n is s c t =
    let left : length rest ≡ length bytes - count = ap length is ∙ length-drop count bytes in
    let piece : take n rest ≡ take n (drop count bytes) = ap (λ r. take n r) is in
    let taken = offered w0 w x y g0 g h from at (take count bytes) (length bytes) count now free (Acts (Wrote at.number (take n rest) ∷ [])) s c t.waited in
    record {
      within = (let a = s.within in let b = t.cause.1 in omega arith);
      waited = rw (take-add count n bytes, ← piece)
          (waited_map taken (λ l p. rw (p.2, p.4, s.link.number) (writes_more from.number (take count bytes) (take n rest) p.0 p.3)));
      link = link_then from at to s.link t.link;
    }

pub counted_all : (a b : Side) (from to : LinkView) (bytes : List ℕ) (count : ℕ) (silence : _) → length bytes ≤ count
    → Sending a b from to (take count bytes) (length bytes) count → CountedStep a b from to bytes count silence sent.All
counted_all a b from to bytes count silence le s =
    record { within = s.within; counted = (let w = s.within in omega arith); waited = s.waited; link = s.link; cause = tt }

pub counted_failed : (w0 w x y : WireView) (g0 g h : GuardView) (from at to : LinkView) (bytes rest : List ℕ) (count now : ℕ) (silence : _) (some : Bool) → some ≡ nat_lt 0 count
    → Sending (side w0 g0) (side w g) from at (take count bytes) (length bytes) count → NowStep w x now
    → TakenStep (side x g) (side y h) at to rest silence taken.Failed → CountedStep (side w0 g0) (side y h) from to bytes count silence (sent.Failed some)
counted_failed w0 w x y g0 g h from at to bytes rest count now silence some is s c t =
    let taken = offered w0 w x y g0 g h from at (take count bytes) (length bytes) count now free (Acts (WriteFailed at.number ∷ [])) s c t.waited in
    record {
      within = s.within;
      counted = is;
      waited = waited_map taken (λ l p. (p.0, p.1, p.2, p.3, rw (← s.link.number) p.4));
      link = link_then from at to s.link t.link;
      cause = rose_from from.faults at.faults to.faults s.link.faults t.cause;
    }

pub stop_cause : (g0 g h : GuardView) (moment : ℕ) (silence : _) (why : Stop) → g0.cancels ≤ g.cancels → g.deadline ≡ g0.deadline
    → StopCause g h moment silence why → StopCause g0 h moment silence why
stop_cause g0 g h moment silence stops.Cancelled le same c = rose_from g0.cancels g.cancels h.cancels le c
stop_cause g0 g h moment silence stops.Deadline le same c = rw (← same) c
stop_cause g0 g h moment silence stops.Silent le same c = c
stop_cause g0 g h moment silence stops.Ticks le same c = c

pub counted_stopped : (w0 w x y : WireView) (g0 g h : GuardView) (from at to : LinkView) (bytes rest : List ℕ) (count now : ℕ) (silence : _) (why : Stop)
    → Sending (side w0 g0) (side w g) from at (take count bytes) (length bytes) count → NowStep w x now
    → TakenStep (side x g) (side y h) at to rest silence (taken.Stopped why) → CountedStep (side w0 g0) (side y h) from to bytes count silence (sent.Stopped why)
counted_stopped w0 w x y g0 g h from at to bytes rest count now silence why s c t =
    let taken = offered w0 w x y g0 g h from at (take count bytes) (length bytes) count now _ (Acts []) s c t.waited in
    record {
      within = s.within;
      counted = tt;
      waited = waited_map taken (λ l p. subst (Writes from.number (take count bytes)) (sym (p.2 ∙ ap (λ b. p.0 ++ b) p.4 ∙ append-nil p.0)) p.3);
      link = link_then from at to s.link t.link;
      cause = stop_cause g0 g h y.moment silence why s.waited.watched.goes.cancels s.waited.watched.goes.deadline t.cause;
    }

-- what was counted is what was said
says_front : (k : ℕ) (bytes : List ℕ) (count : ℕ) (said : Sent) (acts : List Act) → count ≤ length bytes → IsCounted bytes count said
    → SaysFront k (take count bytes) said acts → Says k bytes said acts
says_front k bytes count sent.All acts le is w = subst (λ (d : List ℕ). Writes k d acts) (ap (λ n. take n bytes) is ∙ take-length bytes) w
says_front k bytes count (sent.Failed some) acts le is w = (
  take count bytes,
  drop count bytes,
  sym (take-append-drop count bytes),
  is ∙ ap (λ n. nat_lt 0 n) (sym (length-take-le count bytes le)),
  w,
)
says_front k bytes count (sent.Stopped why) acts le is w = (take count bytes, drop count bytes, sym (take-append-drop count bytes), w)

pub sent_of : (a b : Side) (from to : LinkView) (bytes : List ℕ) (count : ℕ) (silence : _) (said : Sent) → CountedStep a b from to bytes count silence said
    → SentStep a b from to bytes silence said
sent_of a b from to bytes count silence said s = record {
  waited = waited_map s.waited (λ l w. says_front from.number bytes count said l s.within s.counted w);
  link = s.link;
  cause = s.cause;
}

-- what `&bytes[count..]` is
pub rest_of : (bytes : List ℕ) (count : ℕ) → take (length bytes - count) (drop count bytes) ≡ drop count bytes
rest_of bytes count = rw (← length-drop count bytes) (take-length (drop count bytes))
