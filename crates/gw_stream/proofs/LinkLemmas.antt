-- Steps of a wait for a link, over plain variables.
use Rattle.std.proofs.Common.{ℕ, ◌≡◌, ◌≤◌, ◌+◌, false, List, [], ◌++◌, take, Option, Some, None, refl, ap, sym, subst, ◌∙◌, arith}
use Rattle.std.proofs.lemmas.List.{length-take-le}
use Rattle.gw_wire.specs.declared.traits.Read.TheVariants as reads
use Rattle.gw_wire.specs.declared.traits.Write.TheVariants as writes
use Rattle.gw_wire.specs.declared.values.Act.{Act}
use Rattle.gw_wire.specs.Acts.{Logs}
use Rattle.gw_wire.specs.Causes.{Rose, RoseBy}
use Rattle.gw_wire.specs.Link.{LinkView, LinkLater}
use Rattle.gw_wire.specs.ReadStep.{ReadStep}
use Rattle.gw_wire.specs.Stretch.{Acts, Then}
use Rattle.gw_wire.specs.Wire.{WireView, Later, NowStep}
use Rattle.gw_wire.specs.WriteStep.{WriteStep}
use Rattle.gw_wire.proofs.Facts.{later_same, later_then, link_same, link_then, Logs-none, Logs-quiet}
use Rattle.gw_account.specs.Work.{Bill, Work, At, Seq, both, free, Only}
use Rattle.gw_account.proofs.Facts.{went_map, went_then}
use Rattle.gw_stream.specs.declared.waits.Heard.TheVariants as heard
use Rattle.gw_stream.specs.declared.waits.Limit.{Limit}
use Rattle.gw_stream.specs.declared.waits.Loss.TheVariants as loss
use Rattle.gw_stream.specs.declared.waits.Stop.{Stop}
use Rattle.gw_stream.specs.declared.waits.Stop.TheVariants as stops
use Rattle.gw_stream.specs.declared.waits.Taken.TheVariants as taken
use Rattle.gw_stream.specs.Guard.{GuardView, GuardGoes, IsBefore}
use Rattle.gw_stream.specs.Watched.{Watched}
use Rattle.gw_stream.specs.Waits.{Side, side, Waited, CheckStep, HeardStep, StopCause, TakenStep, stop_bill}
use Rattle.gw_stream.proofs.WatchedLemmas.{watched_ask, watched_look, watched_now, watched_same, watched_then}

-- ---- waits one after another

only_then : (u v : Bill) (P Q : List Act → Type 0) (a : At) (w : Work) → Seq (Only u P) (Only v Q) a w → Only (both u v) (Then P Q) a w
only_then u v P Q a w s =
    let x : Work = s.0 in
    let y : Work = s.1 in (
      ap (λ (z : Work). z.made) s.2 ∙ ap (λ (m : List _). m ++ y.made) s.3.0 ∙ s.4.0,
      ap (λ (z : Work). z.bill) s.2 ∙ ap (λ (b : Bill). both b y.bill) s.3.1 ∙ ap (λ (b : Bill). both u b) s.4.1,
      (x.acts, y.acts, ap (λ (z : Work). z.acts) s.2, s.3.2, s.4.2),
    )

pub waited_then : {a b c : Side} {u v : Bill} {P Q : List Act → Type 0} → Waited a b u P → Waited b c v Q → Waited a c (both u v) (Then P Q)
waited_then {a} {b} {c} {u} {v} {P} {Q} p q = record {
  went = went_map (went_then p.went q.went) (only_then u v P Q);
  watched = watched_then a.wire b.wire c.wire a.guard b.guard c.guard q.went.wired.later.moment p.watched q.watched;
}

pub waited_map : {a b : Side} {u : Bill} {P Q : List Act → Type 0} → Waited a b u P → ((l : List Act) → P l → Q l) → Waited a b u Q
waited_map {a} {b} {u} {P} {Q} p f = record {
  went = went_map p.went (λ x w o. (o.0, o.1, f w.acts o.2));
  watched = p.watched;
}

-- the acts, and what was paid for them
pub waited_by : (a b : Side) (millis ticks : ℕ) (acts : List Act) → Watched a.wire b.wire a.guard b.guard → Later a.wire b.wire → b.wire.aged ≡ false
    → Logs a.wire.log b.wire.log acts → a.wire.moment + millis ≤ b.wire.moment → RoseBy ticks a.wire.ticks b.wire.ticks
    → Waited a b (record free { millis = millis; ticks = ticks }) (Acts acts)
waited_by a b millis ticks acts watched later fresh log late rose = record {
  went = record {
    work = record { acts = acts; made = []; bill = record free { millis = millis; ticks = ticks } };
    fresh = fresh;
    wired = record {
      later = later;
      log = log;
      dials = (let le = later.dial_faults in omega arith);
      millis = late;
      ticks = rose;
      rests = (let le = later.rests in omega arith);
      said = later.moment;
    };
    made = refl;
    rests = refl;
    does = λ x. (refl, refl, refl);
  };
  watched = watched;
}

pub waited_free : (a b : Side) (acts : List Act) → Watched a.wire b.wire a.guard b.guard → Later a.wire b.wire → b.wire.aged ≡ false
    → Logs a.wire.log b.wire.log acts → Waited a b free (Acts acts)
waited_free a b acts watched later fresh log =
    waited_by a b 0 0 acts watched later fresh log (let le = later.moment in omega arith) (let le = later.ticks in omega arith)

-- nothing was done
pub waited_same : (w : WireView) (g : GuardView) → w.aged ≡ false → g.last ≤ w.moment → Waited (side w g) (side w g) free (Acts [])
waited_same w g fresh le = waited_free (side w g) (side w g) [] (watched_same w g le) (later_same w) fresh (Logs-none w.log)

-- ---- a wait that goes on

-- since it began nothing was logged, and so many ticks passed
pub record Waiting (old new : Side) (from to : LinkView) (since now ticks : ℕ) : Type 0 where
  pub watched : Watched old.wire new.wire old.guard new.guard
  pub later : Later old.wire new.wire
  pub link : LinkLater from to
  pub fresh : new.wire.aged ≡ false
  pub waited : RoseBy ticks old.wire.ticks new.wire.ticks
  pub log : Logs old.wire.log new.wire.log []
  pub read : new.wire.moment ≡ now
  pub began : old.wire.moment ≡ since

pub waiting_begins : (w : WireView) (g : GuardView) (l : LinkView) (since : ℕ) → w.aged ≡ false → w.moment ≡ since → g.last ≤ since
    → Waiting (side w g) (side w g) l l since since 0
waiting_begins w g l since fresh read le = record {
  watched = watched_same w g (omega (arith, read));
  later = later_same w;
  link = link_same l;
  fresh = fresh;
  waited = omega arith;
  log = Logs-none w.log;
  read = read;
  began = read;
}

pub waiting_looked : (w0 w : WireView) (g0 g : GuardView) (from to : LinkView) (since now ticks : ℕ) → Waiting (side w0 g0) (side w g) from to since now ticks → g.last ≤ now
waiting_looked w0 w g0 g from to since now ticks p = let s = p.watched.goes.seen in let r = p.read in omega arith

pub waiting_since : (w0 w : WireView) (g0 g : GuardView) (from to : LinkView) (since now ticks : ℕ) → Waiting (side w0 g0) (side w g) from to since now ticks → since ≤ now
waiting_since w0 w g0 g from to since now ticks p = let l = p.later.moment in let r = p.read in let b = p.began in omega arith

look_here : (w : WireView) (g h : GuardView) (limit : Limit) (now : ℕ) (found : Option Stop) → w.moment ≡ now → CheckStep g h limit now found → GuardGoes g h w.moment
look_here w g h limit now found read c = subst (λ (m : ℕ). GuardGoes g h m) (sym read) c.goes

-- a look, a read or a write that had a tick, and the clock
pub waiting_ticked : (w0 w x y : WireView) (g0 g h : GuardView) (from at to : LinkView) (limit : Limit) (now next ticks : ℕ)
    → Waiting (side w0 g0) (side w g) from at limit.since now ticks → CheckStep g h limit now None
    → Later w x → LinkLater at to → Rose w.ticks x.ticks → Logs w.log x.log [] → x.asked ≡ w.moment → NowStep x y next
    → Waiting (side w0 g0) (side y h) from to limit.since next (ticks + 1)
waiting_ticked w0 w x y g0 g h from at to limit now next ticks p c later link rose log asked n =
    let seen : Watched w0 w g0 h = watched_look w0 w g0 g h p.watched (look_here w g h limit now None p.read c) in
    let before : IsBefore h.deadline w.moment = subst (λ (m : ℕ). IsBefore h.deadline m) (sym p.read) (subst (λ (d : Option ℕ). IsBefore d now) (sym c.goes.deadline) c.cause) in
    record {
      watched = watched_now w0 x y g0 h (watched_ask w0 w x g0 h seen before later.moment asked) n.later.moment n.asked;
      later = later_then w0 w y p.later (later_then w x y later n.later);
      link = link_then from at to p.link link;
      fresh = n.aged;
      waited = (let a = p.waited in let b = n.later.ticks in omega arith);
      log = Logs-quiet w0.log x.log y.log [] (Logs-quiet w0.log w.log x.log [] p.log log) n.log;
      read = n.given;
      began = p.began;
    }

-- ---- how a wait ends

-- by a read or a write that was no tick
pub ends_asked : (w0 w x : WireView) (g0 g h : GuardView) (from at : LinkView) (limit : Limit) (now ticks : ℕ) (acts : List Act)
    → Waiting (side w0 g0) (side w g) from at limit.since now ticks → CheckStep g h limit now None
    → Later w x → x.aged ≡ false → Logs w.log x.log acts → x.asked ≡ w.moment → Waited (side w0 g0) (side x h) free (Acts acts)
ends_asked w0 w x g0 g h from at limit now ticks acts p c later fresh log asked =
    let seen : Watched w0 w g0 h = watched_look w0 w g0 g h p.watched (look_here w g h limit now None p.read c) in
    let before : IsBefore h.deadline w.moment = subst (λ (m : ℕ). IsBefore h.deadline m) (sym p.read) (subst (λ (d : Option ℕ). IsBefore d now) (sym c.goes.deadline) c.cause) in
    waited_free (side w0 g0) (side x h) acts (watched_ask w0 w x g0 h seen before later.moment asked) (later_then w0 w x p.later later) fresh
    (Logs-quiet w0.log w.log x.log acts p.log log)

-- by a look
stopped_free : (w0 w : WireView) (g0 g h : GuardView) (from at : LinkView) (since now ticks : ℕ) → Waiting (side w0 g0) (side w g) from at since now ticks
    → GuardGoes g h w.moment → Waited (side w0 g0) (side w h) free (Acts [])
stopped_free w0 w g0 g h from at since now ticks p goes =
    waited_free (side w0 g0) (side w h) [] (watched_look w0 w g0 g h p.watched goes) p.later p.fresh p.log

pub rose_from : (a b c : ℕ) → a ≤ b → Rose b c → Rose a c
rose_from a b c le rose = omega arith

pub record Stopped (old new : Side) (silence : Option ℕ) (why : Stop) : Type 0 where
  pub waited : Waited old new (stop_bill silence why) (Acts [])
  pub cause : StopCause old.guard new.guard new.wire.moment silence why

pub stopped_by_look : (w0 w : WireView) (g0 g h : GuardView) (from at : LinkView) (limit : Limit) (now ticks : ℕ) (why : Stop)
    → Waiting (side w0 g0) (side w g) from at limit.since now ticks → CheckStep g h limit now (Some why) → Stopped (side w0 g0) (side w h) limit.silence why
stopped_by_look w0 w g0 g h from at limit now ticks stops.Cancelled p c = record {
  waited = stopped_free w0 w g0 g h from at limit.since now ticks p (look_here w g h limit now (Some stops.Cancelled) p.read c);
  cause = rose_from g0.cancels g.cancels h.cancels p.watched.goes.cancels c.cause;
}
stopped_by_look w0 w g0 g h from at limit now ticks stops.Deadline p c = record {
  waited = stopped_free w0 w g0 g h from at limit.since now ticks p (look_here w g h limit now (Some stops.Deadline) p.read c);
  cause = rw (← p.watched.goes.deadline, p.read) c.cause;
}
stopped_by_look w0 w g0 g h from at limit now ticks stops.Silent p c =
    let late : w0.moment + (c.cause.0 + 1) ≤ w.moment = let k = c.cause.2 in let r = p.read in let b = p.began in omega arith in
    let paid : Waited (side w0 g0) (side w h) (record free { millis = c.cause.0 + 1; ticks = 0 }) (Acts []) =
    waited_by (side w0 g0) (side w h) (c.cause.0 + 1) 0 [] (watched_look w0 w g0 g h p.watched (look_here w g h limit now (Some stops.Silent) p.read c)) p.later p.fresh
    p.log late (let le = p.later.ticks in omega arith)
    in
    record {
      waited = rw c.cause.1 paid;
      cause = (c.cause.0, c.cause.1);
    }
stopped_by_look w0 w g0 g h from at limit now ticks stops.Ticks p c = absurd c.cause

pub stopped_by_ticks : (w0 w : WireView) (g0 g : GuardView) (from at : LinkView) (silence : Option ℕ) (since now ticks : ℕ) → ticks ≡ 1000000
    → Waiting (side w0 g0) (side w g) from at since now ticks → Stopped (side w0 g0) (side w g) silence stops.Ticks
stopped_by_ticks w0 w g0 g from at silence since now ticks all p = record {
  waited = waited_by (side w0 g0) (side w g) 0 1000000 [] p.watched p.later p.fresh p.log (let le = p.later.moment in omega arith)
      (subst (λ (n : ℕ). RoseBy n w0.ticks w.ticks) all p.waited);
  cause = tt;
}

-- ---- a wait for bytes

pub heard_stopped : (a b : Side) (from to : LinkView) (silence : Option ℕ) (why : Stop) → LinkLater from to → Stopped a b silence why
    → HeardStep a b from to [] silence (heard.Lost (loss.Stopped why))
heard_stopped a b from to silence why link s = record { waited = s.waited; link = link; cause = (s.cause, refl) }

pub heard_got : (w0 w x : WireView) (g0 g h : GuardView) (from at to : LinkView) (limit : Limit) (now ticks : ℕ) (buffer : List ℕ) (n : ℕ)
    → Waiting (side w0 g0) (side w g) from at limit.since now ticks → CheckStep g h limit now None → ReadStep w x at to buffer (reads.Got n)
    → HeardStep (side w0 g0) (side x h) from to (take n buffer) limit.silence heard.Got
heard_got w0 w x g0 g h from at to limit now ticks buffer n p c r = record {
  waited = rw (← p.link.number) (ends_asked w0 w x g0 g h from at limit now ticks _ p c r.later r.aged r.log r.asked);
  link = link_then from at to p.link r.link;
  cause = rw (length-take-le n buffer r.cause.1) r.cause.0;
}

pub heard_end : (w0 w x : WireView) (g0 g h : GuardView) (from at to : LinkView) (limit : Limit) (now ticks : ℕ) (buffer : List ℕ)
    → Waiting (side w0 g0) (side w g) from at limit.since now ticks → CheckStep g h limit now None → ReadStep w x at to buffer reads.End
    → HeardStep (side w0 g0) (side x h) from to [] limit.silence (heard.Lost loss.End)
heard_end w0 w x g0 g h from at to limit now ticks buffer p c r = record {
  waited = rw (← p.link.number) (ends_asked w0 w x g0 g h from at limit now ticks _ p c r.later r.aged r.log r.asked);
  link = link_then from at to p.link r.link;
  cause = (rose_from from.ends at.ends to.ends p.link.ends r.cause, refl);
}

pub heard_failed : (w0 w x : WireView) (g0 g h : GuardView) (from at to : LinkView) (limit : Limit) (now ticks : ℕ) (buffer : List ℕ)
    → Waiting (side w0 g0) (side w g) from at limit.since now ticks → CheckStep g h limit now None → ReadStep w x at to buffer reads.Failed
    → HeardStep (side w0 g0) (side x h) from to [] limit.silence (heard.Lost loss.Failed)
heard_failed w0 w x g0 g h from at to limit now ticks buffer p c r = record {
  waited = rw (← p.link.number) (ends_asked w0 w x g0 g h from at limit now ticks _ p c r.later r.aged r.log r.asked);
  link = link_then from at to p.link r.link;
  cause = (rose_from from.faults at.faults to.faults p.link.faults r.cause, refl);
}

-- ---- a wait for a link to take bytes

pub taken_stopped : (a b : Side) (from to : LinkView) (bytes : List ℕ) (silence : Option ℕ) (why : Stop) → LinkLater from to → Stopped a b silence why
    → TakenStep a b from to bytes silence (taken.Stopped why)
taken_stopped a b from to bytes silence why link s = record { waited = s.waited; link = link; cause = s.cause }

pub taken_some : (w0 w x : WireView) (g0 g h : GuardView) (from at to : LinkView) (limit : Limit) (now ticks : ℕ) (bytes : List ℕ) (n : ℕ)
    → Waiting (side w0 g0) (side w g) from at limit.since now ticks → CheckStep g h limit now None → WriteStep w x at to bytes (writes.Took n)
    → TakenStep (side w0 g0) (side x h) from to bytes limit.silence (taken.Some n)
taken_some w0 w x g0 g h from at to limit now ticks bytes n p c r = record {
  waited = rw (← p.link.number) (ends_asked w0 w x g0 g h from at limit now ticks _ p c r.later r.aged r.log r.asked);
  link = link_then from at to p.link r.link;
  cause = r.cause;
}

pub taken_failed : (w0 w x : WireView) (g0 g h : GuardView) (from at to : LinkView) (limit : Limit) (now ticks : ℕ) (bytes : List ℕ)
    → Waiting (side w0 g0) (side w g) from at limit.since now ticks → CheckStep g h limit now None → WriteStep w x at to bytes writes.Failed
    → TakenStep (side w0 g0) (side x h) from to bytes limit.silence taken.Failed
taken_failed w0 w x g0 g h from at to limit now ticks bytes p c r = record {
  waited = rw (← p.link.number) (ends_asked w0 w x g0 g h from at limit now ticks _ p c r.later r.aged r.log r.asked);
  link = link_then from at to p.link r.link;
  cause = rose_from from.faults at.faults to.faults p.link.faults r.cause;
}
