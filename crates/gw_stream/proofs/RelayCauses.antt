-- When each answer of a relay may come, over plain variables.
use Rattle.std.proofs.Common.{ℕ, ◌≡◌, ◌≤◌, Bool, List, Option, Some, None, refl, sym, subst, arith}
use Rattle.gw_wire.specs.declared.values.Act.{Act}
use Rattle.gw_wire.specs.Causes.{Rose}
use Rattle.gw_wire.specs.Link.{LinkView, LinkLater}
use Rattle.gw_account.specs.Work.{Bill}
use Rattle.gw_stream.specs.declared.relaying.Relayed.{Relayed}
use Rattle.gw_stream.specs.declared.relaying.Relayed.TheVariants as relayed
use Rattle.gw_stream.specs.declared.relaying.Silences.{Silences}
use Rattle.gw_stream.specs.declared.waits.Loss.{Loss}
use Rattle.gw_stream.specs.declared.waits.Loss.TheVariants as loss
use Rattle.gw_stream.specs.declared.waits.Sent.{Sent}
use Rattle.gw_stream.specs.declared.waits.Sent.TheVariants as sent
use Rattle.gw_stream.specs.declared.waits.Stop.{Stop}
use Rattle.gw_stream.specs.declared.waits.Stop.TheVariants as stops
use Rattle.gw_stream.specs.Guard.{IsDue}
use Rattle.gw_stream.specs.Relaying.{Came, RelayCause, relayed_of}
use Rattle.gw_stream.specs.RelaySteps.{LastStep, RoomStep, ended_by, Loaded}
use Rattle.gw_stream.specs.Waits.{Side, LossCause, SentCause, StopCause, Waited}
use Rattle.gw_stream.proofs.LinkLemmas.{rose_from}

-- what a stretch leaves as it was, or only raises
pub record Goes (old new : Side) : Type 0 where
  pub cancels : old.guard.cancels ≤ new.guard.cancels
  pub deadline : new.guard.deadline ≡ old.guard.deadline
  pub moment : old.wire.moment ≤ new.wire.moment

due_later : (d : Option ℕ) (m n : ℕ) → m ≤ n → IsDue d m → IsDue d n
due_later None m n le due = due
due_later (Some d) m n le due = omega (arith, le, due)

rose_to : (a b c : ℕ) → b ≤ c → Rose a b → Rose a c
rose_to a b c le rose = omega arith

pub stop_within : (a b c d : Side) (silence : Option ℕ) (why : Stop) → Goes a b → Goes c d → StopCause b.guard c.guard c.wire.moment silence why
    → StopCause a.guard d.guard d.wire.moment silence why
stop_within a b c d silence stops.Cancelled p q cause =
    rose_to a.guard.cancels c.guard.cancels d.guard.cancels q.cancels (rose_from a.guard.cancels b.guard.cancels c.guard.cancels p.cancels cause)
stop_within a b c d silence stops.Deadline p q cause =
    due_later a.guard.deadline c.wire.moment d.wire.moment q.moment (subst (λ (o : Option ℕ). IsDue o c.wire.moment) p.deadline cause)
stop_within a b c d silence stops.Silent p q cause = cause
stop_within a b c d silence stops.Ticks p q cause = cause

pub loss_within : (a b c d : Side) (from mid to : LinkView) (silence : Option ℕ) (why : Loss) → Goes a b → Goes c d → LinkLater from mid
    → LossCause b c mid to silence why → LossCause a d from to silence why
loss_within a b c d from mid to silence loss.End p q later cause = rose_from from.ends mid.ends to.ends later.ends cause
loss_within a b c d from mid to silence loss.Failed p q later cause = rose_from from.faults mid.faults to.faults later.faults cause
loss_within a b c d from mid to silence (loss.Stopped why) p q later cause = stop_within a b c d silence why p q cause

pub goes_waited : {a b : Side} {u : Bill} {P : List Act → Type 0} → Waited a b u P → Goes a b
goes_waited {a} {b} {u} {P} w =
    record { cancels = w.watched.goes.cancels; deadline = w.watched.goes.deadline; moment = w.went.wired.later.moment }

-- a stretch that changes nothing
pub goes_same : (a : Side) → Goes a a
goes_same a = record { cancels = omega arith; deadline = refl; moment = omega arith }

-- a write that didn't go
sent_within : (a b c : Side) (source source_now from mid to : LinkView) (silences : Silences) (stop : Relayed) (some : Bool) (said : Sent) → Goes a b → LinkLater from mid
    → RelayCause a c source source_now from to silences stop → SentCause b c mid to silences.target said
    → RelayCause a c source source_now from to silences (ended_by some stop said)
sent_within a b c source source_now from mid to silences stop some sent.All p later cause sends = cause
sent_within a b c source source_now from mid to silences stop some (sent.Failed part) p later cause sends = rose_from from.faults mid.faults to.faults later.faults sends
sent_within a b c source source_now from mid to silences stop some (sent.Stopped why) p later cause sends = stop_within a b c c silences.target why p (goes_same c) sends

pub last_cause : (a b c : Side) (source source_now from mid to : LinkView) (silences : Silences) (before : Loaded) (stop result : Relayed) → Goes a b → LinkLater from mid
    → RelayCause a c source source_now from to silences stop → LastStep b c mid to before silences.target stop result
    → RelayCause a c source source_now from to silences result
last_cause a b c source source_now from mid to silences before stop result p later cause m =
    subst (λ (r : Relayed). RelayCause a c source source_now from to silences r) (sym m.result_is)
    (sent_within a b c source source_now from mid to silences stop before.some m.said p later cause m.sends.cause)

pub lost_last : (a b c d : Side) (source source_mid source_now from mid to : LinkView) (silences : Silences) (before : Loaded) (why : Loss) (result : Relayed) → Goes a b → Goes a c → Goes c d
    → LinkLater source source_mid → LinkLater from mid → LossCause b c source_mid source_now silences.source why
    → LastStep c d mid to before silences.target (relayed.Lost why) result → RelayCause a d source source_now from to silences result
lost_last a b c d source source_mid source_now from mid to silences before why result p r q later along cause m =
    last_cause a c d source source_now from mid to silences before (relayed.Lost why) result r along
    (loss_within a b c d source source_mid source_now silences.source why p q later cause) m

pub room_cause : (a b c : Side) (source source_now from mid to : LinkView) (silences : Silences) (before after : Loaded) (some : Bool) (said : Sent) → Goes a b → LinkLater from mid
    → RoomStep b c mid to before after silences.target said → RelayCause a c source source_now from to silences (ended_by some (relayed_of Came.Inside) said)
room_cause a b c source source_now from mid to silences before after some said p later m =
    sent_within a b c source source_now from mid to silences relayed.Spent some said p later tt m.sends.cause
