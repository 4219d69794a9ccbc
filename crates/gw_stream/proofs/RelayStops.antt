-- How a relay stops behind a pull, over plain variables.
use Rattle.std.proofs.Common.{ℕ, ◌≡◌, ◌≤◌, Bool, List, length, Option, Some, None, refl, sym, subst, ◌∙◌, arith}
use Rattle.gw_wire.specs.Link.{LinkView, LinkLater}
use Rattle.gw_body.specs.declared.place.Place.{Place}
use Rattle.gw_stream.specs.declared.drawing.Pull.{Pull}
use Rattle.gw_stream.specs.declared.drawing.Pull.TheVariants as pulled
use Rattle.gw_stream.specs.declared.relaying.Relayed.{Relayed}
use Rattle.gw_stream.specs.declared.relaying.Relayed.TheVariants as relayed
use Rattle.gw_stream.specs.declared.relaying.Silences.{Silences}
use Rattle.gw_stream.specs.Drawing.{PullCause}
use Rattle.gw_stream.specs.Filling.{FillStep, Passing, passing}
use Rattle.gw_stream.specs.Outbox.{OutView}
use Rattle.gw_stream.specs.RelaySteps.{LastStep, StopsSo, loaded}
use Rattle.gw_stream.specs.Relaying.{Came, RelayCause, RelayStep, incoming, relayed_of}
use Rattle.gw_stream.specs.Waits.{Side}
use Rattle.gw_stream.proofs.ComesLemmas.{GoesOn, came_of}
use Rattle.gw_stream.proofs.RelayCauses.{Goes, goes_waited, last_cause, lost_last}
use Rattle.gw_stream.proofs.RelayEnds.{Ready, Stopping, relay_ended, stopping_bad, stopping_done, stopping_lost}
use Rattle.gw_stream.proofs.RelayLemmas.{Relaying}

none_some : (r : Relayed) → Some r ≡ None → ⊥
none_some r e = cc

some_is : (r s : Relayed) → Some r ≡ Some s → r ≡ s
some_is r s e = grind arith

-- what a pull that stops the relay left to be written
pub stopping_so : (a b c : Side) (s t link : ℕ) (silence : Option ℕ) (before : Passing) (at next : Place) (ahead left : List ℕ) (out after closed : OutView) (some : Bool) (p : Pull) (stop : Relayed)
    → link ≡ s → length out.begun ≤ 8192 → Relaying a b s t before (passing at ahead out) some
    → FillStep b c link (passing at ahead out) (passing next left after) silence p → StopsSo p after closed (Some stop)
    → Stopping a c s t silence before (incoming next left) closed (came_of p) some × (stop ≡ relayed_of (came_of p))
stopping_so a b c s t link silence before at next ahead left out after closed some (pulled.Data n) stop same most r f so = absurd (none_some stop so.0)
stopping_so a b c s t link silence before at next ahead left out after closed some pulled.More stop same most r f so = absurd (none_some stop so.0)
stopping_so a b c s t link silence before at next ahead left out after closed some pulled.Done stop same most r f so =
    (stopping_done a b c s t link silence before at next ahead left out after closed some same most r f so.1, some_is stop relayed.Whole so.0)
stopping_so a b c s t link silence before at next ahead left out after closed some (pulled.Bad error) stop same most r f so = (
  subst (λ (o : OutView). Stopping a c s t silence before (incoming next left) o (Came.Bad error) some) (sym so.1)
      (stopping_bad a b c s t link silence before at next ahead left out after some error same r f),
  some_is stop (relayed.Bad error) so.0,
)
stopping_so a b c s t link silence before at next ahead left out after closed some (pulled.Lost why) stop same most r f so = (
  subst (λ (o : OutView). Stopping a c s t silence before (incoming next left) o (Came.Lost why) some) (sym so.1)
      (stopping_lost a b c s t link silence before at next ahead left out after some why same r f),
  some_is stop (relayed.Lost why) so.0,
)

pub relay_stops : (a b c d : Side) (s link : ℕ) (target from to : LinkView) (silences : Silences) (before : Passing) (at next : Place) (ahead left : List ℕ) (out after closed : OutView) (some : Bool)
    → (p : Pull) (stop result : Relayed) → link ≡ s → Ready a b s target from before at ahead out some
    → FillStep b c link (passing at ahead out) (passing next left after) silences.source p → StopsSo p after closed (Some stop)
    → LastStep c d from to (loaded closed some) silences.target stop result
    → RelayStep a d s target.number silences before (incoming next left) result × (closed.size ≡ before.out.size)
relay_stops a b c d s link target from to silences before at next ahead left out after closed some p stop result same k f so m =
    let less = k.less in
    let w = stopping_so a b c s target.number link silences.source before at next ahead left out after closed some p stop same (omega (arith, less)) k.relaying f so in (
      relay_ended a c d s target.number from to silences before (incoming next left) closed (came_of p) some result k.later.number w.0
          (subst (λ (r : Relayed). LastStep c d from to (loaded closed some) silences.target r result) w.1 m),
      w.0.size,
    )

-- when it may
stop_cause : (a b c d : Side) (source source_mid source_now from mid to : LinkView) (silences : Silences) (closed : OutView) (some : Bool) (p : Pull) (stop result : Relayed)
    → Goes a b → Goes a c → Goes c d → LinkLater source source_mid → LinkLater from mid → stop ≡ relayed_of (came_of p)
    → PullCause b c source_mid source_now silences.source p → LastStep c d mid to (loaded closed some) silences.target stop result
    → RelayCause a d source source_now from to silences result
stop_cause a b c d source source_mid source_now from mid to silences closed some p stop result ab ac cd later along is cause m =
    by_pull p (subst (λ (r : Relayed). LastStep c d mid to (loaded closed some) silences.target r result) is m) cause
  where
    by_pull : (q : Pull) → LastStep c d mid to (loaded closed some) silences.target (relayed_of (came_of q)) result → PullCause b c source_mid source_now silences.source q
        → RelayCause a d source source_now from to silences result
    by_pull (pulled.Data n) l k = last_cause a c d source source_now from mid to silences (loaded closed some) relayed.Spent result ac along tt l
    by_pull pulled.More l k = last_cause a c d source source_now from mid to silences (loaded closed some) relayed.Spent result ac along tt l
    by_pull pulled.Done l k = last_cause a c d source source_now from mid to silences (loaded closed some) relayed.Whole result ac along tt l
    by_pull (pulled.Bad error) l k = last_cause a c d source source_now from mid to silences (loaded closed some) (relayed.Bad error) result ac along tt l
    by_pull (pulled.Lost why) l k = lost_last a b c d source source_mid source_now from mid to silences (loaded closed some) why result ab ac cd later along k l

pub relay_stop_cause : (a b c d : Side) (source source_mid source_now target from to : LinkView) (silences : Silences) (before : Passing) (at next : Place) (ahead left : List ℕ) (out after closed : OutView)
    → (some : Bool) (p : Pull) (stop result : Relayed) → LinkLater source source_mid → Ready a b source.number target from before at ahead out some
    → FillStep b c source_mid.number (passing at ahead out) (passing next left after) silences.source p → StopsSo p after closed (Some stop)
    → PullCause b c source_mid source_now silences.source p → LastStep c d from to (loaded closed some) silences.target stop result
    → RelayCause a d source source_now target to silences result
relay_stop_cause a b c d source source_mid source_now target from to silences before at next ahead left out after closed some p stop result later k f so cause m =
    let less = k.less in
    let w = stopping_so a b c source.number target.number source_mid.number silences.source before at next ahead left out after closed some p stop later.number (omega (arith, less)) k.relaying f so in
    stop_cause a b c d source source_mid source_now target from to silences closed some p stop result (goes_waited k.relaying.waited) (goes_waited w.0.waited) (goes_waited m.sends.waited)
    later k.later w.1 cause m

-- a relay that goes on
pub goes_so : (p : Pull) (after kept : OutView) (result : Option Relayed) → result ≡ None → StopsSo p after kept result → GoesOn p × (kept ≡ after)
goes_so (pulled.Data n) after kept result none so = (refl, so.1)
goes_so pulled.More after kept result none so = (refl, so.1)
goes_so pulled.Done after kept result none so = absurd (none_some relayed.Whole (sym so.0 ∙ none))
goes_so (pulled.Bad error) after kept result none so = absurd (none_some (relayed.Bad error) (sym so.0 ∙ none))
goes_so (pulled.Lost why) after kept result none so = absurd (none_some (relayed.Lost why) (sym so.0 ∙ none))
