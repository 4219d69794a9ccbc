-- The steps of an answer behind a trip.
use Rattle.std.specs.Prelude.{ℕ, ◌≡◌, ◌+◌, Bool, false, List, Option, Some, None}
use Rattle.gw_wire.specs.Link.{LinkView, LinkLater}
use Rattle.gw_wire.specs.Wire.{WireView}
use Rattle.gw_head.specs.declared.request.RequestHead.{RequestHead}
use Rattle.gw_account.specs.Did.{Went}
use Rattle.gw_proxy.specs.OutRequest.{out_head_of}
use Rattle.gw_retry.specs.declared.Failure.{Failure}
use Rattle.gw_transport.specs.declared.attempts.Attempted.TheVariants as attempted
use Rattle.gw_transport.specs.declared.replying.End.{End}
use Rattle.gw_transport.specs.declared.replying.End.TheVariants as end
use Rattle.gw_session.specs.declared.end.Ended.{Ended}
use Rattle.gw_session.specs.declared.end.Why.{Why}
use Rattle.gw_session.specs.declared.errand.Errand.{Errand}
use Rattle.gw_session.specs.Passing.{Answer, AnswersFailure, AnswersOver, Outcome, answer_next, expects, is_kept, reason_of}
use Rattle.gw_session.specs.Routing.{IsPassed, LeadsTo}
use Rattle.gw_session.specs.Stand.{EndCause, Goes, Spot, Stand, line, line_of}

-- A request that is passed on by a route, which was routed at this moment: where it goes, how it is written, its deadline,
-- and whether its body is read whole first.
pub record IsErrand (p : Spot) (errand : Errand) (moment : ℕ) (deadline : Option ℕ) (kept : Bool) : Type 0 where
  pub number : ℕ
  pub base : List ℕ
  pub timeout : ℕ
  pub buffer : ℕ
  pub passed : IsPassed p.table errand.head.now number
  pub leads : LeadsTo p.table number
      (record { host = errand.order.host; backend = errand.order.addr.now; base = base; timeout = timeout; buffer = buffer })
  pub out : errand.order.out.now ≡ out_head_of errand.head.now base errand.order.addr.now p.peer
  pub upload : errand.upload ≡ record { expect = expects errand.head.now; continued = 0; client_ms = p.table.client_ms }
  pub deadline_is : deadline ≡ Some (moment + timeout)
  pub kept_is : is_kept errand.head.now.framing buffer ≡ kept

-- what follows an answer but for a trip that is over, which ended the session before
abbrev pub own_end : Outcome → Option Ended → Option Ended
own_end (attempted.Over (end.Body error)) result = result
own_end (attempted.Over _) result = None
own_end _ result = result

-- the answer behind a trip's failure
pub record FailureStep (old new : Stand) (p : Spot) (head : RequestHead) (unread : Bool) (why : Failure) (told : ℕ) (result : Option Ended) : Type 0 where
  pub answer : Answer
  pub went : Went old.wire new.wire (AnswersFailure p head (reason_of p head unread) why told answer)
  pub next_is : result ≡ answer_next (attempted.Failed why) (reason_of p head unread) answer
  pub goes : Goes old new p old.wire.moment false result

-- when a trip that is over ends the session so
abbrev pub OverCause : LinkView → LinkView → End → Option Ended → Type 0
OverCause from to (end.Body error) result = EndCause from to false result
OverCause from to _ result = Unit {0}

-- the answer behind a trip that is over
pub record OverStep (old new : WireView) (from to : LinkView) (silence : ℕ) (head : RequestHead) (e : End) (result : Option Ended) : Type 0 where
  pub answer : Answer
  pub went : (p : Spot) → line_of p ≡ line from.number silence → Went old new (AnswersOver p head e answer)
  pub next_is : (reason : Bool → Option Why) → result ≡ answer_next (attempted.Over e) reason answer
  pub link : LinkLater from to
  pub cause : OverCause from to e result
