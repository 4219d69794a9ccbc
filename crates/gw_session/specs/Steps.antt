-- The steps of a session at its client.
use Rattle.std.specs.Prelude.{ℕ, ◌≡◌, Bool, true, false, List, Option, Some, None}
use Rattle.gw_wire.specs.Causes.{Rose}
use Rattle.gw_wire.specs.Link.{LinkView, LinkLater}
use Rattle.gw_wire.specs.Wire.{WireView}
use Rattle.gw_head.specs.declared.request.RequestHead.{RequestHead}
use Rattle.gw_account.specs.Did.{Went}
use Rattle.gw_account.specs.Work.{Work, At}
use Rattle.gw_proxy.specs.declared.own.Own.{Own}
use Rattle.gw_proxy.specs.declared.own.Own.TheVariants.{Plain}
use Rattle.gw_stream.specs.declared.waits.Sent.{Sent}
use Rattle.gw_stream.specs.declared.waits.Sent.TheVariants as sent
use Rattle.gw_session.specs.declared.end.Ended.{Ended}
use Rattle.gw_session.specs.declared.hearing.Request.{Request}
use Rattle.gw_session.specs.declared.hearing.Request.TheVariants as request
use Rattle.gw_session.specs.Ending.{lost_end, why_after}
use Rattle.gw_session.specs.Hearing.{HearsPart, HearsRefused, HearsUnkept, HearsWhole}
use Rattle.gw_session.specs.Replies.{IsOfClient, Said, SaysOwn, Writes, for_fault, is_shut, said_next}
use Rattle.gw_session.specs.Stand.{EndCause, Goes, Line, Spot, Stand, is_last, line, line_of}

-- ---- hearing

abbrev pub HeardBy : Line → List ℕ → List ℕ → Request → At → Work → Type 0
HeardBy l kept left (request.Head head) a w = (text : List ℕ) × HearsWhole l.client kept text head left a w
HeardBy l kept left (request.Refused error) a w = HearsRefused l.client kept error a w
HeardBy l kept left (request.Lost why) a w = HearsPart l kept why a w
HeardBy l kept left request.NoMemory a w = HearsUnkept l.client kept a w

abbrev pub heard_next : Request → Option Ended
heard_next (request.Lost why) = Some (lost_end why)
heard_next _ = None

pub record HeadStep (old new : WireView) (from to : LinkView) (kept left : List ℕ) (silence : ℕ) (result : Request) : Type 0 where
  pub went : Went old new (HeardBy (line from.number silence) kept left result)
  pub link : LinkLater from to
  pub cause : EndCause from to false (heard_next result)

-- ---- saying

abbrev pub WrittenCause : LinkView → LinkView → Sent → Type 0
WrittenCause from to (sent.Failed some) = Rose from.faults to.faults
WrittenCause from to _ = Unit {0}

pub record WrittenStep (old new : WireView) (from to : LinkView) (silence : ℕ) (text : List ℕ) (result : Sent) : Type 0 where
  pub went : Went old new (Writes (line from.number silence) text result)
  pub link : LinkLater from to
  pub cause : WrittenCause from to result
  pub of_client : IsOfClient result

pub record OwnStep (old new : Stand) (p : Spot) (head : RequestHead) (unread : Bool) (own : Own) (result : Option Ended) : Type 0 where
  pub said : Said
  pub went : Went old.wire new.wire (SaysOwn (line_of p) (λ shut. why_after head (is_last p.number) shut unread) own head.method head.old said)
  pub next_is : result ≡ said_next (λ shut. why_after head (is_last p.number) shut unread) said
  pub kept : old.seats.gate.view.seen_shut ≡ true → is_shut said ≡ true
  pub goes : Goes old new p old.wire.moment false result

pub record FaultStep (old new : WireView) (from to : LinkView) (silence code : ℕ) (method : List ℕ) (is_old : Bool) (result : Option Ended) : Type 0 where
  pub said : Said
  pub went : Went old new (SaysOwn (line from.number silence) for_fault (Plain code) method is_old said)
  pub next_is : result ≡ said_next for_fault said
  pub link : LinkLater from to
  pub cause : EndCause from to false result
