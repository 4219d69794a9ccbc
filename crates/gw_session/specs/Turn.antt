-- One turn of a session: a request is heard and answered.
use Rattle.std.specs.Prelude.{ℕ, ◌≡◌, Bool, true, false, ◌||◌, List, codes, Option, Some}
use Rattle.gw_head.specs.declared.error.HeadError.{HeadError}
use Rattle.gw_head.specs.declared.framing.Framing.{Framing}
use Rattle.gw_head.specs.declared.request.RequestHead.{RequestHead}
use Rattle.gw_proxy.specs.declared.own.Own.{Own}
use Rattle.gw_proxy.specs.declared.own.Own.TheVariants.{Plain, Stopped as OwnStop}
use Rattle.gw_retry.specs.declared.Failure.TheVariants as failure
use Rattle.gw_routes.specs.declared.table.Table.{Table}
use Rattle.gw_account.specs.Work.{Work, At, Idle, Only, Seq, free}
use Rattle.gw_stream.specs.declared.waits.Loss.{Loss}
use Rattle.gw_stream.specs.declared.waits.Loss.TheVariants as loss
use Rattle.gw_stream.specs.declared.waits.Stop.TheVariants as stopped
use Rattle.gw_stream.specs.Relaying.{relayed_by}
use Rattle.gw_stream.specs.declared.relaying.Relayed.{Relayed}
use Rattle.gw_stream.specs.declared.relaying.Relayed.TheVariants as relayed
use Rattle.gw_transport.specs.declared.attempts.Attempted.TheVariants as attempted
use Rattle.gw_session.specs.declared.end.Ended.{Ended}
use Rattle.gw_session.specs.declared.end.Ended.TheVariants as ended
use Rattle.gw_session.specs.declared.end.Why.{Why}
use Rattle.gw_session.specs.declared.end.Why.TheVariants as why
use Rattle.gw_session.specs.Ending.{has_body, lost_end, why_after}
use Rattle.gw_session.specs.Hearing.{Arrives, HearsPart, HearsRefused, HearsUnkept, HearsWhole, Misses}
use Rattle.gw_session.specs.Passing.{Answer, Halt, Halts, Outcome, Owes, Passage, PassesKept, PassesOn, halt_next, is_kept, is_late, passage_next, target_of}
use Rattle.gw_session.specs.Replies.{Said, SaysOwn, for_fault, is_shut, refusal_code, said_next}
use Rattle.gw_session.specs.Routing.{IsOwn, IsPassed, IsStop, LeadsTo, Target}
use Rattle.gw_session.specs.Stand.{Spot, is_last, line_of}

-- What is done with a request whose head is whole.
pub data Deed : Type 0 where
  -- memory was wanting before anything was done
  Undecided : Deed
  -- the gateway answers by itself
  Owned : Own → Said → Deed
  -- the route of this number shuts the gate
  Stopped : ℕ → Said → Deed
  -- by the route of this number it would be passed on, but its body doesn't come whole
  Halted : ℕ → Halt → Deed
  -- it is passed on by the route of this number, with a body that was read whole or as it comes
  PassedKept : ℕ → Passage → Deed
  PassedOn : ℕ → Passage → Deed

-- why the link closes behind a reply before which nothing of the request's body was read
abbrev pub unread_reason : Spot → RequestHead → Bool → Option Why
unread_reason p head shut = why_after head (is_last p.number) shut (has_body head.framing)

-- what follows it
abbrev pub deed_next : Spot → RequestHead → Deed → Option Ended
deed_next p head Undecided = Some ended.NoMemory
deed_next p head (Owned own said) = said_next (unread_reason p head) said
deed_next p head (Stopped number said) = said_next (unread_reason p head) said
deed_next p head (Halted number halt) = halt_next halt
deed_next p head (PassedKept number g) = passage_next p head g
deed_next p head (PassedOn number g) = passage_next p head g

-- by the route of this number, a body of this framing is read whole before its request is sent
abbrev pub Keeps : Table → ℕ → Framing → Type 0
Keeps table number framing = (target : Target) × LeadsTo table number target × (is_kept framing target.buffer ≡ true)

-- what it is right for, and what is done: `kept` is ahead before, and `left` behind it
abbrev pub Deeds : Spot → RequestHead → List ℕ → List ℕ → Deed → At → Work → Type 0
Deeds p head kept left Undecided a w = Idle a w
Deeds p head kept left (Owned own said) a w =
    IsOwn p.table head own × (left ≡ kept) × SaysOwn (line_of p) (unread_reason p head) own head.method head.old said a w
Deeds p head kept left (Stopped number said) a w =
    IsStop p.table head number × (left ≡ kept) × (is_shut said ≡ true) × SaysOwn (line_of p) (unread_reason p head) OwnStop head.method head.old said a w
Deeds p head kept left (Halted number halt) a w = IsPassed p.table head number × Keeps p.table number head.framing × Halts (line_of p) head kept halt a w
Deeds p head kept left (PassedKept number g) a w =
    IsPassed p.table head number × LeadsTo p.table number (target_of g) × Owes (is_late g) g.timeout (PassesKept p head kept left g) a w
Deeds p head kept left (PassedOn number g) a w =
    IsPassed p.table head number × LeadsTo p.table number (target_of g) × Owes (is_late g) g.timeout (PassesOn p head kept left g) a w

-- ---- a whole turn

pub data Turn : Type 0 where
  -- no request came
  Missed : Loss → Turn
  -- it came behind the shut gate
  Refused : Turn
  -- its head wasn't whole
  Parted : Loss → Turn
  -- memory was wanting for its head
  Unkept : Turn
  -- its head was refused
  Faulty : HeadError → Said → Turn
  -- its head was heard whole
  Heard : List ℕ → RequestHead → Deed → Turn

abbrev pub turn_next : Spot → Turn → Option Ended
turn_next p (Missed why) = Some (lost_end why)
turn_next p Refused = Some (ended.Closed why.Refused)
turn_next p (Parted why) = Some (lost_end why)
turn_next p Unkept = Some ended.NoMemory
turn_next p (Faulty error said) = said_next for_fault said
turn_next p (Heard text head deed) = deed_next p head deed

-- what is done in a request that began, of which these bytes are ahead
abbrev pub Requested : Spot → List ℕ → List ℕ → Turn → At → Work → Type 0
Requested p ahead left (Parted why) a w = HearsPart (line_of p) ahead why a w
Requested p ahead left Unkept a w = HearsUnkept p.client ahead a w
Requested p ahead left (Faulty error said) a w =
    Seq (HearsRefused p.client ahead error) (SaysOwn (line_of p) for_fault (Plain (refusal_code error)) (codes "GET") false said) a w
Requested p ahead left (Heard text head deed) a w =
    (behind : List ℕ) × Seq (HearsWhole p.client ahead text head behind) (Deeds p head behind left deed) a w
Requested p ahead left _ a w = ⊥

-- and in a whole turn: a request begins where its first byte is there and the gate was open
abbrev pub Begins : Spot → List ℕ → (List ℕ → At → Work → Type 0) → At → Work → Type 0
Begins p kept P a w = (ahead : List ℕ) × Seq (Only free (Arrives p.client kept ahead)) (P ahead) a w

abbrev pub Turned : Spot → List ℕ → List ℕ → Turn → At → Work → Type 0
Turned p kept left (Missed why) a w = Misses (line_of p) kept why a w
Turned p kept left Refused a w = (ahead : List ℕ) × Only free (Arrives p.client kept ahead) a w
Turned p kept left turn a w = Begins p kept (λ ahead. Requested p ahead left turn) a w

-- ---- what is asked of turns

-- how many requests began: none where none came, or where the gate was shut
abbrev pub begun_of : Turn → ℕ
begun_of (Missed why) = 0
begun_of Refused = 0
begun_of turn = 1

-- the request shut the gate
abbrev pub deed_stops : Deed → Bool
deed_stops (Stopped number said) = true
deed_stops _ = false

abbrev pub stops : Turn → Bool
stops (Heard text head deed) = deed_stops deed
stops _ = false

-- its trip, or the passing on of its reply, was cancelled
abbrev pub is_cancelled_loss : Loss → Bool
is_cancelled_loss (loss.Stopped stopped.Cancelled) = true
is_cancelled_loss _ = false

abbrev pub is_cancelled_relay : Relayed → Bool
is_cancelled_relay (relayed.Lost why) = is_cancelled_loss why
is_cancelled_relay (relayed.WriteStopped stopped.Cancelled) = true
is_cancelled_relay _ = false

abbrev pub is_cancelled_answer : Answer → Bool
is_cancelled_answer (Answer.Lost why said) = is_cancelled_loss why
is_cancelled_answer (Answer.Streamed r came) = is_cancelled_relay (relayed_by came r.sent)
is_cancelled_answer _ = false

abbrev pub is_cancelled_outcome : Outcome → Bool
is_cancelled_outcome (attempted.Failed failure.Cancelled) = true
is_cancelled_outcome _ = false

abbrev pub is_cancelled_passage : Passage → Bool
is_cancelled_passage g = is_cancelled_outcome g.trip.outcome || is_cancelled_answer g.answer

abbrev pub is_cancelled_deed : Deed → Bool
is_cancelled_deed (PassedKept number g) = is_cancelled_passage g
is_cancelled_deed (PassedOn number g) = is_cancelled_passage g
is_cancelled_deed _ = false

abbrev pub is_cancelled : Turn → Bool
is_cancelled (Heard text head deed) = is_cancelled_deed deed
is_cancelled _ = false
