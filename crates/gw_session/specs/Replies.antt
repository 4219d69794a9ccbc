-- Replies to the client: their texts, and how far they were written.
use Rattle.std.specs.Prelude.{ℕ, Bool, true, List, [], ◌∷◌, Option, Some, is_some}
use Rattle.gw_head.specs.declared.error.HeadError.{HeadError}
use Rattle.gw_head.specs.declared.error.HeadError.TheVariants as head
use Rattle.gw_proxy.specs.OutReply.{OwnReply}
use Rattle.gw_proxy.specs.declared.own.Own.{Own}
use Rattle.gw_account.specs.Work.{Bill, Work, At, Idle, Only}
use Rattle.gw_stream.specs.declared.waits.Loss.{Loss}
use Rattle.gw_stream.specs.declared.waits.Loss.TheVariants as loss
use Rattle.gw_stream.specs.declared.waits.Sent.{Sent}
use Rattle.gw_stream.specs.declared.waits.Sent.TheVariants as sent
use Rattle.gw_stream.specs.declared.waits.Stop.{Stop}
use Rattle.gw_stream.specs.declared.waits.Stop.TheVariants as stops
use Rattle.gw_stream.specs.Waits.{Says, sent_bill}
use Rattle.gw_session.specs.declared.end.Ended.{Ended}
use Rattle.gw_session.specs.declared.end.Ended.TheVariants as ended
use Rattle.gw_session.specs.declared.end.Why.{Why}
use Rattle.gw_session.specs.declared.end.Why.TheVariants as why
use Rattle.gw_session.specs.Ending.{sent_next}
use Rattle.gw_session.specs.Stand.{Line}

-- the code that answers a head which fails this check (RFC 9110, section 15; RFC 6585, section 5)
abbrev pub refusal_code : HeadError → ℕ
refusal_code head.Malformed = 400
refusal_code head.TooLong = 431
refusal_code head.TooManyFields = 431
refusal_code head.Version = 505
refusal_code head.HostCount = 400
refusal_code head.BadLength = 400
refusal_code head.LengthAndCoding = 400
refusal_code head.Coding = 501
refusal_code head.BadEscape = 400
refusal_code head.Connect = 501
refusal_code head.Expectation = 417

-- a wait for a client inside a request ends by its silence alone, not by a guard
abbrev pub IsSilence : Stop → Type 0
IsSilence stops.Cancelled = ⊥
IsSilence stops.Deadline = ⊥
IsSilence stops.Silent = Unit {0}
IsSilence stops.Ticks = Unit {0}

abbrev pub IsOfClient : Sent → Type 0
IsOfClient sent.All = Unit {0}
IsOfClient (sent.Failed some) = Unit {0}
IsOfClient (sent.Stopped s) = IsSilence s

abbrev pub IsLossOfClient : Loss → Type 0
IsLossOfClient loss.End = Unit {0}
IsLossOfClient loss.Failed = Unit {0}
IsLossOfClient (loss.Stopped s) = IsSilence s

-- a text that a client was written, and how that ended
abbrev pub Writes : Line → List ℕ → Sent → At → Work → Type 0
Writes l text result a w = IsOfClient result × Only (sent_bill (Some l.silence) result) (Says l.client text result) a w

-- A reply: the moment at which it was made, whether the gate had been seen shut by then, its text, and how its writing
-- ended.
pub record Reply : Type 0 where
  pub moment : ℕ
  pub shut : Bool
  pub text : List ℕ
  pub sent : Sent

-- none, since memory was wanting for it; or one that was written so far
pub data Said : Type 0 where
  Unsaid : Said
  SaidBy : Reply → Said

-- as it was made, the gate had been seen shut
abbrev pub is_shut : Said → Bool
is_shut Unsaid = true
is_shut (SaidBy r) = r.shut

-- what a reply costs, whose moment is one of the session's
abbrev pub dated : ℕ → Bill → Bill
dated moment bill = record bill { said = moment ∷ [] }

abbrev pub Speaks : Line → Reply → At → Work → Type 0
Speaks l r a w = IsOfClient r.sent × Only (dated r.moment (sent_bill (Some l.silence) r.sent)) (Says l.client r.text r.sent) a w

-- a reply with a text that is right for its moment and for whether the link closes behind it
abbrev pub SaysBy : Line → (Bool → Option Why) → (Bool → ℕ → List ℕ → Type 0) → Said → At → Work → Type 0
SaysBy l reason IsText Unsaid a w = Idle a w
SaysBy l reason IsText (SaidBy r) a w = IsText (is_some (reason r.shut)) r.moment r.text × Speaks l r a w

-- the gateway's own reply to a request with this method, of HTTP/1.0 or not
abbrev pub SaysOwn : Line → (Bool → Option Why) → Own → List ℕ → Bool → Said → At → Work → Type 0
SaysOwn l reason own method old = SaysBy l reason (λ close moment text. OwnReply own method old close moment text)

-- what follows a reply
abbrev pub said_next : (Bool → Option Why) → Said → Option Ended
said_next reason Unsaid = Some ended.NoMemory
said_next reason (SaidBy r) = sent_next r.sent (reason r.shut)

-- a request with a fault is answered, and the link closes
abbrev pub for_fault : Bool → Option Why
for_fault shut = Some why.BadRequest
