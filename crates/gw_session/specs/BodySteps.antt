-- The steps of a body that is read whole before its request is sent.
use Rattle.std.specs.Prelude.{ℕ, ◌≡◌, false, List, Option, Some, None}
use Rattle.gw_body.specs.declared.place.Place.{Place}
use Rattle.gw_body.specs.declared.place.Place.TheVariants.{Counted}
use Rattle.gw_body.specs.Places as places
use Rattle.gw_head.specs.declared.framing.Framing.{Framing}
use Rattle.gw_head.specs.declared.request.RequestHead.{RequestHead}
use Rattle.gw_wire.specs.Link.{LinkView, LinkLater}
use Rattle.gw_wire.specs.Wire.{WireView}
use Rattle.gw_account.specs.Did.{Went}
use Rattle.gw_account.specs.Work.{Work, At, Only, free}
use Rattle.gw_stream.specs.declared.relaying.Incoming.{Incoming}
use Rattle.gw_stream.specs.Drawing.{Completes, Draws, Loses}
use Rattle.gw_stream.specs.Waits.{loss_bill}
use Rattle.gw_transport.specs.Sending.{IsKept}
use Rattle.gw_session.specs.declared.end.Ended.{Ended}
use Rattle.gw_session.specs.declared.end.Ended.TheVariants as ended
use Rattle.gw_session.specs.declared.gathering.Held.{Held}
use Rattle.gw_session.specs.declared.gathering.Held.TheVariants as held
use Rattle.gw_session.specs.Ending.{lost_end, sent_next}
use Rattle.gw_session.specs.Passing.{Halt, Halts, HearsBody}
use Rattle.gw_session.specs.Replies.{IsLossOfClient}
use Rattle.gw_session.specs.Stand.{EndCause, Line, line}

-- a body that is read whole has a length
abbrev pub IsCounted : Place → Type 0
IsCounted place = (n : ℕ) × (place ≡ Counted n)

abbrev pub GathersBy : Line → Incoming → Incoming → Held → At → Work → Type 0
GathersBy l from to (held.Whole body) a w = Only free (Completes l.client from.body from.inbox body to.body to.inbox) a w
GathersBy l from to (held.Untold s) a w = ⊥
GathersBy l from to (held.Lost why) a w =
    IsLossOfClient why × Only (loss_bill (Some l.silence) why) (λ acts. (d : List ℕ) × (new : Place) × Loses l.client from.body from.inbox d new why acts) a w
GathersBy l from to held.NoMemory a w =
    Only free (λ acts. (d : List ℕ) × (new : Place) × (left : List ℕ) × Draws l.client from.body from.inbox d new left acts) a w

abbrev pub held_next : Held → Option Ended
held_next (held.Lost why) = Some (lost_end why)
held_next _ = None

pub record GatherStep (old new : WireView) (from to : LinkView) (silence : ℕ) (before after : Incoming) (result : Held) : Type 0 where
  pub went : Went old new (GathersBy (line from.number silence) before after result)
  pub link : LinkLater from to
  pub cause : EndCause from to false (held_next result)

abbrev pub BodyBy : Line → RequestHead → List ℕ → List ℕ → Held → At → Work → Type 0
BodyBy l head kept left (held.Whole body) a w = HearsBody l.client head kept body left a w
BodyBy l head kept left (held.Untold s) a w = Halts l head kept (Halt.Untold s) a w
BodyBy l head kept left (held.Lost why) a w = Halts l head kept (Halt.Lost why) a w
BodyBy l head kept left held.NoMemory a w = Halts l head kept Halt.Unkept a w

-- how a session ends whose request's body doesn't come whole
abbrev pub body_next : Held → Option Ended
body_next (held.Whole body) = None
body_next (held.Untold s) = sent_next s None
body_next (held.Lost why) = Some (lost_end why)
body_next held.NoMemory = Some ended.NoMemory

-- a whole body has as many bytes as its framing says, and its reader is done
abbrev pub IsWhole : Framing → Held → Place → Type 0
IsWhole framing (held.Whole body) place = IsKept framing body × (place ≡ places.ended)
IsWhole framing _ place = Unit {0}

pub record BodyStep (old new : WireView) (from to : LinkView) (silence : ℕ) (head : RequestHead) (kept left : List ℕ) (result : Held) : Type 0 where
  pub went : Went old new (BodyBy (line from.number silence) head kept left result)
  pub link : LinkLater from to
  pub cause : EndCause from to false (body_next result)
