-- An attempt with a body that is kept: its request is written whole, and then its reply is awaited.
use Rattle.std.specs.Prelude.{ℕ, ◌≡◌, ◌⊎◌, true, false, List, [], length}
use Rattle.gw_wire.specs.declared.values.Act.{Act}
use Rattle.gw_wire.specs.Stretch.{Then}
use Rattle.gw_head.specs.declared.framing.Framing.{Framing}
use Rattle.gw_head.specs.declared.framing.Framing.TheVariants.{None as NoBody, Length, Chunked, ToEnd}
use Rattle.gw_body.specs.declared.place.Place.{Place}
use Rattle.gw_proxy.specs.declared.request.OutHead.{OutHead}
use Rattle.gw_proxy.specs.OutRequest.{request_text_of}
use Rattle.gw_retry.specs.declared.Failure.TheVariants as failure
use Rattle.gw_account.specs.Work.{Work, At, Only}
use Rattle.gw_stream.specs.declared.relaying.Incoming.{Incoming}
use Rattle.gw_stream.specs.declared.waits.Sent.TheVariants as sent
use Rattle.gw_stream.specs.declared.waits.Stop.TheVariants as stops
use Rattle.gw_stream.specs.Waits.{Says, Writes}
use Rattle.gw_transport.specs.declared.attempts.Tried.{Tried}
use Rattle.gw_transport.specs.declared.attempts.Tried.TheVariants as tried
use Rattle.gw_transport.specs.declared.replying.Begun.{Begun}
use Rattle.gw_transport.specs.declared.replying.End.{End}
use Rattle.gw_transport.specs.Leasing.{Lateness}
use Rattle.gw_transport.specs.Replying.{IsOfWait, Replies, tried_bill}

-- what a link took of a request that it didn't take whole
abbrev pub Unsent : ℕ → List ℕ → Tried Begun End → List Act → Type 0
Unsent link text (tried.Reply r) acts = ⊥
Unsent link text (tried.Failed failure.NothingWritten) acts = Says link text (sent.Failed false) acts
Unsent link text (tried.Failed failure.FirstByte) acts = ⊥
Unsent link text (tried.Failed failure.ServerClosed) acts = ⊥
Unsent link text (tried.Failed failure.Broken) acts = Says link text (sent.Failed true) acts
Unsent link text (tried.Failed failure.BadResponse) acts = ⊥
Unsent link text (tried.Failed failure.Deadline) acts = Says link text (sent.Stopped stops.Deadline) acts
Unsent link text (tried.Failed failure.Cancelled) acts = Says link text (sent.Stopped stops.Cancelled) acts
Unsent link text (tried.Over e) acts = ⊥

-- A request was exchanged for what came: its link took it whole and was read then, or took a front of it alone.
abbrev pub Exchanges : ℕ → List ℕ → List ℕ → Place → List ℕ → Tried Begun End → List Act → Type 0
Exchanges link text method place left result acts =
    Then (Writes link text) (Replies link method place left result) acts ⊎ Unsent link text result acts

-- the data of a kept body are as many as its framing says; a body that is kept isn't framed otherwise
abbrev pub IsKept : Framing → List ℕ → Type 0
IsKept NoBody d = d ≡ []
IsKept (Length n) d = length d ≡ n
IsKept Chunked d = ⊥
IsKept ToEnd d = ⊥

-- What an attempt has: the request's head, its kept body, where the reader of the reply's body stands, what is ahead of
-- the backend's link, and how much room the outbox has.
pub record KeptView : Type 0 where
  pub out : OutHead
  pub body : List ℕ
  pub place : Place
  pub ahead : List ℕ
  pub room : ℕ

abbrev pub kept_view : OutHead → List ℕ → Incoming → ℕ → KeptView
kept_view out body backend room = record { out = out; body = body; place = backend.body; ahead = backend.inbox; room = room }

-- the request is the same, and so is the room
pub record IsSameRequest (from to : KeptView) : Type 0 where
  pub out : to.out ≡ from.out
  pub body : to.body ≡ from.body
  pub room : to.room ≡ from.room

-- what one attempt did
pub record ExchangesKept (from to : KeptView) (link : ℕ) (result : Tried Begun End) (late : Lateness) (a : At) (w : Work) : Type 0 where
  pub same : IsSameRequest from to
  pub of_wait : IsOfWait late
  pub only : Only (tried_bill late result) (Exchanges link (request_text_of from.out from.body) from.out.method to.place to.ahead result) a w
