-- An attempt whose body is read of a client's link as it is sent.
use Rattle.std.specs.Prelude.{ℕ, ◌≡◌, ◌⊎◌, Bool, true, false, List, [], length, take, codes, Some, None}
use Rattle.gw_wire.specs.declared.values.Act.{Act}
use Rattle.gw_wire.specs.Causes.{Rose}
use Rattle.gw_wire.specs.Link.{LinkView}
use Rattle.gw_wire.specs.Stretch.{Then}
use Rattle.gw_head.specs.declared.framing.Framing.{Framing}
use Rattle.gw_head.specs.declared.framing.Framing.TheVariants.{None as NoBody, Length, Chunked, ToEnd}
use Rattle.gw_body.specs.declared.place.Place.{Place}
use Rattle.gw_proxy.specs.declared.request.OutHead.{OutHead}
use Rattle.gw_retry.specs.declared.BodyKind.TheVariants as kind
use Rattle.gw_retry.specs.declared.Failure.TheVariants as failure
use Rattle.gw_account.specs.Work.{Work, At, Idle, Only, both}
use Rattle.gw_stream.specs.declared.relaying.Incoming.{Incoming}
use Rattle.gw_stream.specs.declared.relaying.Relayed.{Relayed}
use Rattle.gw_stream.specs.declared.relaying.Relayed.TheVariants as relayed
use Rattle.gw_stream.specs.declared.waits.Loss.{Loss}
use Rattle.gw_stream.specs.declared.waits.Loss.TheVariants as loss
use Rattle.gw_stream.specs.declared.waits.Sent.{Sent}
use Rattle.gw_stream.specs.declared.waits.Sent.TheVariants as sent
use Rattle.gw_stream.specs.declared.waits.Stop.{Stop}
use Rattle.gw_stream.specs.declared.waits.Stop.TheVariants as stops
use Rattle.gw_stream.specs.Outbox.{HasRoom, OutView}
use Rattle.gw_stream.specs.Relaying.{Came, Comes, Interleaved, TextFor, came_bill, relayed_by}
use Rattle.gw_stream.specs.Waits.{Says, SaysFront, Writes, sent_bill}
use Rattle.gw_transport.specs.declared.attempts.Attempted.{Attempted}
use Rattle.gw_transport.specs.declared.attempts.Attempted.TheVariants as attempted
use Rattle.gw_transport.specs.declared.attempts.Order.{Order}
use Rattle.gw_transport.specs.declared.attempts.Tried.{Tried}
use Rattle.gw_transport.specs.declared.attempts.Tried.TheVariants as tried
use Rattle.gw_transport.specs.declared.replying.Begun.{Begun}
use Rattle.gw_transport.specs.declared.replying.End.{End}
use Rattle.gw_transport.specs.declared.replying.End.TheVariants as end
use Rattle.gw_transport.specs.declared.uploading.Upload.{Upload}
use Rattle.gw_transport.specs.Attempts.{ErrandView}
use Rattle.gw_transport.specs.Leasing.{Lateness}
use Rattle.gw_transport.specs.Replying.{IsOfWait, Replies, stopped_by, tried_bill, unwritten}

abbrev pub is_chunked : Framing → Bool
is_chunked NoBody = false
is_chunked (Length n) = false
is_chunked Chunked = true
is_chunked ToEnd = false

-- what a client is told that waits to be before it sends its body (RFC 9110, section 10.1.1)
abbrev pub continue_text : List ℕ
continue_text = codes "HTTP/1.1 100 Continue\r\n\r\n"

abbrev pub continue_of : Bool → List ℕ
continue_of true = continue_text
continue_of false = []

-- the body is read of the client, so it can't be sent again
abbrev pub upload_errand : Order → ErrandView
upload_errand order = record {
  host = order.host;
  backend = order.addr.now;
  method = order.out.now.method;
  has_key = order.out.now.has_key;
  body = kind.Once;
}

-- What an attempt has: the request's head; the client's link, whether it waits for `100 Continue`, how many bytes of that
-- were written, and how long it may be silent; where the readers of the request's and of the reply's body stand, and what
-- is ahead of either link.
pub record UploadView : Type 0 where
  pub out : OutHead
  pub client : ℕ
  pub expect : Bool
  pub continued : ℕ
  pub silence : ℕ
  pub body : Place
  pub ahead : List ℕ
  pub reply : Place
  pub left : List ℕ

abbrev pub upload_view : OutHead → ℕ → Upload → Incoming → Incoming → UploadView
upload_view out client upload asked answer = record {
  out = out;
  client = client;
  expect = upload.expect;
  continued = upload.continued;
  silence = upload.client_ms;
  body = asked.body;
  ahead = asked.inbox;
  reply = answer.body;
  left = answer.inbox;
}

pub record IsSameUpload (from to : UploadView) : Type 0 where
  pub out : to.out ≡ from.out
  pub client : to.client ≡ from.client
  pub expect : to.expect ≡ from.expect
  pub silence : to.silence ≡ from.silence

-- nothing was taken of the client's body
pub record IsUnread (from to : UploadView) : Type 0 where
  pub body : to.body ≡ from.body
  pub ahead : to.ahead ≡ from.ahead

-- ---- how an upload that doesn't go whole ends the attempt

-- a client that is waited for no longer
abbrev pub client_stopped : Stop → Tried Begun End
client_stopped stops.Cancelled = tried.Failed failure.Cancelled
client_stopped stops.Deadline = tried.Failed failure.Deadline
client_stopped stops.Silent = tried.Over end.ClientTimeout
client_stopped stops.Ticks = tried.Over end.ClientTimeout

abbrev pub client_lost : Loss → Tried Begun End
client_lost loss.End = tried.Over end.ClientEnd
client_lost loss.Failed = tried.Over end.ClientFailed
client_lost (loss.Stopped why) = client_stopped why

-- a relay of the body that ended so
abbrev pub BreaksBy : Relayed → Tried Begun End → Type 0
BreaksBy relayed.Whole result = ⊥
BreaksBy (relayed.Bad error) result = result ≡ tried.Over (end.Body error)
BreaksBy (relayed.Lost why) result = result ≡ client_lost why
BreaksBy (relayed.WriteFailed some) result = result ≡ tried.Failed (unwritten some)
BreaksBy (relayed.WriteStopped why) result = result ≡ tried.Failed (stopped_by why)
BreaksBy relayed.Spent result = result ≡ tried.Over end.NoMemory

-- `100 Continue` that wasn't written whole
abbrev pub SilentBy : Sent → Tried Begun End → Type 0
SilentBy sent.All result = ⊥
SilentBy (sent.Failed some) result = result ≡ tried.Over end.ClientFailed
SilentBy (sent.Stopped why) result = result ≡ client_stopped why

-- what such an attempt was late by, where it was: only a wait for the backend has ticks
abbrev pub stop_lateness : Stop → Lateness
stop_lateness stops.Cancelled = Lateness.ByDeadline
stop_lateness stops.Deadline = Lateness.ByDeadline
stop_lateness stops.Silent = Lateness.ByDeadline
stop_lateness stops.Ticks = Lateness.ByTicks

abbrev pub break_lateness : Relayed → Lateness
break_lateness relayed.Whole = Lateness.ByDeadline
break_lateness (relayed.Bad error) = Lateness.ByDeadline
break_lateness (relayed.Lost why) = Lateness.ByDeadline
break_lateness (relayed.WriteFailed some) = Lateness.ByDeadline
break_lateness (relayed.WriteStopped why) = stop_lateness why
break_lateness relayed.Spent = Lateness.ByDeadline

-- ---- what was done

-- the client was told to go on where it waits for that; its body came, and the backend was written the text for it behind
-- the request's head
pub record Uploads (from to : UploadView) (link : ℕ) (came : Came) (said : Sent) (acts : List Act) : Type 0 where
  pub given : List ℕ
  pub text : List ℕ
  pub text_is : TextFor from.out.bytes (is_chunked from.out.framing) given came text
  pub does : Then (Writes from.client (continue_of from.expect)) (Interleaved (Says link text said) (Comes from.client from.body from.ahead given to.body to.ahead came)) acts

-- the upload went whole, and the reply was awaited
pub record UploadsWhole (from to : UploadView) (link : ℕ) (result : Tried Begun End) (late : Lateness) (a : At) (w : Work) : Type 0 where
  pub of_wait : IsOfWait late
  pub continued : to.continued ≡ length (continue_of from.expect)
  pub only : Only (tried_bill late result) (Then (Uploads from to link Came.Done sent.All) (Replies link from.out.method to.reply to.left result)) a w

-- the upload broke off, and no reply was awaited
pub record UploadsPart (from to : UploadView) (link : ℕ) (result : Tried Begun End) (late : Lateness) (a : At) (w : Work) : Type 0 where
  pub came : Came
  pub said : Sent
  pub breaks : BreaksBy (relayed_by came said) result
  pub late_by : late ≡ break_lateness (relayed_by came said)
  pub continued : to.continued ≡ length (continue_of from.expect)
  pub only : Only (both (came_bill (Some from.silence) came) (sent_bill None said)) (Uploads from to link came said) a w

-- the client wasn't told to go on whole
pub record Continues (from to : UploadView) (result : Tried Begun End) (late : Lateness) (a : At) (w : Work) : Type 0 where
  pub said : Sent
  pub breaks : SilentBy said result
  pub unread : IsUnread from to
  pub late_by : late ≡ Lateness.ByDeadline
  pub only : Only (sent_bill (Some from.silence) said) (SaysFront from.client (take to.continued (continue_of from.expect)) said) a w

-- the head is longer than there is room for
pub record HasNoRoom (from to : UploadView) (result : Tried Begun End) (a : At) (w : Work) : Type 0 where
  pub is : result ≡ tried.Over end.NoMemory
  pub unread : IsUnread from to
  pub continued : to.continued ≡ from.continued
  pub idle : Idle a w

-- what an attempt did
pub record ExchangesUpload (from to : UploadView) (link : ℕ) (result : Tried Begun End) (late : Lateness) (a : At) (w : Work) : Type 0 where
  pub same : IsSameUpload from to
  pub does : (UploadsWhole from to link result late a w ⊎ UploadsPart from to link result late a w) ⊎ (Continues from to result late a w ⊎ HasNoRoom from to result a w)

-- when the client's link may be said to have ended or failed
abbrev pub ClientCause : LinkView → LinkView → Tried Begun End → Type 0
ClientCause from to (tried.Over end.ClientEnd) = Rose from.ends to.ends
ClientCause from to (tried.Over end.ClientFailed) = Rose from.faults to.faults
ClientCause from to (tried.Over end.ClientTimeout) = Unit {0}
ClientCause from to (tried.Over end.NoMemory) = Unit {0}
ClientCause from to (tried.Over (end.Body error)) = Unit {0}
ClientCause from to (tried.Reply r) = Unit {0}
ClientCause from to (tried.Failed why) = Unit {0}

abbrev pub TripClientCause : {C : Type 0} → LinkView → LinkView → Attempted C Begun End → Type 0
TripClientCause from to (attempted.Reply l r) = Unit {0}
TripClientCause from to (attempted.Failed why) = Unit {0}
TripClientCause from to (attempted.Over e) = ClientCause from to (tried.Over e)
TripClientCause from to attempted.Unreachable = Unit {0}
TripClientCause from to attempted.Full = Unit {0}

-- ---- on the way

-- a request's head is on its way, if there is room for it
abbrev pub Loads : OutView → OutView → OutHead → Bool → Type 0
Loads before after out true = HasRoom after × (after ≡ record before { text = out.bytes; begun = []; in_chunks = is_chunked out.framing })
Loads before after out false = after.size ≡ before.size
