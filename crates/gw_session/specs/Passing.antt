-- A request that is passed on: its body, its trip, and what the client is answered.
use Rattle.std.specs.Prelude.{ℕ, ◌≡◌, Bool, true, false, not, ◌&&◌, ◌||◌, ◌==◌, nat_le, List, [], ◌++◌, drop, Option, Some, None, is_some, if◌then◌else◌}
use Rattle.gw_wire.specs.declared.values.Act.{Act}
use Rattle.gw_wire.specs.declared.values.Addr.{Addr}
use Rattle.gw_wire.specs.Stretch.{Then}
use Rattle.gw_head.specs.declared.framing.Framing.{Framing}
use Rattle.gw_head.specs.declared.framing.Framing.TheVariants.{None as NoBody, Length, Chunked, ToEnd}
use Rattle.gw_head.specs.declared.request.RequestHead.{RequestHead}
use Rattle.gw_body.specs.declared.place.Place.{Place}
use Rattle.gw_body.specs.Places.{begins, is_done}
use Rattle.gw_proxy.specs.OutReply.{OutReply, sent_framing_of}
use Rattle.gw_proxy.specs.OutRequest.{out_head_of}
use Rattle.gw_proxy.specs.declared.own.Own.TheVariants.{Plain}
use Rattle.gw_proxy.specs.declared.request.OutHead.{OutHead}
use Rattle.gw_chunk.specs.declared.error.ChunkError.{ChunkError}
use Rattle.gw_retry.specs.declared.BodyKind.TheVariants as kind
use Rattle.gw_retry.specs.declared.Failure.{Failure}
use Rattle.gw_retry.specs.declared.Failure.TheVariants as failure
use Rattle.gw_account.specs.Work.{Work, At, Idle, Only, Seq, both, free}
use Rattle.gw_stream.specs.declared.beginning.Began.{Began}
use Rattle.gw_stream.specs.declared.beginning.Began.TheVariants as began
use Rattle.gw_stream.specs.declared.relaying.Relayed.{Relayed}
use Rattle.gw_stream.specs.declared.relaying.Relayed.TheVariants as relayed
use Rattle.gw_stream.specs.declared.waits.Loss.{Loss}
use Rattle.gw_stream.specs.declared.waits.Loss.TheVariants as loss
use Rattle.gw_stream.specs.declared.waits.Sent.{Sent}
use Rattle.gw_stream.specs.declared.waits.Sent.TheVariants as sent
use Rattle.gw_stream.specs.declared.waits.Stop.TheVariants as stops
use Rattle.gw_stream.specs.Beginning.{Begins, began_bill}
use Rattle.gw_stream.specs.Drawing.{Completes, Draws, Loses}
use Rattle.gw_stream.specs.Relaying.{Came, Comes, Interleaved, TextFor, came_bill, incoming, relayed_by, text_of}
use Rattle.gw_stream.specs.Waits.{Says, loss_bill, sent_bill}
use Rattle.gw_stream.specs.Waits as waits
use Rattle.gw_transport.specs.declared.attempts.Attempted.{Attempted}
use Rattle.gw_transport.specs.declared.attempts.Attempted.TheVariants as attempted
use Rattle.gw_transport.specs.declared.replying.Begun.{Begun}
use Rattle.gw_transport.specs.declared.replying.End.{End}
use Rattle.gw_transport.specs.declared.replying.End.TheVariants as end
use Rattle.gw_transport.specs.Attempts.{AttemptedBy, kind_of}
use Rattle.gw_transport.specs.Ending.{is_reusable}
use Rattle.gw_transport.specs.Leasing.{Lateness}
use Rattle.gw_transport.specs.Parts.{Ends, Expires}
use Rattle.gw_transport.specs.Sending.{ExchangesKept, KeptView}
use Rattle.gw_transport.specs.Uploading.{ExchangesUpload, UploadView, continue_of, continue_text, is_chunked}
use Rattle.gw_session.specs.declared.end.Ended.{Ended}
use Rattle.gw_session.specs.declared.end.Ended.TheVariants as ended
use Rattle.gw_session.specs.declared.end.Why.{Why}
use Rattle.gw_session.specs.Ending.{has_body, lost_end, over_end, relayed_next, sent_next, why_after}
use Rattle.gw_session.specs.Replies.{IsLossOfClient, Reply, Said, SaysBy, SaysOwn, Writes, dated, for_fault, said_next}
use Rattle.gw_session.specs.Routing.{Target}
use Rattle.gw_session.specs.Stand.{Line, Spot, is_last, line_of}

-- the client waits to be told to go on before it sends a body that isn't empty; one of HTTP/1.0 isn't told (RFC 9110,
-- section 10.1.1)
abbrev pub expects : RequestHead → Bool
expects head = head.expect && not head.old

abbrev pub wants_continue : RequestHead → Bool
wants_continue head = has_body head.framing && expects head

-- whether a body of this framing is read whole before its request is sent: it has so many bytes at most (RFC 9112, section
-- 6.3)
abbrev pub is_kept : Framing → ℕ → Bool
is_kept NoBody buffer = true
is_kept (Length n) buffer = nat_le n buffer
is_kept Chunked buffer = false
is_kept ToEnd buffer = false

-- ---- a body that is read whole before the request is sent

-- the client is told to go on where it waits for that, and then this
abbrev pub Told : ℕ → RequestHead → (List Act → Type 0) → List Act → Type 0
Told client head P = Then (waits.Writes client (continue_of (wants_continue head))) P

-- the body comes, with these data
abbrev pub HearsBody : ℕ → RequestHead → List ℕ → List ℕ → List ℕ → At → Work → Type 0
HearsBody client head kept d left =
    Only free (Told client head (λ acts. (new : Place) × Completes client (begins head.framing) kept d new left acts))

-- or it doesn't come whole: the client isn't told whole to go on, nothing more comes, or memory is wanting
pub data Halt : Type 0 where
  Untold : Sent → Halt
  Lost : Loss → Halt
  Unkept : Halt

abbrev pub IsNotAll : Sent → Type 0
IsNotAll sent.All = ⊥
IsNotAll (sent.Failed some) = Unit {0}
IsNotAll (sent.Stopped s) = Unit {0}

abbrev pub Halts : Line → RequestHead → List ℕ → Halt → At → Work → Type 0
Halts l head kept (Halt.Untold result) a w = IsNotAll result × Writes l (continue_of (wants_continue head)) result a w
Halts l head kept (Halt.Lost why) a w =
    IsLossOfClient why
    × Only (loss_bill (Some l.silence) why) (Told l.client head (λ acts. (d : List ℕ) × (new : Place) × Loses l.client (begins head.framing) kept d new why acts)) a w
Halts l head kept Halt.Unkept a w =
    Only free (Told l.client head (λ acts. (d : List ℕ) × (new : Place) × (left : List ℕ) × Draws l.client (begins head.framing) kept d new left acts)) a w

abbrev pub halt_next : Halt → Option Ended
halt_next (Halt.Untold result) = sent_next result None
halt_next (Halt.Lost why) = Some (lost_end why)
halt_next Halt.Unkept = Some ended.NoMemory

-- ---- a passage

abbrev pub Outcome : Type 0
Outcome = Attempted (Unit {0}) Begun End

-- How a request is answered that was passed on.
pub data Answer : Type 0 where
  -- not at all: its client is gone, or memory was wanting
  Silent : Answer
  -- not at all, since the client wasn't told whole to go on
  Untold : Sent → Answer
  -- by the gateway itself
  Own : Said → Answer
  -- by the gateway itself, in place of a reply that has a fault, or that is lost, before it began
  Bad : ChunkError → Said → Answer
  Lost : Loss → Said → Answer
  -- by the backend's reply, whose body came whole before it began
  Whole : Said → Answer
  -- by the backend's reply as it comes
  Streamed : Reply → Came → Answer

-- a trip to a host at this address: what it came to, and what that was late by, if it was late
pub record TripView : Type 0 where
  pub host : ℕ
  pub backend : Addr
  pub outcome : Outcome
  pub late : Lateness

-- What became of a request that was passed on: the base before its path, how long it may take and how much of its body is
-- read first, by its route; its trip, whether its body was left unread, and how it was answered.
pub record Passage : Type 0 where
  pub base : List ℕ
  pub timeout : ℕ
  pub buffer : ℕ
  pub trip : TripView
  pub unread : Bool
  pub answer : Answer

abbrev pub target_of : Passage → Target
target_of g = record { host = g.trip.host; backend = g.trip.backend; base = g.base; timeout = g.timeout; buffer = g.buffer }

-- what a trip leaves: how many bytes of `100 Continue` were written, where the reader of the request's body stands, and
-- that of the reply's, of which these bytes are ahead
pub record Trace : Type 0 where
  pub told : ℕ
  pub read : Place
  pub place : Place
  pub ahead : List ℕ

-- ---- its trip

-- of a request with this head whose body is kept: the expired connection is closed, and then attempts are made
pub record TripsKept (out : OutHead) (d : List ℕ) (v : TripView) (t : Trace) (a : At) (w : Work) : Type 0 where
  pub at : ℕ
  pub from : KeptView
  pub to : KeptView
  pub out_is : from.out ≡ out
  pub body : from.body ≡ d
  pub place : to.place ≡ t.place
  pub ahead : to.ahead ≡ t.ahead
  pub does : Seq (Expires at) (AttemptedBy ExchangesKept
      (record { host = v.host; backend = v.backend; method = out.method; has_key = out.has_key; body = kind_of d }) from to v.outcome v.late) a w

-- an upload: its head, its client, whether that waits to be told to go on, and what is ahead of its link; nothing of the
-- body was taken, and nothing of `100 Continue` written
pub record Asking : Type 0 where
  pub out : OutHead
  pub line : Line
  pub expect : Bool
  pub kept : List ℕ

pub record IsAsked (q : Asking) (from : UploadView) : Type 0 where
  pub out : from.out ≡ q.out
  pub client : from.client ≡ q.line.client
  pub expect : from.expect ≡ q.expect
  pub untold : from.continued ≡ 0
  pub silence : from.silence ≡ q.line.silence
  pub body : from.body ≡ begins q.out.framing
  pub ahead : from.ahead ≡ q.kept

-- of a request whose body is sent as it comes of the client: behind it `left` is ahead of the client's link
pub record TripsOn (q : Asking) (left : List ℕ) (v : TripView) (t : Trace) (a : At) (w : Work) : Type 0 where
  pub at : ℕ
  pub from : UploadView
  pub to : UploadView
  pub asked : IsAsked q from
  pub left_is : to.ahead ≡ left
  pub told : to.continued ≡ t.told
  pub read : to.body ≡ t.read
  pub place : to.reply ≡ t.place
  pub ahead : to.left ≡ t.ahead
  pub does : Seq (Expires at) (AttemptedBy ExchangesUpload
      (record { host = v.host; backend = v.backend; method = q.out.method; has_key = q.out.has_key; body = kind.Once }) from to v.outcome v.late) a w

-- ---- the answer

-- the code by which a failure is answered (RFC 9110, sections 15.6.3 to 15.6.5)
abbrev pub failure_code : Failure → ℕ
failure_code failure.NothingWritten = 502
failure_code failure.FirstByte = 502
failure_code failure.ServerClosed = 502
failure_code failure.Broken = 502
failure_code failure.BadResponse = 502
failure_code failure.Deadline = 504
failure_code failure.Cancelled = 503

-- and by which a reply is replaced that doesn't come to its beginning
abbrev pub loss_code : Loss → ℕ
loss_code loss.End = 502
loss_code loss.Failed = 502
loss_code (loss.Stopped stops.Cancelled) = 503
loss_code (loss.Stopped stops.Deadline) = 504
loss_code (loss.Stopped stops.Silent) = 504
loss_code (loss.Stopped stops.Ticks) = 504

-- a wait for a backend isn't given up for its silence
abbrev pub IsLossOfBackend : Loss → Type 0
IsLossOfBackend loss.End = Unit {0}
IsLossOfBackend loss.Failed = Unit {0}
IsLossOfBackend (loss.Stopped stops.Cancelled) = Unit {0}
IsLossOfBackend (loss.Stopped stops.Deadline) = Unit {0}
IsLossOfBackend (loss.Stopped stops.Silent) = ⊥
IsLossOfBackend (loss.Stopped stops.Ticks) = Unit {0}

-- where a trip was cancelled or late as only a part of `100 Continue` was written, the rest is written before the reply
abbrev pub rest_of_continue : Failure → ℕ → List ℕ
rest_of_continue failure.Cancelled told = if told == 0 then [] else drop told continue_text
rest_of_continue failure.Deadline told = if told == 0 then [] else drop told continue_text
rest_of_continue why told = []

-- a backend's reply: its link, its connection's number, its head, where its body stands, and what is ahead
pub record Replied : Type 0 where
  pub link : ℕ
  pub conn : ℕ
  pub begun : Begun
  pub place : Place
  pub ahead : List ℕ

-- whether the body is sent in chunks to the client
abbrev pub in_chunks : Begun → Bool → Bool
in_chunks reply old = is_chunked (sent_framing_of reply.framing old)

-- the text of a reply whose body has these data
abbrev pub PassedText : Begun → RequestHead → List ℕ → Bool → ℕ → List ℕ → Type 0
PassedText reply head d close moment text =
    (begins : List ℕ) × OutReply reply.head reply.framing head.method head.old close moment begins × (text ≡ begins ++ text_of (in_chunks reply head.old) d)

-- so much of the body comes up to its first piece, and then the lease ends, by which the connection may serve again or is
-- closed
abbrev pub BeginsReply : Replied → Began → List ℕ → At → Work → Type 0
BeginsReply b result d a w =
    (new : Place) × (left : List ℕ)
    × Seq (Only (began_bill None result) (Begins b.link b.place b.ahead d new left result)) (Ends (is_reusable b.begun (incoming new left)) b.conn) a w

-- the reply is passed on as it comes
pub record RelaysReply (p : Spot) (head : RequestHead) (reason : Bool → Option Why) (b : Replied) (r : Reply) (came : Came) (a : At) (w : Work) : Type 0 where
  pub d : List ℕ
  pub new : Place
  pub left : List ℕ
  pub begins : List ℕ
  pub head_is : OutReply b.begun.head b.begun.framing head.method head.old (is_some (reason r.shut)) r.moment begins
  pub text_is : TextFor begins (in_chunks b.begun head.old) d came r.text
  pub does : Seq (Only (dated r.moment (both (came_bill None came) (sent_bill (Some p.table.client_ms) r.sent)))
      (Interleaved (Says p.client r.text r.sent) (Comes b.link b.place b.ahead d new left came)))
      (Ends (is_reusable b.begun (incoming new left)) b.conn) a w

-- what is done for each answer, behind a reply
abbrev pub AnswersReply : Spot → RequestHead → (Bool → Option Why) → Replied → Answer → At → Work → Type 0
AnswersReply p head reason b Answer.Silent a w = (d : List ℕ) × BeginsReply b began.Piece d a w
AnswersReply p head reason b (Answer.Bad error said) a w =
    (d : List ℕ) × Seq (BeginsReply b (began.Bad error) d) (SaysOwn (line_of p) reason (Plain 502) head.method head.old said) a w
AnswersReply p head reason b (Answer.Lost why said) a w =
    IsLossOfBackend why
    × ((d : List ℕ) × Seq (BeginsReply b (began.Lost why) d) (SaysOwn (line_of p) reason (Plain (loss_code why)) head.method head.old said) a w)
AnswersReply p head reason b (Answer.Whole said) a w =
    (d : List ℕ) × Seq (BeginsReply b began.Whole d) (SaysBy (line_of p) reason (PassedText b.begun head d) said) a w
AnswersReply p head reason b (Answer.Streamed r came) a w = RelaysReply p head reason b r came a w
AnswersReply p head reason b _ a w = ⊥

-- the gateway's own reply with this code
abbrev pub AnswersOwn : Spot → RequestHead → (Bool → Option Why) → ℕ → Answer → At → Work → Type 0
AnswersOwn p head reason code (Answer.Own said) a w = SaysOwn (line_of p) reason (Plain code) head.method head.old said a w
AnswersOwn p head reason code _ a w = ⊥

-- and behind the rest of `100 Continue`
abbrev pub AnswersFailure : Spot → RequestHead → (Bool → Option Why) → Failure → ℕ → Answer → At → Work → Type 0
AnswersFailure p head reason why told (Answer.Own said) a w =
    Seq (Only free (waits.Writes p.client (rest_of_continue why told))) (SaysOwn (line_of p) reason (Plain (failure_code why)) head.method head.old said) a w
AnswersFailure p head reason why told (Answer.Untold result) a w = IsNotAll result × Writes (line_of p) (rest_of_continue why told) result a w
AnswersFailure p head reason why told _ a w = ⊥

abbrev pub AnswersOver : Spot → RequestHead → End → Answer → At → Work → Type 0
AnswersOver p head (end.Body error) answer a w = AnswersOwn p head for_fault 400 answer a w
AnswersOver p head _ answer a w = (answer ≡ Answer.Silent) × Idle a w

-- why the link closes behind the answer
abbrev pub reason_of : Spot → RequestHead → Bool → Bool → Option Why
reason_of p head unread shut = why_after head (is_last p.number) shut unread

abbrev pub replied : ℕ → ℕ → Begun → Trace → Replied
replied link conn begun t = record { link = link; conn = conn; begun = begun; place = t.place; ahead = t.ahead }

-- what is done for each outcome of a trip; the request's body may have been left unread
abbrev pub Answers : Outcome → Spot → RequestHead → Bool → Trace → Answer → At → Work → Type 0
Answers (attempted.Reply l begun) p head unread t answer a w = AnswersReply p head (reason_of p head unread) (replied l.link l.no begun t) answer a w
Answers (attempted.Failed why) p head unread t answer a w = AnswersFailure p head (reason_of p head unread) why t.told answer a w
Answers (attempted.Over e) p head unread t answer a w = AnswersOver p head e answer a w
Answers attempted.Unreachable p head unread t answer a w = AnswersOwn p head (reason_of p head unread) 502 answer a w
Answers attempted.Full p head unread t answer a w = AnswersOwn p head (reason_of p head unread) 503 answer a w

-- what follows each
abbrev pub over_next : Outcome → Option Ended
over_next (attempted.Over e) = Some (over_end e)
over_next _ = Some ended.NoMemory

abbrev pub own_next : Outcome → (Bool → Option Why) → Said → Option Ended
own_next (attempted.Over e) reason said = said_next for_fault said
own_next _ reason said = said_next reason said

abbrev pub answer_next : Outcome → (Bool → Option Why) → Answer → Option Ended
answer_next outcome reason Answer.Silent = over_next outcome
answer_next outcome reason (Answer.Untold result) = sent_next result None
answer_next outcome reason (Answer.Own said) = own_next outcome reason said
answer_next outcome reason (Answer.Bad error said) = said_next reason said
answer_next outcome reason (Answer.Lost why said) = said_next reason said
answer_next outcome reason (Answer.Whole said) = said_next reason said
answer_next outcome reason (Answer.Streamed r came) = relayed_next (relayed_by came r.sent) (reason r.shut)

abbrev pub passage_next : Spot → RequestHead → Passage → Option Ended
passage_next p head g = answer_next g.trip.outcome (reason_of p head g.unread) g.answer

-- ---- a whole passage

-- the request's head as it goes to the backend
abbrev pub out_of : Spot → RequestHead → Passage → OutHead
out_of p head g = out_head_of head g.base g.trip.backend p.peer

abbrev pub asking : Spot → RequestHead → Passage → List ℕ → Asking
asking p head g kept = record { out = out_of p head g; line = line_of p; expect = expects head; kept = kept }

-- the body is read whole, the request is sent, and its client is answered
abbrev pub PassesKept : Spot → RequestHead → List ℕ → List ℕ → Passage → At → Work → Type 0
PassesKept p head kept left g a w =
    (is_kept head.framing g.buffer ≡ true) × (g.unread ≡ false)
    × ((d : List ℕ) × (t : Trace) × (t.told ≡ 0) × Seq (HearsBody p.client head kept d left) (Seq (TripsKept (out_of p head g) d g.trip t) (Answers g.trip.outcome p head g.unread t g.answer)) a w)

-- the request is sent with its body as that comes, and its client is answered
abbrev pub PassesOn : Spot → RequestHead → List ℕ → List ℕ → Passage → At → Work → Type 0
PassesOn p head kept left g a w =
    (is_kept head.framing g.buffer ≡ false)
    × ((t : Trace) × (g.unread ≡ not (is_done t.read)) × Seq (TripsOn (asking p head g kept) left g.trip t) (Answers g.trip.outcome p head g.unread t g.answer) a w)

-- ---- what an answer costs that is late by its route's time

abbrev pub is_due : Lateness → Bool
is_due Lateness.ByDeadline = true
is_due Lateness.ByRests = false
is_due Lateness.ByExpired = false
is_due Lateness.ByTicks = false

abbrev pub is_due_loss : Loss → Bool
is_due_loss (loss.Stopped stops.Deadline) = true
is_due_loss _ = false

abbrev pub is_due_relay : Relayed → Bool
is_due_relay (relayed.Lost why) = is_due_loss why
is_due_relay (relayed.WriteStopped stops.Deadline) = true
is_due_relay _ = false

abbrev pub is_due_outcome : Outcome → Lateness → Bool
is_due_outcome (attempted.Failed failure.Deadline) late = is_due late
is_due_outcome outcome late = false

abbrev pub is_due_answer : Answer → Bool
is_due_answer (Answer.Lost why said) = is_due_loss why
is_due_answer (Answer.Streamed r came) = is_due_relay (relayed_by came r.sent)
is_due_answer _ = false

-- its trip, the beginning of its reply, or its passing on was late by the deadline
abbrev pub is_late : Passage → Bool
is_late g = is_due_outcome g.trip.outcome g.trip.late || is_due_answer g.answer

-- it costs as many milliseconds as its route allows, counted from its routing on
abbrev pub Owes : Bool → ℕ → (At → Work → Type 0) → At → Work → Type 0
Owes false timeout P a w = P a w
Owes true timeout P a w = (v : Work) × P a v × (w ≡ record v { bill = record v.bill { millis = timeout } })
