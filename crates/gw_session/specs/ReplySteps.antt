-- The steps of a backend's reply on its way to the client.
use Rattle.std.specs.Prelude.{ℕ, ◌≡◌, ◌<◌, Bool, true, false, List, ◌++◌, length, Option, Some, None, is_some}
use Rattle.gw_wire.specs.Causes.{Rose}
use Rattle.gw_chunk.specs.Chunked.{piece_limit}
use Rattle.gw_head.specs.declared.request.RequestHead.{RequestHead}
use Rattle.gw_account.specs.Did.{Span, Went}
use Rattle.gw_account.specs.Work.{Work, At, Idle, Only, Seq, both}
use Rattle.gw_proxy.specs.OutReply.{OutReply}
use Rattle.gw_proxy.specs.declared.own.Own.TheVariants.{Plain}
use Rattle.gw_stream.specs.declared.beginning.Began.{Began}
use Rattle.gw_stream.specs.declared.beginning.Began.TheVariants as began
use Rattle.gw_stream.specs.declared.relaying.Incoming.{Incoming}
use Rattle.gw_stream.specs.Guard.{IsDue}
use Rattle.gw_stream.specs.Outbox.{HasRoom, OutView}
use Rattle.gw_stream.specs.Relaying as relaying
use Rattle.gw_stream.specs.Relaying.{Came, Interleaved, TextFor, came_bill, incoming, relayed_by}
use Rattle.gw_stream.specs.Waits.{Says, sent_bill}
use Rattle.gw_transport.specs.declared.replying.Begun.{Begun}
use Rattle.gw_transport.specs.Ending.{is_reusable}
use Rattle.gw_transport.specs.Leasing.{IsRested}
use Rattle.gw_transport.specs.Parts.{Ends}
use Rattle.gw_transport.specs.Watch.{times_found}
use Rattle.gw_session.specs.declared.end.Ended.{Ended}
use Rattle.gw_session.specs.declared.end.Ended.TheVariants as ended
use Rattle.gw_session.specs.declared.end.Why.{Why}
use Rattle.gw_session.specs.declared.replying.Answered.{Answered}
use Rattle.gw_session.specs.declared.replying.Heading.{Heading}
use Rattle.gw_session.specs.declared.replying.Heading.TheVariants as heading
use Rattle.gw_session.specs.Ending.{relayed_next, why_after}
use Rattle.gw_session.specs.Passing.{Answer, PassedText, Replied, is_due_answer, loss_code, reason_of}
use Rattle.gw_session.specs.Replies.{Reply, Said, SaysBy, SaysOwn, dated, said_next}
use Rattle.gw_session.specs.Seats.{NotesShut, Seats}
use Rattle.gw_session.specs.Stand.{Done, Goes, Spot, Stand, line_of}
use Rattle.gw_session.specs.Turn.{is_cancelled_answer}

-- the backend's reply as a session has it
abbrev pub replied_of : {C : Type 0} → Answered C → Incoming → Replied
replied_of answered from = record {
  link = answered.lease.link;
  conn = answered.lease.no;
  begun = answered.reply;
  place = from.body;
  ahead = from.inbox;
}

-- the head of a reply was made at a moment, and stands before its first piece; or memory was wanting, or room
abbrev pub Puts : Bool → RequestHead → Bool → Begun → ℕ → Bool → OutView → OutView → Heading → Type 0
Puts last head unread reply now shut before after (heading.Put reason) =
    (reason ≡ why_after head last shut unread) × HasRoom after
    × ((text : List ℕ) × OutReply reply.head reply.framing head.method head.old (is_some reason) now text × (after ≡ record before { text = before.text ++ text }))
Puts last head unread reply now shut before after heading.NoMemory = after.size ≡ before.size

pub record PutStep (old new : Seats) (last : Bool) (head : RequestHead) (unread : Bool) (reply : Begun) (now : ℕ) (before after : OutView) (result : Heading) : Type 0 where
  pub shut : Bool
  pub notes : NotesShut old new now shut
  pub puts : Puts last head unread reply now shut before after result

-- a request's passage was done from its trip on, and may have been late or cancelled
pub record AnsweredStep (s : Span) (old new : Stand) (p : Spot) (deadline : Option ℕ) (Does : Answer → At → Work → Type 0)
    (next_of : Answer → Option Ended) (result : Option Ended) : Type 0 where
  pub answer : Answer
  pub done : Done s (Does answer)
  pub next_is : result ≡ next_of answer
  pub rested : IsRested s.after
  pub due : is_due_answer answer ≡ true → IsDue deadline s.new.moment
  pub cancelled : is_cancelled_answer answer ≡ true → Rose (times_found p.own old.seats.words.view.ended) (times_found p.own new.seats.words.view.ended)

-- what follows a backend's reply
abbrev pub reply_next : (Bool → Option Why) → Answer → Option Ended
reply_next reason (Answer.Bad error said) = said_next reason said
reply_next reason (Answer.Lost why said) = said_next reason said
reply_next reason (Answer.Whole said) = said_next reason said
reply_next reason (Answer.Streamed r came) = relayed_next (relayed_by came r.sent) (reason r.shut)
reply_next reason _ = Some ended.NoMemory

-- the text that is written of a body that is whole in the outbox, behind its head
pub record WholeSaid (old new : Stand) (p : Spot) (head : RequestHead) (unread : Bool) (reply : Begun) (d : List ℕ) (result : Option Ended) : Type 0 where
  pub said : Said
  pub went : Went old.wire new.wire (SaysBy (line_of p) (reason_of p head unread) (PassedText reply head d) said)
  pub next_is : result ≡ said_next (reason_of p head unread) said
  pub goes : Goes old new p old.wire.moment false result

-- how a reply is answered whose body came whole before its first piece, or didn't come so far
abbrev pub AnswersBegun : Spot → RequestHead → (Bool → Option Why) → Begun → List ℕ → Began → Answer → At → Work → Type 0
AnswersBegun p head reason reply d began.Whole (Answer.Whole said) a w = SaysBy (line_of p) reason (PassedText reply head d) said a w
AnswersBegun p head reason reply d (began.Bad error) (Answer.Bad e said) a w = (e ≡ error) × SaysOwn (line_of p) reason (Plain 502) head.method head.old said a w
AnswersBegun p head reason reply d (began.Lost why) (Answer.Lost l said) a w = (l ≡ why) × SaysOwn (line_of p) reason (Plain (loss_code why)) head.method head.old said a w
AnswersBegun p head reason reply d began.Spent Answer.Silent a w = Idle a w
AnswersBegun p head reason reply d _ _ a w = ⊥

pub record BegunAnswer (old new : Stand) (p : Spot) (head : RequestHead) (reason : Bool → Option Why) (reply : Begun) (d : List ℕ) (result : Began) (next : Option Ended) : Type 0 where
  pub answer : Answer
  pub went : Went old.wire new.wire (AnswersBegun p head reason reply d result answer)
  pub next_is : next ≡ reply_next reason answer
  pub goes : Goes old new p old.wire.moment false next

abbrev pub IsNotPiece : Began → List ℕ → Type 0
IsNotPiece began.Piece d = ⊥
IsNotPiece began.Whole d = length d < piece_limit
IsNotPiece _ d = Unit {0}

-- the rest of a reply is passed on behind a head and what is on its way; its body stands so then
pub record RelaysRest (p : Spot) (head : RequestHead) (reason : Bool → Option Why) (b : Replied) (out : OutView) (after : Incoming) (r : Reply) (came : Came) (a : At) (w : Work) : Type 0 where
  pub d : List ℕ
  pub begins : List ℕ
  pub head_is : OutReply b.begun.head b.begun.framing head.method head.old (is_some (reason r.shut)) r.moment begins
  pub text_is : TextFor begins out.in_chunks (out.begun ++ d) came r.text
  pub does : Only (dated r.moment (both (came_bill None came) (sent_bill (Some p.table.client_ms) r.sent)))
      (Interleaved (Says p.client r.text r.sent) (relaying.Comes b.link b.place b.ahead d after.body after.inbox came)) a w

-- a reply's first piece is there: it was passed on as it came, or memory was wanting for its head
abbrev pub SaysRest : Spot → RequestHead → (Bool → Option Why) → Replied → OutView → Incoming → Answer → At → Work → Type 0
SaysRest p head reason b out after Answer.Silent a w = (after ≡ incoming b.place b.ahead) × Idle a w
SaysRest p head reason b out after (Answer.Streamed r came) a w = RelaysRest p head reason b out after r came a w
SaysRest p head reason b out after _ a w = ⊥

pub record RestStep (old new : Stand) (p : Spot) (since : ℕ) (deadline : Option ℕ) (Does : Answer → At → Work → Type 0) (reason : Bool → Option Why) (result : Option Ended) : Type 0 where
  pub answer : Answer
  pub went : Went old.wire new.wire (Does answer)
  pub next_is : result ≡ reply_next reason answer
  pub goes : Goes old new p since false result
  pub due : is_due_answer answer ≡ true → IsDue deadline new.wire.moment
  pub cancelled : is_cancelled_answer answer ≡ true → Rose (times_found p.own old.seats.words.view.ended) (times_found p.own new.seats.words.view.ended)

-- and then the lease ends
abbrev pub AnswersPieces : Spot → RequestHead → (Bool → Option Why) → Replied → OutView → Answer → At → Work → Type 0
AnswersPieces p head reason b out answer a w =
    (after : Incoming) × Seq (SaysRest p head reason b out after answer) (Ends (is_reusable b.begun after) b.conn) a w
