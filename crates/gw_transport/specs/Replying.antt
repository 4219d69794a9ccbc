-- A reply's head as it comes of a backend's link, behind informational replies, which are dropped (RFC 9110, section 15.2).
use Rattle.std.specs.Prelude.{ℕ, zero, suc, ◌≡◌, ◌<◌, ◌≤◌, ◌⊎◌, Bool, true, false, ◌&&◌, not, ◌==◌, List, [], ◌∷◌, ◌++◌, length, nat_le, nat_lt, None}
use Rattle.gw_wire.specs.declared.values.Act.{Act}
use Rattle.gw_wire.specs.declared.values.Act.TheVariants.{ReadFailed}
use Rattle.gw_wire.specs.declared.values.Act.TheVariants.{End as LinkEnd}
use Rattle.gw_wire.specs.Link.{LinkView, LinkLater}
use Rattle.gw_wire.specs.Stretch.{Acts, Then}
use Rattle.gw_head.specs.declared.error.HeadError.{HeadError}
use Rattle.gw_head.specs.declared.reply.ReplyHead.{ReplyHead}
use Rattle.gw_head.specs.Head.{ReplyHeadOf, BadReplyHead}
use Rattle.gw_head.specs.Stage.{IsTooLong, IsUndecided}
use Rattle.gw_body.specs.declared.place.Place.{Place}
use Rattle.gw_body.specs.Framing.{reply_framing_of}
use Rattle.gw_body.specs.Places.{begins}
use Rattle.gw_retry.specs.declared.Failure.{Failure}
use Rattle.gw_retry.specs.declared.Failure.TheVariants as failure
use Rattle.gw_account.specs.Work.{Bill, free}
use Rattle.gw_stream.specs.declared.waits.Loss.{Loss}
use Rattle.gw_stream.specs.declared.waits.Loss.TheVariants as loss
use Rattle.gw_stream.specs.declared.waits.Stop.{Stop}
use Rattle.gw_stream.specs.declared.waits.Stop.TheVariants as stops
use Rattle.gw_stream.specs.Drawing.{HearsWhile}
use Rattle.gw_stream.specs.Waits.{Side, LossCause, Waited, loss_acts, loss_bill}
use Rattle.gw_transport.specs.declared.replying.HeadHeard.{HeadHeard}
use Rattle.gw_transport.specs.declared.replying.HeadHeard.TheVariants as heard
use Rattle.gw_transport.specs.declared.attempts.Tried.{Tried}
use Rattle.gw_transport.specs.declared.attempts.Tried.TheVariants as tried
use Rattle.gw_transport.specs.declared.replying.Begun.{Begun}
use Rattle.gw_transport.specs.declared.replying.End.{End}
use Rattle.gw_transport.specs.declared.replying.End.TheVariants as end
use Rattle.gw_transport.specs.Attempts.{TriedCause}
use Rattle.gw_transport.specs.Leasing.{Lateness}

-- ---- one head

-- reads of a link while a head isn't whole
abbrev pub HearsHead : ℕ → List ℕ → List ℕ → List Act → Type 0
HearsHead = HearsWhile IsUndecided

-- bytes that begin with a head that fails a check, or with more than a head may have
abbrev pub IsRefusedHead : List ℕ → Type 0
IsRefusedHead bytes =
    ((front : List ℕ) × (behind : List ℕ) × (error : HeadError) × (bytes ≡ front ++ behind) × BadReplyHead front error) ⊎ IsTooLong bytes

-- what was read for a head, behind the bytes that were ahead; behind a whole one `left` is ahead
abbrev pub HearsFor : ℕ → List ℕ → List ℕ → HeadHeard → List Act → Type 0
HearsFor link ahead left (heard.Head head) acts = (text : List ℕ) × ReplyHeadOf text head × HearsHead link ahead (text ++ left) acts
HearsFor link ahead left heard.Bad acts = (bytes : List ℕ) × IsRefusedHead bytes × HearsHead link ahead bytes acts
HearsFor link ahead left (heard.Lost why some) acts =
    (bytes : List ℕ) × IsUndecided bytes × (some ≡ nat_lt 0 (length bytes)) × Then (HearsHead link ahead bytes) (Acts (loss_acts link why)) acts
HearsFor link ahead left heard.NoMemory acts = (bytes : List ℕ) × HearsHead link ahead bytes acts

abbrev pub heard_bill : HeadHeard → Bill
heard_bill (heard.Head head) = free
heard_bill heard.Bad = free
heard_bill (heard.Lost why some) = loss_bill None why
heard_bill heard.NoMemory = free

abbrev pub HeardCause : Side → Side → LinkView → LinkView → HeadHeard → Type 0
HeardCause old new from to (heard.Head head) = Unit {0}
HeardCause old new from to heard.Bad = Unit {0}
HeardCause old new from to (heard.Lost why some) = LossCause old new from to None why
HeardCause old new from to heard.NoMemory = Unit {0}

-- a head was waited for
pub record HeadStep (old new : Side) (from to : LinkView) (ahead left : List ℕ) (result : HeadHeard) : Type 0 where
  pub waited : Waited old new (heard_bill result) (HearsFor from.number ahead left result)
  pub link : LinkLater from to
  pub cause : HeardCause old new from to result

-- ---- a reply's head, behind informational ones

-- a code of a final reply
abbrev pub is_final : ℕ → Bool
is_final code = nat_le 200 code

-- a code of an informational reply that is dropped; 101 would change the protocol, which was not asked for
abbrev pub is_informational : ℕ → Bool
is_informational code = nat_le 100 code && (nat_lt code 200 && not (code == 101))

-- so many informational heads, one behind another
abbrev pub Informs : ℕ → List ℕ → Type 0
Informs zero bytes = bytes ≡ []
Informs (suc n) bytes =
    (front : List ℕ) × (text : List ℕ) × (head : ReplyHead)
    × (bytes ≡ front ++ text) × Informs n front × ReplyHeadOf text head × (is_informational head.code ≡ true)

-- bytes of a reply whose final head isn't whole: behind at most five informational heads nothing is decided
pub record IsOpenReply (bytes : List ℕ) : Type 0 where
  pub count : ℕ
  pub front : List ℕ
  pub behind : List ℕ
  pub few : count ≤ 5
  pub bytes_are : bytes ≡ front ++ behind
  pub informs : Informs count front
  pub undecided : IsUndecided behind

-- reads of a link of which nothing else is ahead, while the final head isn't whole
abbrev pub HearsReply : ℕ → List ℕ → List Act → Type 0
HearsReply link = HearsWhile IsOpenReply link []

-- a reply's final head came, and then `left`
pub record BeginsReply (link : ℕ) (head : ReplyHead) (left : List ℕ) (acts : List Act) : Type 0 where
  pub count : ℕ
  pub front : List ℕ
  pub text : List ℕ
  pub few : count ≤ 5
  pub informs : Informs count front
  pub head_of : ReplyHeadOf text head
  pub final : is_final head.code ≡ true
  pub hears : HearsReply link (front ++ (text ++ left)) acts

-- a head that isn't taken: it is refused, or neither final nor informational
abbrev pub IsNotTaken : List ℕ → Type 0
IsNotTaken bytes =
    IsRefusedHead bytes
    ⊎ ((text : List ℕ) × (behind : List ℕ) × (head : ReplyHead) × (bytes ≡ text ++ behind) × ReplyHeadOf text head
    × (is_final head.code ≡ false) × (is_informational head.code ≡ false))

-- a reply that isn't taken: its head isn't, or six informational ones came
abbrev pub IsBadReply : List ℕ → Type 0
IsBadReply bytes =
    ((count : ℕ) × (front : List ℕ) × (behind : List ℕ) × (count ≤ 5) × (bytes ≡ front ++ behind) × Informs count front × IsNotTaken behind)
    ⊎ ((front : List ℕ) × (behind : List ℕ) × (bytes ≡ front ++ behind) × Informs 6 front)

abbrev pub RefusesReply : ℕ → List Act → Type 0
RefusesReply link acts = (bytes : List ℕ) × IsBadReply bytes × HearsReply link bytes acts

-- nothing more came before the final head was whole, behind so many informational heads and these bytes
pub record LosesReply (link count : ℕ) (behind : List ℕ) (ending acts : List Act) : Type 0 where
  pub front : List ℕ
  pub few : count ≤ 5
  pub informs : Informs count front
  pub undecided : IsUndecided behind
  pub hears : Then (HearsReply link (front ++ behind)) (Acts ending) acts

-- a byte of the reply came before
abbrev pub IsAnswering : ℕ → List ℕ → Type 0
IsAnswering count behind = (0 < count) ⊎ (0 < length behind)

-- how a reply fails to begin
abbrev pub FailsToReply : ℕ → Failure → List Act → Type 0
FailsToReply link failure.NothingWritten acts = ⊥
FailsToReply link failure.FirstByte acts = LosesReply link 0 [] (ReadFailed link ∷ []) acts
FailsToReply link failure.ServerClosed acts = LosesReply link 0 [] (LinkEnd link ∷ []) acts
FailsToReply link failure.Broken acts =
    (count : ℕ) × (behind : List ℕ) × IsAnswering count behind
    × (LosesReply link count behind (LinkEnd link ∷ []) acts ⊎ LosesReply link count behind (ReadFailed link ∷ []) acts)
FailsToReply link failure.BadResponse acts = RefusesReply link acts
FailsToReply link failure.Deadline acts = (count : ℕ) × (behind : List ℕ) × LosesReply link count behind [] acts
FailsToReply link failure.Cancelled acts = (count : ℕ) × (behind : List ℕ) × LosesReply link count behind [] acts

-- what was read of a backend that was written a whole request with this method; behind a reply that begins its body is
-- read from its first place on, and `left` is ahead
abbrev pub Replies : ℕ → List ℕ → Place → List ℕ → Tried Begun End → List Act → Type 0
Replies link method place left (tried.Reply r) acts =
    (r.framing ≡ reply_framing_of r.head method) × (place ≡ begins r.framing) × BeginsReply link r.head left acts
Replies link method place left (tried.Failed why) acts = FailsToReply link why acts
Replies link method place left (tried.Over end.NoMemory) acts = (bytes : List ℕ) × HearsReply link bytes acts
Replies link method place left (tried.Over end.ClientEnd) acts = ⊥
Replies link method place left (tried.Over end.ClientFailed) acts = ⊥
Replies link method place left (tried.Over end.ClientTimeout) acts = ⊥
Replies link method place left (tried.Over (end.Body error)) acts = ⊥

-- ---- what an attempt was late by

-- by its deadline, or by the ticks of a wait
abbrev pub IsOfWait : Lateness → Type 0
IsOfWait Lateness.ByDeadline = Unit {0}
IsOfWait Lateness.ByRests = ⊥
IsOfWait Lateness.ByExpired = ⊥
IsOfWait Lateness.ByTicks = Unit {0}

abbrev pub late_bill : Lateness → Bill
late_bill Lateness.ByDeadline = free
late_bill Lateness.ByRests = free
late_bill Lateness.ByExpired = free
late_bill Lateness.ByTicks = record free { ticks = 1000000 }

-- what a failure costs
abbrev pub failure_bill : Lateness → Failure → Bill
failure_bill late failure.NothingWritten = free
failure_bill late failure.FirstByte = free
failure_bill late failure.ServerClosed = free
failure_bill late failure.Broken = free
failure_bill late failure.BadResponse = free
failure_bill late failure.Deadline = late_bill late
failure_bill late failure.Cancelled = free

abbrev pub tried_bill : {R E : Type 0} → Lateness → Tried R E → Bill
tried_bill late (tried.Reply r) = free
tried_bill late (tried.Failed why) = failure_bill late why
tried_bill late (tried.Over e) = free

-- a reply was waited for
pub record ReplyStep (old new : Side) (from to : LinkView) (method : List ℕ) (place : Place) (left : List ℕ) (result : Tried Begun End) : Type 0 where
  pub late : Lateness
  pub of_wait : IsOfWait late
  pub waited : Waited old new (tried_bill late result) (Replies from.number method place left result)
  pub link : LinkLater from to
  pub cause : TriedCause old.guard new.guard new.wire.moment late result

-- ---- on the way

-- the failure that a lost link is, where a byte of the reply had come or not; nothing is said of a backend's silence
abbrev pub stopped_by : Stop → Failure
stopped_by stops.Cancelled = failure.Cancelled
stopped_by stops.Deadline = failure.Deadline
stopped_by stops.Silent = failure.Deadline
stopped_by stops.Ticks = failure.Deadline

abbrev pub lost_by : Loss → Bool → Failure
lost_by loss.End true = failure.Broken
lost_by loss.End false = failure.ServerClosed
lost_by loss.Failed true = failure.Broken
lost_by loss.Failed false = failure.FirstByte
lost_by (loss.Stopped why) answering = stopped_by why

-- the failure that a failed write of a request is, of which some byte was taken or none
abbrev pub unwritten : Bool → Failure
unwritten true = failure.Broken
unwritten false = failure.NothingWritten
