-- Laws of exchanges, over whole stretches.
use Rattle.std.specs.Prelude.{ℕ, ◌≡◌, ◌≤◌, ◌⊎◌, Bool, List, [], ◌++◌}
use Rattle.gw_wire.specs.declared.values.Act.{Act}
use Rattle.gw_wire.specs.Acts.{bytes_read, bytes_written}
use Rattle.gw_wire.specs.Link.{LinkView}
use Rattle.gw_wire.specs.Wire.{WireView}
use Rattle.gw_head.specs.Head.{ReplyHeadOf}
use Rattle.gw_body.specs.declared.place.Place.{Place}
use Rattle.gw_pool.specs.declared.leases.Lease.{Lease}
use Rattle.gw_pool.specs.Lent.{Lent}
use Rattle.gw_account.specs.Did.{span}
use Rattle.gw_account.specs.Work.{Bill, Only, Seq}
use Rattle.gw_stream.specs.declared.waits.Sent.{Sent}
use Rattle.gw_stream.specs.Guard.{GuardView}
use Rattle.gw_stream.specs.Relaying.{Came, Comes}
use Rattle.gw_stream.specs.Waits.{Waited, side}
use Rattle.gw_transport.specs.declared.attempts.Attempted.TheVariants as attempted
use Rattle.gw_transport.specs.declared.attempts.Tried.{Tried}
use Rattle.gw_transport.specs.declared.attempts.Tried.TheVariants as tried
use Rattle.gw_transport.specs.declared.replying.Begun.{Begun}
use Rattle.gw_transport.specs.declared.replying.End.{End}
use Rattle.gw_transport.specs.Attempts.{AttemptedBy, ErrandView, TripStep}
use Rattle.gw_transport.specs.Leasing.{EndStep, Lateness}
use Rattle.gw_transport.specs.Parts.{Ends, Expires}
use Rattle.gw_transport.specs.Replying.{Informs}
use Rattle.gw_transport.specs.Sending.{Exchanges, ExchangesKept, KeptView}
use Rattle.gw_transport.specs.Stretch.{Stretch}
use Rattle.gw_transport.specs.Uploading.{UploadView, Uploads, continue_of}

-- what a backend's link took is a front of the request, and all of it where anything was read of the link
pub record IsFrontOfRequest (link : ℕ) (text : List ℕ) (acts : List Act) : Type 0 where
  pub rest : List ℕ
  pub front : bytes_written link acts ++ rest ≡ text
  pub all : (rest ≡ []) ⊎ (bytes_read link acts ≡ [])

abbrev pub RequestsAreWritten : Type 0
RequestsAreWritten =
    (link : ℕ) (text method left : List ℕ) (place : Place) (result : Tried Begun End) (acts : List Act) → Exchanges link text method place left result acts
    → IsFrontOfRequest link text acts

-- what was read of a link whose reply began is five informational heads at most, the reply's head, and what is ahead
pub record IsReadOfReply (link : ℕ) (r : Begun) (left : List ℕ) (acts : List Act) : Type 0 where
  pub count : ℕ
  pub front : List ℕ
  pub text : List ℕ
  pub few : count ≤ 5
  pub informs : Informs count front
  pub head : ReplyHeadOf text r.head
  pub read : bytes_read link acts ≡ front ++ (text ++ left)

abbrev pub RepliesAreRead : Type 0
RepliesAreRead =
    (link : ℕ) (text method left : List ℕ) (place : Place) (r : Begun) (acts : List Act) → Exchanges link text method place left (tried.Reply r) acts
    → IsReadOfReply link r left acts

-- A trip with a reply, what came of its body behind it, and the lease's end are one stretch of work: no wait of it began
-- at or past the deadline.
abbrev pub ExchangesAreWhole : {C : Type 0} → (C → LinkView) → Type 0
ExchangesAreWhole {C} link =
    (x y z w : WireView) (a b c : Lent) (f g h : GuardView) (errand : ErrandView) (from to : KeptView) (l : Lease C) (r : Begun) (u : Bill)
    → (d left : List ℕ) (new : Place) (came : Came) (reusable : Bool)
    → TripStep {E = End} link (span x y a b) f g (AttemptedBy ExchangesKept errand from to (attempted.Reply l r)) (attempted.Reply l r)
    → Waited (side y g) (side z h) u (Comes l.link to.place to.ahead d new left came) → EndStep (span z w b c) l.no reusable
    → (at : ℕ) × (late : Lateness)
    × Stretch (span x w a c) f h
    (Seq (Seq (Expires at) (AttemptedBy {C = C} {E = End} ExchangesKept errand from to (attempted.Reply l r) late))
    (Seq (Only u (Comes l.link to.place to.ahead d new left came)) (Ends reusable l.no)))

-- What an upload did on either link, where their numbers differ: the client was told to go on, if it waits for that, and
-- nothing else; nothing was read of the backend's link, which took a front of the text for what came.
pub record IsApart (from : UploadView) (link : ℕ) (text : List ℕ) (acts : List Act) : Type 0 where
  pub told : bytes_written from.client acts ≡ continue_of from.expect
  pub unread : bytes_read link acts ≡ []
  pub rest : List ℕ
  pub front : bytes_written link acts ++ rest ≡ text

abbrev pub UploadsAreApart : Type 0
UploadsAreApart =
    (from to : UploadView) (link : ℕ) (came : Came) (said : Sent) (acts : List Act) → (from.client ≡ link → ⊥) → (u : Uploads from to link came said acts)
    → IsApart from link u.text acts
