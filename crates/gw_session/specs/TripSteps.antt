-- The steps of a trip and of its reply, beside what a worker watches.
use Rattle.std.specs.Prelude.{ℕ, ◌≡◌, ◌≤◌, ◌<◌, Bool, true, false, List, ◌++◌, length, Option, Some, None}
use Rattle.gw_wire.specs.Causes.{Rose}
use Rattle.gw_wire.specs.Link.{LinkView}
use Rattle.gw_context.specs.Node.{node_at, root}
use Rattle.gw_context.specs.Tree.{TreeView}
use Rattle.gw_account.specs.Did.{Span, Went}
use Rattle.gw_account.specs.Work.{Work, At, Only, both}
use Rattle.gw_stream.specs.declared.beginning.Began.{Began}
use Rattle.gw_stream.specs.declared.beginning.Began.TheVariants as began
use Rattle.gw_stream.specs.declared.relaying.Incoming.{Incoming}
use Rattle.gw_stream.specs.declared.relaying.Relayed.{Relayed}
use Rattle.gw_stream.specs.declared.relaying.Silences.{Silences}
use Rattle.gw_stream.specs.declared.waits.Sent.{Sent}
use Rattle.gw_stream.specs.Beginning.{Begins, IsBegun, began_bill}
use Rattle.gw_stream.specs.Filling.{Passing, passing}
use Rattle.gw_stream.specs.Guard.{IsDue}
use Rattle.gw_stream.specs.Relaying as relaying
use Rattle.gw_stream.specs.Relaying.{Came, Interleaved, TextFor, came_bill, relayed_by}
use Rattle.gw_stream.specs.Waits.{Says, sent_bill}
use Rattle.gw_transport.specs.declared.attempts.Attempted.{Attempted}
use Rattle.gw_transport.specs.declared.attempts.Attempted.TheVariants as attempted
use Rattle.gw_transport.specs.declared.attempts.Order.{Order}
use Rattle.gw_transport.specs.declared.buffers.Buffers.{Buffers}
use Rattle.gw_transport.specs.declared.replying.Begun.{Begun}
use Rattle.gw_transport.specs.declared.replying.End.{End}
use Rattle.gw_transport.specs.Attempts.{LeftOut}
use Rattle.gw_transport.specs.Leasing.{Lateness}
use Rattle.gw_transport.specs.Watch.{IsLeast, IsRunning, times_found}
use Rattle.gw_session.specs.declared.client.Client.{Client}
use Rattle.gw_session.specs.declared.end.Ended.{Ended}
use Rattle.gw_session.specs.Ending.{over_end, relayed_next}
use Rattle.gw_session.specs.Passing.{Asking, IsLossOfBackend, Outcome, Trace, TripsKept, TripsOn, TripView, is_due_loss, is_due_outcome, is_due_relay}
use Rattle.gw_session.specs.Stand.{Done, Goes, Line, Spot, Stand}
use Rattle.gw_session.specs.Turn.{is_cancelled_loss, is_cancelled_outcome, is_cancelled_relay}

-- ---- trips

-- a node of the tree of deadlines that a trip is late by, below node 0, which never ends
pub record IsTimed (tree : TreeView) (node : ℕ) : Type 0 where
  pub inside : node < length tree.nodes
  pub running : IsRunning tree node
  pub least : IsLeast tree.nodes node
  pub first : node_at tree.nodes 0 ≡ root

abbrev pub deadline_of : TreeView → ℕ → Option ℕ
deadline_of tree node = (node_at tree.nodes node).deadline

-- a client is the same but for its link and the moment that its tree was told last
pub record IsTimedClient {C : Type 0} (old new : Client C) (node moment : ℕ) : Type 0 where
  pub peer : new.peer ≡ old.peer
  pub table : new.table ≡ old.table
  pub requests : new.requests ≡ old.requests
  pub timed : IsTimed new.tree node
  pub deadline : deadline_of new.tree node ≡ deadline_of old.tree node
  pub told : old.tree.last ≤ new.tree.last
  pub last : new.tree.last ≤ moment

-- a trip's outcome, whatever its lease has of the link
abbrev pub plain : {C : Type 0} → Attempted C Begun End → Outcome
plain (attempted.Reply l begun) = attempted.Reply (record { conn = tt; no = l.no; want = l.want; host = l.host; link = l.link; reused = l.reused }) begun
plain (attempted.Failed why) = attempted.Failed why
plain (attempted.Over e) = attempted.Over e
plain attempted.Unreachable = attempted.Unreachable
plain attempted.Full = attempted.Full

-- a trip that ends so ends the session, where its client did
abbrev pub trip_next : Outcome → Option Ended
trip_next (attempted.Over e) = Some (over_end e)
trip_next _ = None

-- a trip was made, of which this holds, by what it came to and what that was late by; where it was late its deadline has
-- come, and where it was cancelled that was found in it
pub record MadeStep {C : Type 0} (link : C → LinkView) (s : Span) (old new : Stand) (p : Spot) (since : ℕ) (deadline : Option ℕ)
    (Does : Outcome → Lateness → At → Work → Type 0) (result : Attempted C Begun End) : Type 0 where
  pub late : Lateness
  pub done : Done s (Does (plain result) late)
  pub goes : Goes old new p since false (trip_next (plain result))
  pub left : LeftOut link s.after result
  pub due : is_due_outcome (plain result) late ≡ true → IsDue deadline s.new.moment
  pub cancelled : is_cancelled_outcome (plain result) ≡ true → Rose (times_found p.own old.seats.words.view.ended) (times_found p.own new.seats.words.view.ended)

abbrev pub trip_view : Order → Outcome → Lateness → TripView
trip_view order outcome late = record { host = order.host; backend = order.addr.now; outcome = outcome; late = late }

-- what a trip leaves in a worker's buffers
abbrev pub trace_of : ℕ → Buffers → Trace
trace_of told buffers = record { told = told; read = buffers.client.body; place = buffers.backend.body; ahead = buffers.backend.inbox }

abbrev pub KeptTrip : Order → List ℕ → Buffers → Outcome → Lateness → At → Work → Type 0
KeptTrip order d buffers outcome late = TripsKept order.out.now d (trip_view order outcome late) (trace_of 0 buffers)

abbrev pub OnTrip : Asking → Order → ℕ → Buffers → Outcome → Lateness → At → Work → Type 0
OnTrip q order told buffers outcome late = TripsOn q buffers.client.inbox (trip_view order outcome late) (trace_of told buffers)

-- an upload of which nothing was taken: `kept` is ahead of its client's link
abbrev pub asking_of : Order → Line → Bool → List ℕ → Asking
asking_of order l expect kept = record { out = order.out.now; line = l; expect = expect; kept = kept }

-- ---- a reply

abbrev pub is_due_began : Began → Bool
is_due_began (began.Lost why) = is_due_loss why
is_due_began _ = false

abbrev pub is_cancelled_began : Began → Bool
is_cancelled_began (began.Lost why) = is_cancelled_loss why
is_cancelled_began _ = false

abbrev pub IsOfBackend : Began → Type 0
IsOfBackend (began.Lost why) = IsLossOfBackend why
IsOfBackend _ = Unit {0}

-- where a backend's body stands, and what is on its way to the client
abbrev pub passing_of : Buffers → Passing
passing_of buffers = passing buffers.backend.body buffers.backend.inbox buffers.out

-- the first piece of a reply was waited for
pub record BegunStep (old new : Stand) (p : Spot) (since link : ℕ) (before after : Passing) (deadline : Option ℕ) (result : Began) : Type 0 where
  pub given : List ℕ
  pub out : after.out ≡ record before.out { begun = before.out.begun ++ given }
  pub begun : IsBegun result after.out.begun
  pub went : Went old.wire new.wire (Only (began_bill None result) (Begins link before.place before.ahead given after.place after.ahead result))
  pub goes : Goes old new p since false None
  pub of_backend : IsOfBackend result
  pub due : is_due_began result ≡ true → IsDue deadline new.wire.moment
  pub cancelled : is_cancelled_began result ≡ true → Rose (times_found p.own old.seats.words.view.ended) (times_found p.own new.seats.words.view.ended)

-- the rest of a reply was passed on
pub record RelayedStep (old new : Stand) (p : Spot) (since link : ℕ) (before : Passing) (after : Incoming) (deadline : Option ℕ) (result : Relayed) : Type 0 where
  pub given : List ℕ
  pub came : Came
  pub text : List ℕ
  pub said : Sent
  pub text_is : TextFor before.out.text before.out.in_chunks (before.out.begun ++ given) came text
  pub result_is : result ≡ relayed_by came said
  pub went : Went old.wire new.wire (Only (both (came_bill None came) (sent_bill (Some p.table.client_ms) said))
      (Interleaved (Says p.client text said) (relaying.Comes link before.place before.ahead given after.body after.inbox came)))
  pub goes : Goes old new p since false (relayed_next result None)
  pub due : is_due_relay result ≡ true → IsDue deadline new.wire.moment
  pub cancelled : is_cancelled_relay result ≡ true → Rose (times_found p.own old.seats.words.view.ended) (times_found p.own new.seats.words.view.ended)

-- the pauses of a relay to a client
abbrev pub to_client : ℕ → Silences
to_client silence = record { source = None; target = Some silence }
