-- What a trip and its reply's parts come to, of what their calls say.
use Rattle.std.proofs.Common.{ℕ, ◌≡◌, Bool, true, List, Option, None, refl, sym, subst, ◌∙◌, inl, inr}
use Rattle.gw_wire.specs.Causes.{Rose}
use Rattle.gw_wire.specs.Link.{LinkView, LinkLater}
use Rattle.gw_wire.specs.Wire.{WireView}
use Rattle.gw_body.specs.Places.{begins}
use Rattle.gw_pool.specs.declared.leases.Lease.{Lease}
use Rattle.gw_pool.specs.Lent.{Lent}
use Rattle.gw_retry.specs.declared.Failure.{Failure}
use Rattle.gw_retry.specs.declared.Failure.TheVariants as failure
use Rattle.gw_account.specs.Did.{Span}
use Rattle.gw_account.specs.Work.{Work, At}
use Rattle.gw_stream.specs.declared.beginning.Began.{Began}
use Rattle.gw_stream.specs.declared.beginning.Began.TheVariants as began
use Rattle.gw_stream.specs.declared.relaying.Incoming.{Incoming}
use Rattle.gw_stream.specs.declared.relaying.Relayed.{Relayed}
use Rattle.gw_stream.specs.declared.relaying.Relayed.TheVariants as relayed
use Rattle.gw_stream.specs.declared.waits.Loss.{Loss}
use Rattle.gw_stream.specs.declared.waits.Loss.TheVariants as loss
use Rattle.gw_stream.specs.declared.waits.Stop.TheVariants as stops
use Rattle.gw_stream.specs.Beginning.{BeganCause, FirstStep}
use Rattle.gw_stream.specs.Filling.{Passing}
use Rattle.gw_stream.specs.Guard.{GuardView, IsDue}
use Rattle.gw_stream.specs.Relaying.{RelayCause, RelayStep}
use Rattle.gw_stream.specs.Waits.{LossCause, Side, side}
use Rattle.gw_transport.specs.declared.attempts.Attempted.{Attempted}
use Rattle.gw_transport.specs.declared.attempts.Attempted.TheVariants as attempted
use Rattle.gw_transport.specs.declared.attempts.Order.{Order}
use Rattle.gw_transport.specs.declared.attempts.Tried.{Tried}
use Rattle.gw_transport.specs.declared.attempts.Tried.TheVariants as tried
use Rattle.gw_transport.specs.declared.buffers.Buffers.{Buffers}
use Rattle.gw_transport.specs.declared.replying.Begun.{Begun}
use Rattle.gw_transport.specs.declared.replying.End.{End}
use Rattle.gw_transport.specs.declared.replying.End.TheVariants as end
use Rattle.gw_transport.specs.declared.uploading.Upload.{Upload}
use Rattle.gw_transport.specs.Attempts.{AttemptedBy, AttemptedCause, ErrandView, FailureCause, TripStep, errand_of}
use Rattle.gw_transport.specs.Leasing.{IsLate, IsLeased, Lateness}
use Rattle.gw_transport.specs.Sending.{ExchangesKept, KeptView, kept_view}
use Rattle.gw_transport.specs.Uploading.{ExchangesUpload, TripClientCause, upload_errand, upload_view}
use Rattle.gw_session.specs.Ending.{relayed_next}
use Rattle.gw_session.specs.Passing.{IsLossOfBackend, is_due_loss, is_due_outcome, is_due_relay}
use Rattle.gw_session.specs.Seats.{Seats}
use Rattle.gw_session.specs.Stand.{EndCause, Spot, line_of, stand}
use Rattle.gw_session.specs.TripSteps.{BegunStep, IsOfBackend, KeptTrip, MadeStep, OnTrip, RelayedStep, asking_of, is_cancelled_began, is_due_began, plain, to_client, trip_next}
use Rattle.gw_session.specs.Turn.{is_cancelled_loss, is_cancelled_outcome, is_cancelled_relay}
use Rattle.gw_wire.proofs.Facts.{link_same}
use Rattle.gw_session.proofs.WatchSeats.{Looks}

-- ---- a trip's outcome

plain_by : {C M : Type 0} (Does : M → M → ℕ → Tried Begun End → Lateness → At → Work → Type 0) (errand : ErrandView) (from to : M) (result : Attempted C Begun End) (late : Lateness) (a : At) (w : Work)
    → AttemptedBy Does errand from to result late a w → AttemptedBy Does errand from to (plain result) late a w
plain_by Does errand from to (attempted.Reply l r) late a w by = by
plain_by Does errand from to (attempted.Failed why) late a w by = by
plain_by Does errand from to (attempted.Over e) late a w by = by
plain_by Does errand from to attempted.Unreachable late a w by = by
plain_by Does errand from to attempted.Full late a w by = by

due_late : (deadline : Option ℕ) (moment : ℕ) (late : Lateness) → IsLate late deadline moment → is_due_outcome (attempted.Failed failure.Deadline) late ≡ true → IsDue deadline moment
due_late deadline moment Lateness.ByDeadline cause e = cause
due_late deadline moment Lateness.ByRests cause e = cc
due_late deadline moment Lateness.ByExpired cause e = cc
due_late deadline moment Lateness.ByTicks cause e = cc

due_failure : (f g : GuardView) (moment : ℕ) (late : Lateness) (why : Failure) → FailureCause f g moment late why
    → is_due_outcome (attempted.Failed why) late ≡ true → IsDue f.deadline moment
due_failure f g moment late failure.Deadline cause e = due_late f.deadline moment late cause e
due_failure f g moment late failure.Cancelled cause e = cc
due_failure f g moment late failure.NothingWritten cause e = cc
due_failure f g moment late failure.FirstByte cause e = cc
due_failure f g moment late failure.ServerClosed cause e = cc
due_failure f g moment late failure.Broken cause e = cc
due_failure f g moment late failure.BadResponse cause e = cc

due_trip : {C : Type 0} (f g : GuardView) (moment : ℕ) (late : Lateness) (result : Attempted C Begun End) → AttemptedCause f g moment late result
    → is_due_outcome (plain result) late ≡ true → IsDue f.deadline moment
due_trip f g moment late (attempted.Reply l r) cause e = cc
due_trip f g moment late (attempted.Failed why) cause e = due_failure f g moment late why cause e
due_trip f g moment late (attempted.Over o) cause e = cc
due_trip f g moment late attempted.Unreachable cause e = cc
due_trip f g moment late attempted.Full cause e = cc

cancelled_failure : (f g : GuardView) (moment : ℕ) (late : Lateness) (why : Failure) → FailureCause f g moment late why
    → is_cancelled_outcome (attempted.Failed why) ≡ true → Rose f.cancels g.cancels
cancelled_failure f g moment late failure.Cancelled cause e = cause
cancelled_failure f g moment late failure.Deadline cause e = cc
cancelled_failure f g moment late failure.NothingWritten cause e = cc
cancelled_failure f g moment late failure.FirstByte cause e = cc
cancelled_failure f g moment late failure.ServerClosed cause e = cc
cancelled_failure f g moment late failure.Broken cause e = cc
cancelled_failure f g moment late failure.BadResponse cause e = cc

cancelled_trip : {C : Type 0} (f g : GuardView) (moment : ℕ) (late : Lateness) (result : Attempted C Begun End) → AttemptedCause f g moment late result
    → is_cancelled_outcome (plain result) ≡ true → Rose f.cancels g.cancels
cancelled_trip f g moment late (attempted.Reply l r) cause e = cc
cancelled_trip f g moment late (attempted.Failed why) cause e = cancelled_failure f g moment late why cause e
cancelled_trip f g moment late (attempted.Over o) cause e = cc
cancelled_trip f g moment late attempted.Unreachable cause e = cc
cancelled_trip f g moment late attempted.Full cause e = cc

-- ---- how its client ended

-- no attempt with a kept body says that the client's link ended or failed
kept_over : (from to : KeptView) (link : ℕ) (e : End) (late : Lateness) (a : At) (w : Work) → ExchangesKept from to link (tried.Over e) late a w → e ≡ end.NoMemory
kept_over from to link end.NoMemory late a w x = refl
kept_over from to link end.ClientEnd late a w x = elim x.only.2 [
  | inl t ↦ absurd t.4
  | inr t ↦ absurd t
]
kept_over from to link end.ClientFailed late a w x = elim x.only.2 [
  | inl t ↦ absurd t.4
  | inr t ↦ absurd t
]
kept_over from to link end.ClientTimeout late a w x = elim x.only.2 [
  | inl t ↦ absurd t.4
  | inr t ↦ absurd t
]
kept_over from to link (end.Body error) late a w x = elim x.only.2 [
  | inl t ↦ absurd t.4
  | inr t ↦ absurd t
]

over_kept : (C : Type 0) (errand : ErrandView) (from to : KeptView) (e : End) (late : Lateness) (a : At) (w : Work)
    → AttemptedBy {C = C} ExchangesKept errand from to (attempted.Over e) late a w → e ≡ end.NoMemory
over_kept C errand from to e late a w by =
    let s = by.2.1.4 in
    kept_over by.2.0 to s.1.link e late _ _ s.2.3.4

kept_cause : {C : Type 0} (errand : ErrandView) (from to : KeptView) (result : Attempted C Begun End) (late : Lateness) (a : At) (w : Work) (l : LinkView) (seen : Bool)
    → AttemptedBy ExchangesKept errand from to result late a w → EndCause l l seen (trip_next (plain result))
kept_cause errand from to (attempted.Reply m r) late a w l seen by = tt
kept_cause errand from to (attempted.Failed why) late a w l seen by = tt
kept_cause {C = C} errand from to (attempted.Over e) late a w l seen by =
    let P : End → Type 0 = λ o. EndCause l l seen (trip_next (plain {C = C} (attempted.Over o))) in
    subst P (sym (over_kept C errand from to e late a w by)) tt
kept_cause errand from to attempted.Unreachable late a w l seen by = tt
kept_cause errand from to attempted.Full late a w l seen by = tt

upload_cause : {C : Type 0} (l m : LinkView) (result : Attempted C Begun End) (seen : Bool) → TripClientCause l m result → EndCause l m seen (trip_next (plain result))
upload_cause l m (attempted.Reply n r) seen cause = tt
upload_cause l m (attempted.Failed why) seen cause = tt
upload_cause l m (attempted.Over end.ClientEnd) seen cause = cause
upload_cause l m (attempted.Over end.ClientFailed) seen cause = cause
upload_cause l m (attempted.Over end.ClientTimeout) seen cause = tt
upload_cause l m (attempted.Over end.NoMemory) seen cause = tt
upload_cause l m (attempted.Over (end.Body error)) seen cause = tt
upload_cause l m attempted.Unreachable seen cause = tt
upload_cause l m attempted.Full seen cause = tt

-- ---- a trip

pub kept_made : {C : Type 0} (link : C → LinkView) (s : Span) (f g : GuardView) (order : Order) (d : List ℕ) (room size : ℕ) (old new : Buffers) (l : LinkView) (p : Spot) (x y : Seats) (result : Attempted C Begun End)
    → TripStep link s f g (AttemptedBy ExchangesKept (errand_of order d) (kept_view order.out.now d old.backend room) (kept_view order.out.now d new.backend size) result) result
    → Looks f g x y p s.new.moment
    → MadeStep link s (stand s.old l x) (stand s.new l y) p f.last f.deadline (KeptTrip order d new) result
kept_made link s f g order d room size old new l p x y result t looks =
    let from = kept_view order.out.now d old.backend room in
    let to = kept_view order.out.now d new.backend size in
    let m = t.step in
    let q = m.did.does in
    record {
      late = m.late;
      done = record {
        work = m.did.work;
        doing = m.did.doing;
        does = record {
          at = t.at;
          from = from;
          to = to;
          out_is = refl;
          body = refl;
          place = refl;
          ahead = refl;
          does = (q.0, q.1, q.2, q.3, plain_by ExchangesKept (errand_of order d) from to result m.late _ q.1 q.4);
        };
      };
      goes = record {
        link = link_same l;
        seats = looks.seats;
        held = looks.held;
        cause = kept_cause (errand_of order d) from to result m.late _ q.1 l y.gate.view.seen_shut q.4;
      };
      left = m.left;
      due = due_trip f g s.new.moment m.late result m.cause;
      cancelled = λ e. looks.found (cancelled_trip f g s.new.moment m.late result m.cause e);
    }

pub upload_made : {C : Type 0} (link : C → LinkView) (s : Span) (f g : GuardView) (order : Order) (before after : Upload) (old new : Buffers) (l n : LinkView) (p : Spot) (x y : Seats) (result : Attempted C Begun End)
    → TripStep link s f g (AttemptedBy ExchangesUpload (upload_errand order) (upload_view order.out.now l.number before old.client old.backend)
    (upload_view order.out.now n.number after new.client new.backend) result) result
    → Looks f g x y p s.new.moment → LinkLater l n → TripClientCause l n result
    → l.number ≡ p.client → before.continued ≡ 0 → before.client_ms ≡ p.table.client_ms → old.client.body ≡ begins order.out.now.framing
    → MadeStep link s (stand s.old l x) (stand s.new n y) p f.last f.deadline (OnTrip (asking_of order (line_of p) before.expect old.client.inbox) order after.continued new) result
upload_made link s f g order before after old new l n p x y result t looks later cause client untold silence begun =
    let from = upload_view order.out.now l.number before old.client old.backend in
    let to = upload_view order.out.now n.number after new.client new.backend in
    let m = t.step in
    let q = m.did.does in
    record {
      late = m.late;
      done = record {
        work = m.did.work;
        doing = m.did.doing;
        does = record {
          at = t.at;
          from = from;
          to = to;
          asked = record { out = refl; client = client; expect = refl; untold = untold; silence = silence; body = begun; ahead = refl };
          left_is = refl;
          told = refl;
          read = refl;
          place = refl;
          ahead = refl;
          does = (q.0, q.1, q.2, q.3, plain_by ExchangesUpload (upload_errand order) from to result m.late _ q.1 q.4);
        };
      };
      goes = record {
        link = later;
        seats = looks.seats;
        held = looks.held;
        cause = upload_cause l n result y.gate.view.seen_shut cause;
      };
      left = m.left;
      due = due_trip f g s.new.moment m.late result m.cause;
      cancelled = λ e. looks.found (cancelled_trip f g s.new.moment m.late result m.cause e);
    }

-- ---- a reply

loss_backend : (a b : Side) (from to : LinkView) (why : Loss) → LossCause a b from to None why → IsLossOfBackend why
loss_backend a b from to loss.End cause = tt
loss_backend a b from to loss.Failed cause = tt
loss_backend a b from to (loss.Stopped stops.Cancelled) cause = tt
loss_backend a b from to (loss.Stopped stops.Deadline) cause = tt
loss_backend a b from to (loss.Stopped stops.Silent) cause = (let bad = cause.1 in cc)
loss_backend a b from to (loss.Stopped stops.Ticks) cause = tt

loss_due : (a b : Side) (from to : LinkView) (silence : Option ℕ) (why : Loss) → LossCause a b from to silence why → is_due_loss why ≡ true → IsDue a.guard.deadline b.wire.moment
loss_due a b from to silence loss.End cause e = cc
loss_due a b from to silence loss.Failed cause e = cc
loss_due a b from to silence (loss.Stopped stops.Cancelled) cause e = cc
loss_due a b from to silence (loss.Stopped stops.Deadline) cause e = cause
loss_due a b from to silence (loss.Stopped stops.Silent) cause e = cc
loss_due a b from to silence (loss.Stopped stops.Ticks) cause e = cc

loss_cancelled : (a b : Side) (from to : LinkView) (silence : Option ℕ) (why : Loss) → LossCause a b from to silence why → is_cancelled_loss why ≡ true
    → Rose a.guard.cancels b.guard.cancels
loss_cancelled a b from to silence loss.End cause e = cc
loss_cancelled a b from to silence loss.Failed cause e = cc
loss_cancelled a b from to silence (loss.Stopped stops.Cancelled) cause e = cause
loss_cancelled a b from to silence (loss.Stopped stops.Deadline) cause e = cc
loss_cancelled a b from to silence (loss.Stopped stops.Silent) cause e = cc
loss_cancelled a b from to silence (loss.Stopped stops.Ticks) cause e = cc

began_backend : (a b : Side) (from to : LinkView) (result : Began) → BeganCause a b from to None result → IsOfBackend result
began_backend a b from to began.Piece cause = tt
began_backend a b from to began.Whole cause = tt
began_backend a b from to (began.Bad error) cause = tt
began_backend a b from to (began.Lost why) cause = loss_backend a b from to why cause
began_backend a b from to began.Spent cause = tt

began_due : (a b : Side) (from to : LinkView) (result : Began) → BeganCause a b from to None result → is_due_began result ≡ true → IsDue a.guard.deadline b.wire.moment
began_due a b from to began.Piece cause e = cc
began_due a b from to began.Whole cause e = cc
began_due a b from to (began.Bad error) cause e = cc
began_due a b from to (began.Lost why) cause e = loss_due a b from to None why cause e
began_due a b from to began.Spent cause e = cc

began_cancelled : (a b : Side) (from to : LinkView) (result : Began) → BeganCause a b from to None result → is_cancelled_began result ≡ true → Rose a.guard.cancels b.guard.cancels
began_cancelled a b from to began.Piece cause e = cc
began_cancelled a b from to began.Whole cause e = cc
began_cancelled a b from to (began.Bad error) cause e = cc
began_cancelled a b from to (began.Lost why) cause e = loss_cancelled a b from to None why cause e
began_cancelled a b from to began.Spent cause e = cc

pub begun_step : (a b : WireView) (f g : GuardView) (link : ℕ) (before after : Passing) (from to l : LinkView) (p : Spot) (x y : Seats) (result : Began)
    → FirstStep (side a f) (side b g) link before after None result → BeganCause (side a f) (side b g) from to None result → Looks f g x y p b.moment
    → BegunStep (stand a l x) (stand b l y) p f.last link before after f.deadline result
begun_step a b f g link before after from to l p x y result s cause looks = record {
  given = s.given;
  out = s.out;
  begun = s.begun;
  went = s.waited.went;
  goes = record { link = link_same l; seats = looks.seats; held = looks.held; cause = tt };
  of_backend = began_backend (side a f) (side b g) from to result cause;
  due = began_due (side a f) (side b g) from to result cause;
  cancelled = λ e. looks.found (began_cancelled (side a f) (side b g) from to result cause e);
}

-- ---- its rest

relay_cause : (a b : Side) (from to l m : LinkView) (silence : ℕ) (result : Relayed) (seen : Bool) → RelayCause a b from to l m (to_client silence) result
    → EndCause l m seen (relayed_next result None)
relay_cause a b from to l m silence relayed.Whole seen cause = tt
relay_cause a b from to l m silence (relayed.Bad error) seen cause = tt
relay_cause a b from to l m silence (relayed.Lost why) seen cause = tt
relay_cause a b from to l m silence (relayed.WriteFailed some) seen cause = cause
relay_cause a b from to l m silence (relayed.WriteStopped stops.Cancelled) seen cause = tt
relay_cause a b from to l m silence (relayed.WriteStopped stops.Deadline) seen cause = tt
relay_cause a b from to l m silence (relayed.WriteStopped stops.Silent) seen cause = tt
relay_cause a b from to l m silence (relayed.WriteStopped stops.Ticks) seen cause = tt
relay_cause a b from to l m silence relayed.Spent seen cause = tt

relay_due : (a b : Side) (from to l m : LinkView) (silence : ℕ) (result : Relayed) → RelayCause a b from to l m (to_client silence) result
    → is_due_relay result ≡ true → IsDue a.guard.deadline b.wire.moment
relay_due a b from to l m silence relayed.Whole cause e = cc
relay_due a b from to l m silence (relayed.Bad error) cause e = cc
relay_due a b from to l m silence (relayed.Lost why) cause e = loss_due a b from to None why cause e
relay_due a b from to l m silence (relayed.WriteFailed some) cause e = cc
relay_due a b from to l m silence (relayed.WriteStopped stops.Cancelled) cause e = cc
relay_due a b from to l m silence (relayed.WriteStopped stops.Deadline) cause e = cause
relay_due a b from to l m silence (relayed.WriteStopped stops.Silent) cause e = cc
relay_due a b from to l m silence (relayed.WriteStopped stops.Ticks) cause e = cc
relay_due a b from to l m silence relayed.Spent cause e = cc

relay_cancelled : (a b : Side) (from to l m : LinkView) (silence : ℕ) (result : Relayed) → RelayCause a b from to l m (to_client silence) result
    → is_cancelled_relay result ≡ true → Rose a.guard.cancels b.guard.cancels
relay_cancelled a b from to l m silence relayed.Whole cause e = cc
relay_cancelled a b from to l m silence (relayed.Bad error) cause e = cc
relay_cancelled a b from to l m silence (relayed.Lost why) cause e = loss_cancelled a b from to None why cause e
relay_cancelled a b from to l m silence (relayed.WriteFailed some) cause e = cc
relay_cancelled a b from to l m silence (relayed.WriteStopped stops.Cancelled) cause e = cause
relay_cancelled a b from to l m silence (relayed.WriteStopped stops.Deadline) cause e = cc
relay_cancelled a b from to l m silence (relayed.WriteStopped stops.Silent) cause e = cc
relay_cancelled a b from to l m silence (relayed.WriteStopped stops.Ticks) cause e = cc
relay_cancelled a b from to l m silence relayed.Spent cause e = cc

pub relayed_step : (a b : WireView) (f g : GuardView) (link : ℕ) (before : Passing) (after : Incoming) (from to l m : LinkView) (p : Spot) (x y : Seats) (result : Relayed)
    → RelayStep (side a f) (side b g) link p.client (to_client p.table.client_ms) before after result
    → RelayCause (side a f) (side b g) from to l m (to_client p.table.client_ms) result → LinkLater l m → Looks f g x y p b.moment
    → RelayedStep (stand a l x) (stand b m y) p f.last link before after f.deadline result
relayed_step a b f g link before after from to l m p x y result s cause later looks = record {
  given = s.given;
  came = s.came;
  text = s.text;
  said = s.said;
  text_is = s.text_is;
  result_is = s.result_is;
  went = s.waited.went;
  goes = record { link = later; seats = looks.seats; held = looks.held; cause = relay_cause (side a f) (side b g) from to l m p.table.client_ms result y.gate.view.seen_shut cause };
  due = relay_due (side a f) (side b g) from to l m p.table.client_ms result cause;
  cancelled = λ e. looks.found (relay_cancelled (side a f) (side b g) from to l m p.table.client_ms result cause e);
}

-- a lease whose link went on
pub leased_later : {C : Type 0} (link : C → LinkView) (l : Lease C) (conn : C) → LinkLater (link l.conn) (link conn)
    → (lent : Lent) → IsLeased link lent l → IsLeased link lent (record l { conn = conn })
leased_later link l conn later lent x =
    record { holds = x.holds; few = x.few; lease = record { out = x.lease.out; row = x.lease.row; conn = later.number ∙ x.lease.conn } }
