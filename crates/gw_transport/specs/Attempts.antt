-- The attempts of a trip, whatever one attempt does: `Does` is the fact on its stretch of work.
use Rattle.std.specs.Prelude.{ℕ, zero, suc, ◌≡◌, ◌≤◌, ◌<◌, ◌⊎◌, Bool, true, false, List, [], ◌∷◌}
use Rattle.gw_wire.specs.declared.values.Addr.{Addr}
use Rattle.gw_wire.specs.Causes.{Rose}
use Rattle.gw_wire.specs.Link.{LinkView}
use Rattle.gw_wire.specs.Wire.{WireView}
use Rattle.gw_pool.specs.declared.rows.ConnRow.{ConnRow}
use Rattle.gw_pool.specs.Lent.{Lent, row_of}
use Rattle.gw_retry.specs.declared.BodyKind.{BodyKind}
use Rattle.gw_retry.specs.declared.BodyKind.TheVariants as kind
use Rattle.gw_retry.specs.declared.Failure.{Failure}
use Rattle.gw_retry.specs.declared.Failure.TheVariants as failure
use Rattle.gw_retry.specs.Retry.{may_retry_of}
use Rattle.gw_account.specs.Did.{Span, Went}
use Rattle.gw_account.specs.Work.{Work, At, free, Seq}
use Rattle.gw_transport.specs.declared.attempts.Attempted.{Attempted}
use Rattle.gw_transport.specs.declared.attempts.Attempted.TheVariants as attempted
use Rattle.gw_transport.specs.declared.attempts.Order.{Order}
use Rattle.gw_transport.specs.declared.attempts.Tried.{Tried}
use Rattle.gw_transport.specs.declared.attempts.Tried.TheVariants as tried
use Rattle.gw_stream.specs.Guard.{GuardView}
use Rattle.gw_transport.specs.Leasing.{Clearing, IsLate, IsLeased, IsRested, LateBy, Lateness, Stops}
use Rattle.gw_transport.specs.Parts.{Ends, Expires, IsRefused, Leases, Sees, Unreached}
use Rattle.gw_stream.specs.Watched.{Watched}
use Rattle.gw_transport.specs.Stretch.{Stretch}

-- where a request goes, and what says whether it may be sent again
pub record ErrandView : Type 0 where
  pub host : ℕ
  pub backend : Addr
  pub method : List ℕ
  pub has_key : Bool
  pub body : BodyKind

abbrev pub kind_of : List ℕ → BodyKind
kind_of [] = kind.Empty
kind_of (b ∷ d) = kind.Rewindable

-- of an order with a body that is kept
abbrev pub errand_of : Order → List ℕ → ErrandView
errand_of order body = record {
  host = order.host;
  backend = order.addr.now;
  method = order.out.now.method;
  has_key = order.out.now.has_key;
  body = kind_of body;
}

-- whether another attempt may follow the one of this number, counted from 1, that failed on this connection
abbrev pub may_go_on : ErrandView → Failure → ConnRow → ℕ → Bool
may_go_on errand why row number = may_retry_of why row.reused errand.method errand.has_key errand.body number

-- when a failure may be that the trip is late or was cancelled
abbrev pub FailureCause : GuardView → GuardView → ℕ → Lateness → Failure → Type 0
FailureCause from to moment late failure.Cancelled = Rose from.cancels to.cancels
FailureCause from to moment late failure.Deadline = IsLate late from.deadline moment
FailureCause from to moment late failure.NothingWritten = Unit {0}
FailureCause from to moment late failure.FirstByte = Unit {0}
FailureCause from to moment late failure.ServerClosed = Unit {0}
FailureCause from to moment late failure.Broken = Unit {0}
FailureCause from to moment late failure.BadResponse = Unit {0}

-- ---- one attempt

abbrev pub TriedCause : {R E : Type 0} → GuardView → GuardView → ℕ → Lateness → Tried R E → Type 0
TriedCause from to moment late (tried.Reply r) = Unit {0}
TriedCause from to moment late (tried.Failed why) = FailureCause from to moment late why
TriedCause from to moment late (tried.Over e) = Unit {0}

pub record AttemptStep {R E : Type 0} (old new : WireView) (from to : GuardView) (does : Lateness → At → Work → Type 0) (result : Tried R E) : Type 0 where
  pub late : Lateness
  pub went : Went old new (does late)
  pub watched : Watched old new from to
  pub cause : TriedCause from to new.moment late result

-- ---- attempts one after another

-- a want came to a connection, and an attempt was made on it
abbrev pub Tries : ErrandView → ℕ → ConnRow → (At → Work → Type 0) → At → Work → Type 0
Tries errand want row attempt = Seq (Clearing errand.host (Leases errand.host errand.backend want row)) attempt

-- and behind it the lease was dropped
abbrev pub TriesInVain : ErrandView → (ConnRow → At → Work → Type 0) → ℕ → ConnRow → At → Work → Type 0
TriesInVain errand attempt want row = Seq (Tries errand want row (attempt row)) (Ends false row.conn)

-- the attempt of this number failed, and another one may follow or may not
abbrev pub FailedOnce : ErrandView → Bool → ℕ → Failure → (ConnRow → At → Work → Type 0) → At → Work → Type 0
FailedOnce errand more number why attempt a w =
    (want : ℕ) × (row : ConnRow) × (may_go_on errand why row number ≡ more) × TriesInVain errand attempt want row a w

-- so many attempts failed, behind each of which another one may follow
abbrev pub Retries : {M R E : Type 0} → (M → M → ℕ → Tried R E → Lateness → At → Work → Type 0) → ErrandView → ℕ → M → M → At → Work → Type 0
Retries Does errand zero from to a w = (to ≡ from) × Sees free a w
Retries {M} Does errand (suc n) from to a w =
    (mid : M) × (why : Failure)
    × Seq (Retries Does errand n from mid) (FailedOnce errand true (suc n) why (λ row b v. (late : Lateness) × Does mid to row.link (tried.Failed why) late b v)) a w

-- fewer than eight attempts failed so, and this came behind them
abbrev pub Behind : {M R E : Type 0} → (M → M → ℕ → Tried R E → Lateness → At → Work → Type 0) → ErrandView → M → (ℕ → M → At → Work → Type 0) → At → Work → Type 0
Behind {M} Does errand from P a w = (n : ℕ) × (n < 8) × ((mid : M) × Seq (Retries Does errand n from mid) (P n mid) a w)

-- no further connection came, since the trip was cancelled or late
abbrev pub Misses : ℕ → Lateness → Failure → At → Work → Type 0
Misses host late failure.Cancelled a w = Stops host a w
Misses host late failure.Deadline a w = LateBy host late a w
Misses host late failure.NothingWritten a w = ⊥
Misses host late failure.FirstByte a w = ⊥
Misses host late failure.ServerClosed a w = ⊥
Misses host late failure.Broken a w = ⊥
Misses host late failure.BadResponse a w = ⊥

-- what was done for each answer
abbrev pub AttemptedBy : {C M R E : Type 0} → (M → M → ℕ → Tried R E → Lateness → At → Work → Type 0) → ErrandView → M → M → Attempted C R E → Lateness → At → Work → Type 0
AttemptedBy Does errand from to (attempted.Reply l r) late a w =
    Behind Does errand from (λ n mid b v. Tries errand l.want (row_of a.caller l) (Does mid to l.link (tried.Reply r) late) b v) a w
AttemptedBy Does errand from to (attempted.Failed why) late a w =
    Behind Does errand from (λ n mid b v. FailedOnce errand false (suc n) why (λ row. Does mid to row.link (tried.Failed why) late) b v ⊎ ((to ≡ mid) × Misses errand.host late why b v)) a w
AttemptedBy Does errand from to (attempted.Over e) late a w =
    Behind Does errand from (λ n mid b v. (want : ℕ) × (row : ConnRow) × TriesInVain errand (λ r. Does mid to r.link (tried.Over e) late) want row b v) a w
AttemptedBy Does errand from to attempted.Unreachable late a w =
    Behind Does errand from (λ n mid b v. (to ≡ mid) × Clearing errand.host (Unreached errand.host errand.backend) b v) a w
AttemptedBy Does errand from to attempted.Full late a w =
    Behind Does errand from (λ n mid b v. (to ≡ mid) × Clearing errand.host IsRefused b v) a w

abbrev pub AttemptedCause : {C R E : Type 0} → GuardView → GuardView → ℕ → Lateness → Attempted C R E → Type 0
AttemptedCause from to moment late (attempted.Reply l r) = Unit {0}
AttemptedCause from to moment late (attempted.Failed why) = FailureCause from to moment late why
AttemptedCause from to moment late (attempted.Over e) = Unit {0}
AttemptedCause from to moment late attempted.Unreachable = Unit {0}
AttemptedCause from to moment late attempted.Full = Unit {0}

-- what is out behind each answer
abbrev pub LeftOut : {C R E : Type 0} → (C → LinkView) → Lent → Attempted C R E → Type 0
LeftOut link lent (attempted.Reply l r) = IsLeased link lent l
LeftOut link lent (attempted.Failed why) = IsRested lent
LeftOut link lent (attempted.Over e) = IsRested lent
LeftOut link lent attempted.Unreachable = IsRested lent
LeftOut link lent attempted.Full = IsRested lent

pub record AttemptedStep {C R E : Type 0} (link : C → LinkView) (s : Span) (from to : GuardView) (does : Lateness → At → Work → Type 0) (result : Attempted C R E) : Type 0 where
  pub late : Lateness
  pub did : Stretch s from to (does late)
  pub cause : AttemptedCause from to s.new.moment late result
  pub left : LeftOut link s.after result

-- a trip begins with one look for a connection that is due, at a moment that is read in it
pub record TripStep {C R E : Type 0} (link : C → LinkView) (s : Span) (from to : GuardView) (does : Lateness → At → Work → Type 0) (result : Attempted C R E) : Type 0 where
  pub at : ℕ
  pub begun : s.old.moment ≤ at
  pub within : at ≤ s.new.moment
  pub step : AttemptedStep link s from to (λ late. Seq (Expires at) (does late)) result
