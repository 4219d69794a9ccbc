-- How a trip comes to a connection, and what each answer says.
use Rattle.std.specs.Prelude.{ℕ, ◌≡◌, ◌<◌, ◌⊎◌, Bool, true, false, List, [], ◌∷◌, Option}
use Rattle.gw_wire.specs.declared.values.Addr.{Addr}
use Rattle.gw_wire.specs.Causes.{Rose}
use Rattle.gw_wire.specs.Link.{LinkView}
use Rattle.gw_wire.specs.Wire.{WireView}
use Rattle.gw_pool.specs.declared.entry.Entry.{Entry}
use Rattle.gw_pool.specs.declared.entry.Reply.{Reply}
use Rattle.gw_pool.specs.declared.entry.Reply.TheVariants as reply
use Rattle.gw_pool.specs.declared.holding.Holding.{Holding}
use Rattle.gw_pool.specs.declared.leases.Lease.{Lease}
use Rattle.gw_pool.specs.declared.rows.ConnRow.{ConnRow}
use Rattle.gw_pool.specs.History.{after}
use Rattle.gw_pool.specs.Gone.{number_of}
use Rattle.gw_pool.specs.Keeps as keeps
use Rattle.gw_pool.specs.Keeps.{IsOut, is_early}
use Rattle.gw_pool.specs.Lent.{Lent, LeaseOf, Looks, row_of}
use Rattle.gw_pool.specs.Places.{is_granted}
use Rattle.gw_pool.specs.Shelf.{is_among}
use Rattle.gw_pool.specs.State.{State}
use Rattle.gw_pool.specs.Tokens.{ticket_of}
use Rattle.gw_account.specs.Did.{Span, Went}
use Rattle.gw_account.specs.Work.{Work, At, free, Seq}
use Rattle.gw_transport.specs.declared.leasing.Leased.{Leased}
use Rattle.gw_transport.specs.declared.leasing.Leased.TheVariants as leased
use Rattle.gw_transport.specs.declared.leasing.Wanted.{Wanted}
use Rattle.gw_transport.specs.declared.leasing.Wanted.TheVariants as wanted
use Rattle.gw_stream.specs.Guard.{GuardView, IsDue}
use Rattle.gw_transport.specs.Parts.{Way, Cancels, Closes, Comes, Ends, Expires, Fails, FindsExpired, Fits, GivesUp, IsPlace, IsRefused, IsWaiting, Leases, Repeats, Sees, Unreached, Wants, a_million_rests}
use Rattle.gw_transport.specs.Stretch.{Part, Stretch}

-- the caller goes on with these tokens out
pub record Holds (lent : Lent) (tokens : List Holding) : Type 0 where
  pub out : lent.out ≡ tokens
  pub running : lent.ended ≡ false

-- no token of the caller is out, and it may have a want
pub record IsRested (lent : Lent) : Type 0 where
  pub holds : Holds lent []
  pub few : 0 < lent.limits.per_pass

-- a want's ticket alone is out, and the pool stands so for it
pub record IsPending (lent : Lent) (want : ℕ) (P : ℕ → State → Type 0) : Type 0 where
  pub holds : Holds lent (ticket_of want ∷ [])
  pub few : 0 < lent.limits.per_pass
  pub fresh : is_among want lent.fresh ≡ true
  pub stands : P lent.number (after lent.limits lent.seen)

abbrev pub lent_to : ℕ → Holding
lent_to want = record { want = want; ticket = false; dial = false; lease = true }

-- this lease alone is out
pub record IsLeased {C : Type 0} (link : C → LinkView) (lent : Lent) (l : Lease C) : Type 0 where
  pub holds : Holds lent (lent_to l.want ∷ [])
  pub few : 0 < lent.limits.per_pass
  pub lease : LeaseOf link lent l

-- what a trip was late by: its deadline, a million rests of a want that waits, a million wants that found expired
-- connections, or a million ticks of one wait on a backend's link
pub data Lateness : Type 0 where
  ByDeadline : Lateness
  ByRests : Lateness
  ByExpired : Lateness
  ByTicks : Lateness

abbrev pub IsLate : Lateness → Option ℕ → ℕ → Type 0
IsLate ByDeadline deadline moment = IsDue deadline moment
IsLate ByRests deadline moment = Unit {0}
IsLate ByExpired deadline moment = Unit {0}
IsLate ByTicks deadline moment = Unit {0}

-- wants that found expired connections, fewer than a million, and this behind them
abbrev pub Clearing : ℕ → (At → Work → Type 0) → At → Work → Type 0
Clearing host P a w = (count : ℕ) × (count < 1000000) × Seq (Repeats count (FindsExpired host)) P a w

-- a trip that stops looks before its want, or gives it up
abbrev pub Stops : ℕ → At → Work → Type 0
Stops host a w = Sees free a w ⊎ Clearing host (GivesUp host free IsPlace) a w

abbrev pub LateBy : ℕ → Lateness → At → Work → Type 0
LateBy host ByDeadline a w = Stops host a w
LateBy host ByRests a w = Clearing host (GivesUp host a_million_rests IsWaiting) a w
LateBy host ByExpired a w = Repeats 1000000 (FindsExpired host) a w
LateBy host ByTicks a w = ⊥

-- what was done for each answer
abbrev pub LeasedBy : {C : Type 0} → ℕ → Addr → Lateness → Leased C → At → Work → Type 0
LeasedBy host backend late (leased.Lease l) a w = Clearing host (Leases host backend l.want (row_of a.caller l)) a w
LeasedBy host backend late leased.Unreachable a w = Clearing host (Unreached host backend) a w
LeasedBy host backend late leased.Full a w = Clearing host IsRefused a w
LeasedBy host backend late leased.Cancelled a w = Stops host a w
LeasedBy host backend late leased.Late a w = LateBy host late a w

-- when each answer may come
abbrev pub LeaseCause : {C : Type 0} → GuardView → GuardView → ℕ → Lateness → Leased C → Type 0
LeaseCause old new moment late (leased.Lease l) = Unit {0}
LeaseCause old new moment late leased.Unreachable = Unit {0}
LeaseCause old new moment late leased.Full = Unit {0}
LeaseCause old new moment late leased.Cancelled = Rose old.cancels new.cancels
LeaseCause old new moment late leased.Late = IsLate late old.deadline moment

-- what is out behind each answer
abbrev pub Left : {C : Type 0} → (C → LinkView) → Lent → Leased C → Type 0
Left link lent (leased.Lease l) = IsLeased link lent l
Left link lent leased.Unreachable = IsRested lent
Left link lent leased.Full = IsRested lent
Left link lent leased.Cancelled = IsRested lent
Left link lent leased.Late = IsRested lent

-- ---- the parts of it

-- how the pool stands for a want that was answered so, whoever called since
abbrev pub AnswerStands : ℕ → ℕ → Reply → ℕ → State → Type 0
AnswerStands host want (reply.Given w conn) caller s = (w ≡ want) × ((row : ConnRow) × (row.conn ≡ conn) × (row.host ≡ host) × IsOut want caller row s)
AnswerStands host want (reply.Granted w) caller s = (w ≡ want) × keeps.Comes is_granted want host caller s
AnswerStands host want (reply.Waiting w) caller s = (w ≡ want) × keeps.Comes is_early want host caller s
AnswerStands host want _ caller s = ⊥

abbrev pub IsAsked : Lent → ℕ → ℕ → Reply → Type 0
IsAsked lent host want answer = IsPending lent want (AnswerStands host want answer)

-- what a call left to be closed was closed
pub record LeftStep {C : Type 0} (link : C → LinkView) (old new : WireView) (left : Option C) : Type 0 where
  pub went : Went old new (Closes (number_of link left))
  pub asked : new.asked ≡ old.asked
  pub moment : new.moment ≡ old.moment

pub record ExpiredStep (s : Span) (now : ℕ) : Type 0 where
  pub did : Part s (Expires now)
  pub moment : s.new.moment ≡ s.old.moment
  pub rested : IsRested s.after

abbrev pub WantedBy : ℕ → Reply → Wanted → At → Work → Type 0
WantedBy host answer (wanted.Ticket t) a w = Clearing host (Wants host t.want answer) a w
WantedBy host answer wanted.Full a w = Clearing host IsRefused a w
WantedBy host answer wanted.Late a w = Repeats 1000000 (FindsExpired host) a w

abbrev pub WantLeft : Lent → ℕ → Reply → Wanted → Type 0
WantLeft lent host answer (wanted.Ticket t) = IsAsked lent host t.want answer
WantLeft lent host answer wanted.Full = IsRested lent
WantLeft lent host answer wanted.Late = IsRested lent

pub record WantedStep (s : Span) (host : ℕ) (result : Wanted) : Type 0 where
  pub answer : Reply
  pub did : Part s (WantedBy host answer result)
  pub moment : s.new.moment ≡ s.old.moment
  pub left : WantLeft s.after host answer result

pub record TakenStep {C : Type 0} (link : C → LinkView) (old new : Lent) (want : ℕ) (l : Lease C) : Type 0 where
  pub others : List Entry
  pub looks : Looks old new others
  pub waits : new.waits ≡ old.waits
  pub leased : IsLeased link new l
  pub is_want : l.want ≡ want
  pub row : (row : ConnRow) → IsOut want old.number row (after old.limits old.seen) → row_of old.number l ≡ row

-- what was done where a dial was granted
abbrev pub DialedBy : {C : Type 0} → ℕ → Addr → ℕ → Way → Leased C → At → Work → Type 0
DialedBy host backend want way (leased.Lease l) a w = (l.want ≡ want) × Comes host backend want (row_of a.caller l) way a w
DialedBy host backend want way leased.Unreachable a w = Fails host backend want a w
DialedBy host backend want way leased.Full a w = ⊥
DialedBy host backend want way leased.Cancelled a w = ⊥
DialedBy host backend want way leased.Late a w = ⊥

pub record DialedStep {C : Type 0} (link : C → LinkView) (s : Span) (host : ℕ) (backend : Addr) (want : ℕ) (result : Leased C) : Type 0 where
  pub way : Way
  pub did : Part s (DialedBy host backend want way result)
  pub left : Left link s.after result

pub record GaveUpStep (s : Span) (want : ℕ) : Type 0 where
  pub did : Part s (Cancels want)
  pub moment : s.new.moment ≡ s.old.moment
  pub rested : IsRested s.after

-- a want that a trip made at a host, to dial this backend for it, and how the pool answered
pub record Asked : Type 0 where
  pub host : ℕ
  pub backend : Addr
  pub want : ℕ
  pub answer : Reply

abbrev pub asked : ℕ → Addr → ℕ → Reply → Asked
asked host backend want answer = record { host = host; backend = backend; want = want; answer = answer }

-- what was done behind it
abbrev pub WaitedBy : {C : Type 0} → Asked → Way → Lateness → Leased C → At → Work → Type 0
WaitedBy q way late (leased.Lease l) a w =
    (l.want ≡ q.want) × Fits q.want q.answer (row_of a.caller l) way × Comes q.host q.backend q.want (row_of a.caller l) way a w
WaitedBy q way late leased.Unreachable a w = IsPlace q.want q.answer × Fails q.host q.backend q.want a w
WaitedBy q way late leased.Full a w = ⊥
WaitedBy q way late leased.Cancelled a w = IsPlace q.want q.answer × Seq (Sees free) (Cancels q.want) a w
WaitedBy q way ByDeadline leased.Late a w = IsPlace q.want q.answer × Seq (Sees free) (Cancels q.want) a w
WaitedBy q way ByRests leased.Late a w = IsWaiting q.want q.answer × Seq (Sees a_million_rests) (Cancels q.want) a w
WaitedBy q way ByExpired leased.Late a w = ⊥
WaitedBy q way ByTicks leased.Late a w = ⊥

pub record WaitedStep {C : Type 0} (link : C → LinkView) (s : Span) (from to : GuardView) (q : Asked) (result : Leased C) : Type 0 where
  pub way : Way
  pub late : Lateness
  pub did : Stretch s from to (WaitedBy q way late result)
  pub cause : LeaseCause from to s.new.moment late result
  pub left : Left link s.after result

pub record EndStep (s : Span) (conn : ℕ) (reusable : Bool) : Type 0 where
  pub did : Part s (Ends reusable conn)
  pub rested : IsRested s.after

pub record LeasedStep {C : Type 0} (link : C → LinkView) (s : Span) (from to : GuardView) (host : ℕ) (backend : Addr) (result : Leased C) : Type 0 where
  pub late : Lateness
  pub did : Stretch s from to (LeasedBy host backend late result)
  pub cause : LeaseCause from to s.new.moment late result
  pub left : Left link s.after result
