-- The pool as one caller sees it: what contracts see of it, and what its calls do.
use Rattle.std.specs.Prelude.{◌≡◌, ℕ, ◌<◌, Bool, true, false, List, [], ◌∷◌, ◌++◌, ◌+◌, ◌-◌, ◌^◌, min, find, Option, Some, None}
use Rattle.std.specs.List.{list_all}
use Rattle.gw_wire.specs.Link.{LinkView}
use Rattle.gw_pool.specs.declared.limits.Limits.{Limits}
use Rattle.gw_pool.specs.declared.entry.Entry.{Entry}
use Rattle.gw_pool.specs.declared.entry.Call.{Call}
use Rattle.gw_pool.specs.declared.entry.Call.TheVariants as call
use Rattle.gw_pool.specs.declared.entry.Reply.{Reply}
use Rattle.gw_pool.specs.declared.entry.Reply.TheVariants as reply
use Rattle.gw_pool.specs.declared.rows.ConnRow.{ConnRow}
use Rattle.gw_pool.specs.declared.rows.Place.TheVariants.{Out}
use Rattle.gw_pool.specs.declared.leases.Lease.{Lease}
use Rattle.gw_pool.specs.declared.leases.Ticket.{Ticket}
use Rattle.gw_pool.specs.declared.leases.DialToken.{DialToken}
use Rattle.gw_pool.specs.declared.leases.Want.{Want}
use Rattle.gw_pool.specs.declared.leases.Want.TheVariants as want
use Rattle.gw_pool.specs.declared.leases.Ask.{Ask}
use Rattle.gw_pool.specs.declared.leases.Ask.TheVariants as ask
use Rattle.gw_pool.specs.declared.leases.Start.{Start}
use Rattle.gw_pool.specs.declared.leases.Start.TheVariants as start
use Rattle.gw_pool.specs.declared.leases.Put.{Put}
use Rattle.gw_pool.specs.declared.holding.Holding.{Holding}
use Rattle.gw_pool.specs.Closes.{IsOf, Closes}
use Rattle.gw_pool.specs.State.{State, has_number}
use Rattle.gw_pool.specs.Shelf.{is_among}
use Rattle.gw_pool.specs.Tokens.{names, has_lease, change, ticket_of, with_dial, without_dial, without_ticket, leased, without_lease}
use Rattle.gw_pool.specs.Machine.{Outcome, step, units, Standing, Served, MayDial, NotServed, NotComing, standing}
use Rattle.gw_pool.specs.History.{IsLegal, AreBelow, after, mine, refuses}

-- What contracts see of it: `seen` is the history that the caller knows, `mine` its own entries in it, `out` the wants
-- whose tokens were handed out and not taken back, `waits` how often it was told to wait, `fresh` the wants that were
-- made since it last took in what another caller knew. `audit_failed` is how often the audit sink refused a want or the
-- text's end, and `ended` whether the audit text was ended, behind which no call may follow: 0 and false where there is no
-- audit.
pub record Lent : Type 0 where
  pub limits : Limits
  pub number : ℕ
  pub seen : List Entry
  pub mine : List Entry
  pub out : List Holding
  pub waits : ℕ
  pub fresh : List ℕ
  pub audit_failed : ℕ
  pub ended : Bool

-- each unit of the caller is a want that its tokens name
abbrev pub AreNamed : Lent → Type 0
AreNamed lent = (want : ℕ) → is_among want (units (after lent.limits lent.seen) lent.number) ≡ true → find (names want) lent.out ≡ None → ⊥

-- What stays in every call: the limits, under which each caller may have a want, the caller's number, and whether the
-- audit text was ended. What the caller knew before, it knows still: since then other callers made the entries `others`,
-- and none else. What it knows is legal and of the pool's callers, its own entries in it are `mine`, and its tokens name
-- its units.
pub record Meets (old new : Lent) (others : List Entry) : Type 0 where
  pub limits : new.limits ≡ old.limits
  pub few : 0 < new.limits.per_pass
  pub number : new.number ≡ old.number
  pub foreign : mine others old.number ≡ []
  pub legal : IsLegal new.limits new.seen
  pub callers : AreBelow new.limits.passes new.seen
  pub own : mine new.seen new.number ≡ new.mine
  pub named : AreNamed new
  pub fresh : (want : ℕ) → is_among want old.fresh ≡ true → is_among want new.fresh ≡ true
  pub ended : new.ended ≡ old.ended

-- the history that a call meets, and the state there
abbrev pub met : Lent → List Entry → List Entry
met old others = old.seen ++ others

abbrev pub met_state : Lent → List Entry → State
met_state old others = after old.limits (old.seen ++ others)

abbrev pub entry_of : ℕ → Call → Reply → Entry
entry_of caller asked answer = record { caller = caller; call = asked; reply = answer }

-- a call that makes one entry, which is the machine's, and leads to the machine's next state
pub record Calls (old new : Lent) (others : List Entry) (asked : Call) (outcome : Outcome) : Type 0 where
  pub meets : Meets old new others
  pub fits : step old.limits (met_state old others) old.number asked ≡ Some outcome
  pub state : after old.limits new.seen ≡ outcome.state
  pub seen : new.seen ≡ met old others ++ entry_of old.number asked outcome.reply ∷ []
  pub mine : new.mine ≡ old.mine ++ entry_of old.number asked outcome.reply ∷ []

-- a call that makes no entry
pub record Looks (old new : Lent) (others : List Entry) : Type 0 where
  pub meets : Meets old new others
  pub seen : new.seen ≡ met old others
  pub mine : new.mine ≡ old.mine

-- what a call does to the tokens that are out, and to the count of waits; the audit sink refused nothing
pub record Leaves (old new : Lent) (tokens : List Holding) (count : ℕ) : Type 0 where
  pub out : new.out ≡ tokens
  pub waits : new.waits ≡ count
  pub audit_failed : new.audit_failed ≡ old.audit_failed

-- the reply of a want that was made
abbrev pub IsMade : ℕ → Reply → Type 0
IsMade want (reply.Given w conn) = w ≡ want
IsMade want (reply.Granted w) = w ≡ want
IsMade want (reply.Waiting w) = w ≡ want
IsMade want _ = ⊥

pub record WantMade (old new : Lent) (host now : ℕ) (t : Ticket) : Type 0 where
  pub others : List Entry
  pub outcome : Outcome
  pub calls : Calls old new others (call.Want host now) outcome
  pub room : refuses old.limits (met old others) ≡ false
  pub made : IsMade t.want outcome.reply
  pub names : t.host ≡ host
  pub fresh : is_among t.want new.fresh ≡ true
  pub leaves : Leaves old new (old.out ++ ticket_of t.want ∷ []) old.waits

pub record WantExpired {C : Type 0} (link : C → LinkView) (old new : Lent) (host now : ℕ) (conn : C) : Type 0 where
  pub others : List Entry
  pub outcome : Outcome
  pub calls : Calls old new others (call.Want host now) outcome
  pub room : refuses old.limits (met old others) ≡ false
  pub close : IsOf link conn outcome.gone
  pub leaves : Leaves old new old.out old.waits

pub record WantFull (old new : Lent) : Type 0 where
  pub others : List Entry
  pub looks : Looks old new others
  pub full : refuses new.limits new.seen ≡ true
  pub leaves : Leaves old new old.out old.waits

abbrev pub WantStep : {C : Type 0} → (C → LinkView) → Lent → Lent → ℕ → ℕ → Want C → Type 0
WantStep link old new host now (want.Ticket t) = WantMade old new host now t
WantStep link old new host now (want.Expired conn) = WantExpired link old new host now conn
WantStep link old new host now want.JournalFull = WantFull old new

-- a lease that is out: its numbers are those of its row, and its connection is the row's
abbrev pub row_of : {C : Type 0} → ℕ → Lease C → ConnRow
row_of caller l = record { conn = l.no; host = l.host; link = l.link; reused = l.reused; place = Out l.want caller }

pub record LeaseOf {C : Type 0} (link : C → LinkView) (lent : Lent) (l : Lease C) : Type 0 where
  pub out : has_lease l.want lent.out ≡ true
  pub row : find (has_number l.no) (after lent.limits lent.seen).conns ≡ Some (row_of lent.number l)
  pub conn : (link l.conn).number ≡ l.link

pub record AskTaken {C : Type 0} (link : C → LinkView) (old new : Lent) (t : Ticket) (l : Lease C) : Type 0 where
  pub others : List Entry
  pub looks : Looks old new others
  pub stands : standing (met_state old others) t.want ≡ Served (row_of old.number l)
  pub want : l.want ≡ t.want
  pub lease : LeaseOf link new l
  pub leaves : Leaves old new (change t.want leased old.out) old.waits

pub record AskGranted (old new : Lent) (t back : Ticket) : Type 0 where
  pub others : List Entry
  pub looks : Looks old new others
  pub stands : standing (met_state old others) t.want ≡ MayDial
  pub same : back ≡ t
  pub leaves : Leaves old new old.out old.waits

-- The want isn't served yet: that is said of one that the caller made since it last took in what another knew, and while
-- no token of another want is out.
pub record AskNotYet (old new : Lent) (t back : Ticket) : Type 0 where
  pub others : List Entry
  pub looks : Looks old new others
  pub stands : is_among t.want old.fresh ≡ true → list_all (names t.want) old.out ≡ true → standing (met_state old others) t.want ≡ NotServed
  pub same : back ≡ t
  pub leaves : Leaves old new old.out (min (old.waits + 1) (2 ^ 64 - 1))

pub record AskFailed (old new : Lent) (t : Ticket) : Type 0 where
  pub others : List Entry
  pub looks : Looks old new others
  pub stands : standing (met_state old others) t.want ≡ NotComing
  pub leaves : Leaves old new (change t.want without_ticket old.out) old.waits

abbrev pub AskStep : {C : Type 0} → (C → LinkView) → Lent → Lent → Ticket → Ask C → Type 0
AskStep link old new t (ask.Taken l) = AskTaken link old new t l
AskStep link old new t (ask.Granted back) = AskGranted old new t back
AskStep link old new t (ask.NotYet back) = AskNotYet old new t back
AskStep link old new t ask.Failed = AskFailed old new t

-- the exact clause of one that asks the pool itself: whatever want it is, it isn't served yet where the answer says so
abbrev pub LooksAtRows : {C : Type 0} → Lent → Ticket → Ask C → Type 0
LooksAtRows new t (ask.Taken l) = Unit {0}
LooksAtRows new t (ask.Granted back) = Unit {0}
LooksAtRows new t (ask.NotYet back) = standing (after new.limits new.seen) t.want ≡ NotServed
LooksAtRows new t ask.Failed = Unit {0}

pub record StartGo (old new : Lent) (t : Ticket) (d : DialToken) : Type 0 where
  pub others : List Entry
  pub outcome : Outcome
  pub calls : Calls old new others (call.Start t.want) outcome
  pub reply : outcome.reply ≡ reply.Go
  pub want : d.want ≡ t.want
  pub host : d.host ≡ t.host
  pub leaves : Leaves old new (change t.want with_dial old.out) old.waits

pub record StartNot (old new : Lent) (t : Ticket) : Type 0 where
  pub others : List Entry
  pub looks : Looks old new others
  pub stands : step old.limits (met_state old others) old.number (call.Start t.want) ≡ None
  pub leaves : Leaves old new old.out old.waits

abbrev pub StartStep : Lent → Lent → Ticket → Start → Type 0
StartStep old new t (start.Go d) = StartGo old new t d
StartStep old new t start.NotGranted = StartNot old new t

pub record DialedStep {C : Type 0} (link : C → LinkView) (old new : Lent) (d : DialToken) (number now : ℕ) (put : Put C) : Type 0 where
  pub others : List Entry
  pub outcome : Outcome
  pub calls : Calls old new others (call.Dialed d.want number now) outcome
  pub close : Closes link put.close outcome.gone
  pub leaves : Leaves old new (change d.want without_dial old.out) old.waits

pub record DialFailedStep (old new : Lent) (d : DialToken) : Type 0 where
  pub others : List Entry
  pub outcome : Outcome
  pub calls : Calls old new others (call.DialFailed d.want) outcome
  pub leaves : Leaves old new (change d.want without_dial old.out) old.waits

-- a want that is coming is cancelled by an entry; for one whose own dial failed before it was served there is none
pub record CancelMade {C : Type 0} (link : C → LinkView) (old new : Lent) (others : List Entry) (t : Ticket) (now : ℕ) (put : Put C) : Type 0 where
  pub outcome : Outcome
  pub calls : Calls old new others (call.Cancel t.want now) outcome
  pub close : Closes link put.close outcome.gone

pub record CancelNot {C : Type 0} (old new : Lent) (others : List Entry) (put : Put C) : Type 0 where
  pub looks : Looks old new others
  pub close : put.close ≡ None

abbrev pub CancelBy : {C : Type 0} → (C → LinkView) → Lent → Lent → List Entry → Ticket → ℕ → Put C → Standing → Type 0
CancelBy link old new others t now put (Served row) = CancelMade link old new others t now put
CancelBy link old new others t now put MayDial = CancelMade link old new others t now put
CancelBy link old new others t now put NotServed = CancelMade link old new others t now put
CancelBy link old new others t now put NotComing = CancelNot old new others put

pub record CancelStep {C : Type 0} (link : C → LinkView) (old new : Lent) (t : Ticket) (now : ℕ) (put : Put C) : Type 0 where
  pub others : List Entry
  pub does : CancelBy link old new others t now put (standing (met_state old others) t.want)
  pub leaves : Leaves old new (change t.want without_ticket old.out) old.waits

pub record DropStep (old new : Lent) (conn want : ℕ) : Type 0 where
  pub others : List Entry
  pub outcome : Outcome
  pub calls : Calls old new others (call.Drop conn) outcome
  pub leaves : Leaves old new (change want without_lease old.out) old.waits

-- a lease is given back
pub record BackStep {C : Type 0} (link : C → LinkView) (old new : Lent) (conn want now : ℕ) (put : Put C) : Type 0 where
  pub others : List Entry
  pub outcome : Outcome
  pub calls : Calls old new others (call.GiveBack conn now) outcome
  pub close : Closes link put.close outcome.gone
  pub leaves : Leaves old new (change want without_lease old.out) old.waits

-- the least recently idle connection is taken out, and its taker closes it; or the call fits for nobody
pub record IdleTaken {C : Type 0} (link : C → LinkView) (old new : Lent) (asked : Call) (conn : C) : Type 0 where
  pub others : List Entry
  pub outcome : Outcome
  pub calls : Calls old new others asked outcome
  pub close : IsOf link conn outcome.gone
  pub leaves : Leaves old new old.out old.waits

pub record IdleNot (old new : Lent) (asked : Call) : Type 0 where
  pub others : List Entry
  pub looks : Looks old new others
  pub unfit : (caller : ℕ) → step old.limits (met_state old others) caller asked ≡ None
  pub leaves : Leaves old new old.out old.waits

abbrev pub IdleStep : {C : Type 0} → (C → LinkView) → Lent → Lent → Call → Option C → Type 0
IdleStep link old new asked (Some conn) = IdleTaken link old new asked conn
IdleStep link old new asked None = IdleNot old new asked
