-- The pool over its journal: what contracts see of it, and what its calls do.
use Rattle.std.specs.Prelude.{◌≡◌, ℕ, Bool, true, false, List, [], ◌∷◌, ◌++◌, ◌+◌, ◌*◌, ◌^◌, ◌<◌, ◌≤◌, length, vec_capacity, Vec, Option, Some, None}
use Rattle.std.specs.List.{list_all}
use Rattle.std.specs.declared.alloc.Global.{Global}
use Rattle.gw_wire.specs.Link.{LinkView}
use Rattle.gw_pool.specs.declared.limits.Limits.{Limits}
use Rattle.gw_pool.specs.declared.entry.Entry.{Entry}
use Rattle.gw_pool.specs.declared.entry.Call.{Call}
use Rattle.gw_pool.specs.declared.entry.Call.TheVariants as call
use Rattle.gw_pool.specs.declared.entry.Reply.{Reply}
use Rattle.gw_pool.specs.declared.entry.Reply.TheVariants as reply
use Rattle.gw_pool.specs.declared.rows.ConnRow.{ConnRow}
use Rattle.gw_pool.specs.declared.machine.Rows.{Rows}
use Rattle.gw_pool.specs.declared.answers.CoreWant.{CoreWant}
use Rattle.gw_pool.specs.declared.answers.CoreWant.TheVariants as want
use Rattle.gw_pool.specs.declared.answers.CoreAsk.{CoreAsk}
use Rattle.gw_pool.specs.declared.answers.CoreAsk.TheVariants as ask
use Rattle.gw_pool.specs.Closes.{IsOf, Closes}
use Rattle.gw_pool.specs.State.{State, rests}
use Rattle.gw_pool.specs.Machine.{Outcome, step, Standing, Served, MayDial, NotServed, NotComing, standing}
use Rattle.gw_pool.specs.History.{IsLegal, AreBelow, after, refuses, room}
use Rattle.gw_pool.specs.Rows.{state_of}
use Rattle.gw_pool.specs.Shelf.{LeavesTaken, LeavesOthers}

-- what contracts see of the pool: its limits, its journal, and the wants whose connection was handed out
pub record CoreView : Type 0 where
  pub limits : Limits
  pub journal : List Entry
  pub taken : List ℕ

abbrev pub state_at : CoreView → State
state_at p = after p.limits p.journal

-- the rows are those of the journal, and there is room for all that the limits allow
pub record Holds {C : Type 0} (rows : Rows C) (journal : Vec Entry Global) : Type 0 where
  pub state : state_of rows ≡ after rows.limits journal.items
  pub legal : IsLegal rows.limits journal.items
  pub fits : length journal.items + room (state_of rows) ≤ rows.limits.journal
  pub small : rows.limits.journal < 2 ^ 32
  pub passes : 0 < rows.limits.passes
  pub callers : AreBelow rows.limits.passes journal.items
  pub wants : rows.limits.passes * rows.limits.per_pass + 1 ≤ vec_capacity rows.wants
  pub dials : rows.limits.passes * rows.limits.per_pass + 1 ≤ vec_capacity rows.dials
  pub conns : rows.limits.passes * rows.limits.per_pass + rows.limits.idle_total + 1 ≤ rows.conns.room
  pub entries : rows.limits.journal + 1 ≤ vec_capacity journal
  pub next_want : rows.next_want ≤ length journal.items
  pub next_conn : rows.next_conn ≤ length journal.items
  pub next_stamp : rows.next_stamp ≤ length journal.items

abbrev pub entry_of : ℕ → Call → Reply → Entry
entry_of caller asked answer = record { caller = caller; call = asked; reply = answer }

-- a call that makes one entry, which is the machine's
pub record Enters (old new : CoreView) (caller : ℕ) (asked : Call) (outcome : Outcome) : Type 0 where
  pub limits : new.limits ≡ old.limits
  pub fits : step old.limits (state_at old) caller asked ≡ Some outcome
  pub journal : new.journal ≡ old.journal ++ entry_of caller asked outcome.reply ∷ []
  pub legal : IsLegal new.limits new.journal
  pub taken : LeavesTaken old.taken new.taken

-- the reply of a want that was made
abbrev pub IsMade : ℕ → Reply → Type 0
IsMade made (reply.Given w conn) = w ≡ made
IsMade made (reply.Granted w) = w ≡ made
IsMade made (reply.Waiting w) = w ≡ made
IsMade made _ = ⊥

pub record WantMade (old new : CoreView) (caller host now made : ℕ) : Type 0 where
  pub outcome : Outcome
  pub enters : Enters old new caller (call.Want host now) outcome
  pub has_room : refuses old.limits old.journal ≡ false
  pub is_made : IsMade made outcome.reply

pub record WantExpired {C : Type 0} (link : C → LinkView) (old new : CoreView) (caller host now : ℕ) (conn : C) : Type 0 where
  pub outcome : Outcome
  pub enters : Enters old new caller (call.Want host now) outcome
  pub has_room : refuses old.limits old.journal ≡ false
  pub close : IsOf link conn outcome.gone

abbrev pub WantDone : {C : Type 0} → (C → LinkView) → CoreView → CoreView → ℕ → ℕ → ℕ → CoreWant C → Type 0
WantDone link old new caller host now (want.Made made) = WantMade old new caller host now made
WantDone link old new caller host now (want.Expired conn) = WantExpired link old new caller host now conn
WantDone link old new caller host now want.JournalFull = (new ≡ old) × (refuses old.limits old.journal ≡ true)

pub record AskTaken {C : Type 0} (link : C → LinkView) (old new : CoreView) (wanted : ℕ) (conn : C) (number : ℕ) (reused : Bool) (host : ℕ) : Type 0 where
  pub row : ConnRow
  pub stands : standing (state_at old) wanted ≡ Served row
  pub is_conn : (link conn).number ≡ row.link
  pub is_no : number ≡ row.conn
  pub is_reused : reused ≡ row.reused
  pub is_host : host ≡ row.host
  pub limits : new.limits ≡ old.limits
  pub journal : new.journal ≡ old.journal
  pub taken : LeavesOthers wanted old.taken new.taken

abbrev pub AskDone : {C : Type 0} → (C → LinkView) → CoreView → CoreView → ℕ → CoreAsk C → Type 0
AskDone link old new wanted (ask.Taken conn number reused host) = AskTaken link old new wanted conn number reused host
AskDone link old new wanted ask.Granted = (standing (state_at old) wanted ≡ MayDial) × (new ≡ old)
AskDone link old new wanted ask.NotYet = (standing (state_at old) wanted ≡ NotServed) × (new ≡ old)
AskDone link old new wanted ask.Failed = (standing (state_at old) wanted ≡ NotComing) × (new ≡ old)

-- the answer for a want to which no connection is out
abbrev pub Looks : {C : Type 0} → CoreAsk C → Standing → Type 0
Looks (ask.Taken conn number reused host) stands = ⊥
Looks ask.Granted stands = stands ≡ MayDial
Looks ask.NotYet stands = stands ≡ NotServed
Looks ask.Failed stands = stands ≡ NotComing

-- a call of a row's caller, which the row names
pub record Started (old new : CoreView) (wanted : ℕ) : Type 0 where
  pub caller : ℕ
  pub outcome : Outcome
  pub enters : Enters old new caller (call.Start wanted) outcome
  pub is_go : outcome.reply ≡ reply.Go

pub record NotStarted (old new : CoreView) (wanted : ℕ) : Type 0 where
  pub same : new ≡ old
  pub unfit : (caller : ℕ) → step old.limits (state_at old) caller (call.Start wanted) ≡ None

abbrev pub StartDone : CoreView → CoreView → ℕ → Bool → Type 0
StartDone old new wanted true = Started old new wanted
StartDone old new wanted false = NotStarted old new wanted

pub record Done (old new : CoreView) (asked : Call) : Type 0 where
  pub caller : ℕ
  pub outcome : Outcome
  pub enters : Enters old new caller asked outcome

pub record DonePut {C : Type 0} (link : C → LinkView) (old new : CoreView) (asked : Call) (close : Option C) : Type 0 where
  pub caller : ℕ
  pub outcome : Outcome
  pub enters : Enters old new caller asked outcome
  pub closes : Closes link close outcome.gone

abbrev pub CancelDone : {C : Type 0} → (C → LinkView) → CoreView → CoreView → ℕ → ℕ → Option C → Standing → Type 0
CancelDone link old new wanted now close (Served row) = DonePut link old new (call.Cancel wanted now) close
CancelDone link old new wanted now close MayDial = DonePut link old new (call.Cancel wanted now) close
CancelDone link old new wanted now close NotServed = DonePut link old new (call.Cancel wanted now) close
CancelDone link old new wanted now close NotComing = (new ≡ old) × (close ≡ None)

-- a connection that an idle row's call hands out, or none, where the call fits for nobody
pub record IdleTaken {C : Type 0} (link : C → LinkView) (old new : CoreView) (caller : ℕ) (asked : Call) (conn : C) : Type 0 where
  pub outcome : Outcome
  pub enters : Enters old new caller asked outcome
  pub close : IsOf link conn outcome.gone

pub record IdleNot (old new : CoreView) (asked : Call) : Type 0 where
  pub same : new ≡ old
  pub unfit : (caller : ℕ) → step old.limits (state_at old) caller asked ≡ None

abbrev pub IdleDone : {C : Type 0} → (C → LinkView) → CoreView → CoreView → ℕ → Call → Option C → Type 0
IdleDone link old new caller asked (Some conn) = IdleTaken link old new caller asked conn
IdleDone link old new caller asked None = IdleNot old new asked

-- a connection that is out, with its link's number
abbrev pub IsBack : {C : Type 0} → (C → LinkView) → C → Option ConnRow → Type 0
IsBack link conn None = ⊥
IsBack link conn (Some row) = (rests row ≡ false) × ((link conn).number ≡ row.link)

-- a connection that is out
abbrev pub IsOut : Option ConnRow → Type 0
IsOut None = ⊥
IsOut (Some row) = rests row ≡ false

-- no want, no dial and no connection that is out
pub record IsQuiet (s : State) : Type 0 where
  pub wants : s.wants ≡ []
  pub dials : s.dials ≡ []
  pub conns : list_all rests s.conns ≡ true
