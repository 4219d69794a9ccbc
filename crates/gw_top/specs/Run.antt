-- The run of a table's workers: the clients of each one after another, the pool's journal, and what their wires count.
use Rattle.std.specs.Prelude.{ℕ, zero, suc, All, length, ◌≡◌, ◌≤◌, ◌+◌, ◌-◌, ◌^◌, min, nat_lt, Bool, true, false, not, ◌&&◌, ◌||◌, List, [], ◌∷◌, ◌++◌, map, flat_map, sum_by, Option, Some, None}
use Rattle.std.specs.List.{list_any}
use Rattle.gw_wire.specs.declared.values.Act.{Act}
use Rattle.gw_wire.specs.declared.values.Act.TheVariants.{Accepted, Closed, AcceptFailed, Ended as ListenerEnded}
use Rattle.gw_wire.specs.declared.values.Addr.{Addr}
use Rattle.gw_wire.specs.Causes.{Rose, RoseBy}
use Rattle.gw_wire.specs.Moments.{Rises}
use Rattle.gw_wire.specs.Wire.{WireView}
use Rattle.gw_pool.specs.declared.entry.Entry.{Entry}
use Rattle.gw_pool.specs.declared.limits.Limits.{Limits}
use Rattle.gw_pool.specs.History.{IsLegal, AreBelow, mine}
use Rattle.gw_pool.specs.Idle.{idle_links}
use Rattle.gw_pool.specs.Moments.{entry_moments}
use Rattle.gw_account.specs.Did.{Span}
use Rattle.gw_account.specs.Work.{Bill, Work, At, Idle, Only, Seq, free}
use Rattle.gw_routes.specs.declared.table.Table.{Table}
use Rattle.gw_transport.specs.Leasing.{IsRested}
use Rattle.gw_transport.specs.Watch.{times_found}
use Rattle.gw_session.specs.declared.end.Ended.{Ended}
use Rattle.gw_session.specs.declared.end.Ended.TheVariants as ended
use Rattle.gw_session.specs.declared.end.Why.{Why}
use Rattle.gw_session.specs.declared.end.Why.TheVariants as why
use Rattle.gw_session.specs.Seats.{Seats, SeatsGo}
use Rattle.gw_session.specs.Session.{Session, begun_in, cancelled_in, spots, stops_in}
use Rattle.gw_session.specs.Stand.{Done}
use Rattle.gw_session.specs.Turn.{Turn, begun_of, stops}
use Rattle.gw_turn.specs.Turn.{Begins}
use Rattle.gw_top.specs.declared.worker.Worker.{Worker}

-- ---- a worker's clients

-- a client that was accepted: how its session ended, and the turns of it
pub record Visit : Type 0 where
  pub client : ℕ
  pub peer : List ℕ
  pub ended : Ended
  pub turns : List Turn

-- the node of the contexts that a worker's requests end with, below the base
abbrev pub own_node : ℕ → ℕ
own_node number = number + 1

-- what is done for a client, by the worker with this node
abbrev pub Visited : Table → ℕ → Visit → At → Work → Type 0
Visited table own v =
    Seq (Only free (λ acts. acts ≡ Accepted v.client v.peer ∷ []))
    (Session v.client (spots v.client v.peer (λ number. table) own) v.ended v.turns)

abbrev pub Visits : Table → ℕ → List Visit → At → Work → Type 0
Visits table own [] a w = Idle a w
Visits table own (v ∷ later) a w = Seq (Visited table own v) (Visits table own later) a w

abbrev pub turns_of : List Visit → List Turn
turns_of visits = flat_map (λ v. v.turns) visits

-- a count that stands still at its type's end
abbrev pub counted : ℕ → ℕ
counted n = min n (2 ^ 64 - 1)

-- how many sessions ended for want of memory
abbrev pub unkept : Ended → ℕ
unkept ended.NoMemory = 1
unkept (ended.Closed reason) = 0

abbrev pub unkept_in : List Visit → ℕ
unkept_in visits = sum_by (λ v. unkept v.ended) visits

-- how they come to their end: the listener ended, an accept failed, or the gate was seen shut between two of them
pub data Last : Type 0 where
  AtEnd : Last
  AtFailure : Last
  AtGate : Last

abbrev pub last_acts : Last → List Act
last_acts AtEnd = ListenerEnded ∷ []
last_acts AtFailure = AcceptFailed ∷ []
last_acts AtGate = []

abbrev pub is_failure : Last → Bool
is_failure AtEnd = false
is_failure AtFailure = true
is_failure AtGate = false

abbrev pub is_gate : Last → Bool
is_gate AtEnd = false
is_gate AtFailure = false
is_gate AtGate = true

-- a worker's clients one after another, and how they come to their end
pub record Part : Type 0 where
  pub visits : List Visit
  pub last : Last

abbrev pub turns_in : Part → List Turn
turns_in part = turns_of part.visits

-- all that a worker does, whose requests end with this node
abbrev pub Works : Table → ℕ → Part → At → Work → Type 0
Works table own part = Seq (Visits table own part.visits) (Only free (λ acts. acts ≡ last_acts part.last))

-- ---- the stop

-- a session ended since the gate was seen shut
abbrev pub is_gate_reason : Why → Bool
is_gate_reason why.Refused = true
is_gate_reason why.Shut = true
is_gate_reason _ = false

abbrev pub is_gate_end : Ended → Bool
is_gate_end ended.NoMemory = false
is_gate_end (ended.Closed reason) = is_gate_reason reason

-- a client in whose session the gate was seen shut, or was shut
abbrev pub saw_shut : Visit → Bool
saw_shut v = is_gate_end v.ended || stops_in v.turns

-- the gate was seen shut with one of its clients, or by the worker between two of them
abbrev pub needs_stop : Part → Bool
needs_stop part = list_any saw_shut part.visits || is_gate part.last

-- one of its requests shut the gate, or was cancelled
abbrev pub has_stop : Part → Bool
has_stop part = stops_in (turns_in part)

abbrev pub has_cancelled : Part → Bool
has_cancelled part = cancelled_in (turns_in part)

-- behind such a client no other one is accepted: the worker ends at the gate
abbrev pub ends_there : List Visit → Last → Bool
ends_there [] last = true
ends_there (v ∷ []) last = not (saw_shut v) || is_gate last
ends_there (v ∷ next ∷ later) last = not (saw_shut v) && ends_there (next ∷ later) last

-- behind a request that shut the gate no other one begins
abbrev pub in_order : Bool → List Turn → Bool
in_order stopped [] = true
in_order stopped (turn ∷ turns) = not (stopped && nat_lt 0 (begun_of turn)) && in_order (stopped || stops turn) turns

-- behind what saw the gate shut nothing begins
pub record IsOrdered (part : Part) : Type 0 where
  pub order : in_order false (turns_in part) ≡ true
  pub there : ends_there part.visits part.last ≡ true

-- ---- one worker

-- what a worker counts: the requests that began, the sessions that ended for want of memory, and whether an accept failed
pub record Counts {W : Type 0} (worker : Worker W) (part : Part) : Type 0 where
  pub entered : worker.entered ≡ counted (begun_in (turns_in part))
  pub unkept : worker.unkept ≡ counted (unkept_in part.visits)
  pub failed : worker.accept_failed ≡ is_failure part.last

-- a worker served clients until it ended
pub record Worked {W : Type 0} (s : Span) (old new : Seats) (table : Table) (own : ℕ) (worker : Worker W) : Type 0 where
  pub part : Part
  pub done : Done s (Works table own part)
  pub counts : Counts worker part
  pub ordered : IsOrdered part
  pub seats : SeatsGo old new own table.grace_ms s.old.moment s.new.moment (has_stop part)
  pub held : new.gate.view.held ≡ old.gate.view.held
  pub seen : needs_stop part ≡ true → new.gate.view.seen_shut ≡ true
  pub cancelled : has_cancelled part ≡ true → Rose (times_found own old.words.view.ended) (times_found own new.words.view.ended)
  pub rested : IsRested s.after

-- what a bill owes is paid by a wire's counts, from its beginning on; the moments of replies rise
pub record IsPaid (wire : WireView) (bill : Bill) : Type 0 where
  pub dials : RoseBy bill.dials 0 wire.dial_faults
  pub millis : wire.first + bill.millis ≤ wire.moment
  pub ticks : RoseBy bill.ticks 0 wire.ticks
  pub rests : RoseBy bill.rests 0 wire.rests
  pub said : Rises wire.first bill.said wire.moment

-- a log that is told is this
abbrev pub LogIs : Option (List Act) → List Act → Type 0
LogIs None acts = Unit {0}
LogIs (Some log) acts = log ≡ acts

-- where a worker begins: at a pool of which it has seen nothing
abbrev pub first_at : Table → ℕ → (Addr → List Addr) → At
first_at table number groups = record { limits = table.limits; caller = number; groups = groups; history = [] }

-- Worker n, whose part is this: its work is its clients, one after another, and the end. Its log is the work's acts and
-- these; its wire's counts pay what its sessions owe, and the moments of its own entries rise. An accept failed where it
-- says so.
pub record WorkedAs {W : Type 0} (wire : W → WireView) (table : Table) (tail : List Act) (n : ℕ) (worker : Worker W) (part : Part) (work : Work) : Type 0 where
  pub does : Works table (own_node n) part (first_at table n (wire worker.wire).groups) work
  pub log : LogIs (wire worker.wire).log (work.acts ++ tail)
  pub paid : IsPaid (wire worker.wire) work.bill
  pub timed : Rises (wire worker.wire).first (entry_moments (mine work.made n)) (wire worker.wire).moment
  pub number : worker.number ≡ n
  pub counts : Counts worker part
  pub ordered : IsOrdered part
  pub rightly : worker.accept_failed ≡ true → Rose 0 (wire worker.wire).accept_faults

-- a worker's clock went on for longer than the time of grace
abbrev pub is_past : {W : Type 0} → (W → WireView) → ℕ → Worker W → Bool
is_past wire grace worker = nat_lt ((wire worker.wire).first + grace) (wire worker.wire).moment

-- ---- the run

-- Worker n of a run: what it saw begins the journal, in which the entries of its number are those of its work, in their
-- order.
pub record RunsAs {W : Type 0} (wire : W → WireView) (table : Table) (journal : List Entry) (tail : List Act) (n : ℕ) (worker : Worker W) (part : Part) : Type 0 where
  pub work : Work
  pub worked : WorkedAs wire table tail n worker part work
  pub begins : Begins journal work.made
  pub own : mine journal n ≡ mine work.made n

-- each of the workers, numbered from n on
abbrev pub AllRun : {W : Type 0} → (W → WireView) → Table → List Entry → (ℕ → List Act) → ℕ → List (Worker W) → List Part → Type 0
AllRun wire table journal tails n [] [] = Unit {0}
AllRun wire table journal tails n (worker ∷ workers) [] = ⊥
AllRun wire table journal tails n [] (part ∷ parts) = ⊥
AllRun wire table journal tails n (worker ∷ workers) (part ∷ parts) =
    RunsAs wire table journal (tails n) n worker part × AllRun wire table journal tails (suc n) workers parts

-- worker 0 closes what is idle at the end of a history, the least recently idle first
abbrev pub closes_of : Limits → List Entry → ℕ → List Act
closes_of limits history zero = map Closed (idle_links limits history)
closes_of limits history (suc n) = []

-- Where a session ended since the gate was seen shut, or a worker did, a request of some worker shut it. Where a request
-- was cancelled, one had, and a worker's clock went on for longer than the time of grace.
pub record StopsRightly {W : Type 0} (wire : W → WireView) (grace : ℕ) (workers : List (Worker W)) (parts : List Part) : Type 0 where
  pub stopped : list_any needs_stop parts ≡ true → list_any has_stop parts ≡ true
  pub cancelled : list_any has_cancelled parts ≡ true → (list_any has_stop parts ≡ true) × (list_any (is_past wire grace) workers ≡ true)

-- The run of a table's workers over one pool. The journal is one legal history of their calls: in it stand, for each
-- worker, just the entries of its own work, in their order. Its work is its clients, one after another, and the end.
pub record Run {W : Type 0} (wire : W → WireView) (groups : Addr → List Addr) (table : Table) (journal : List Entry) (workers : List (Worker W)) : Type 0 where
  pub parts : List Part
  pub legal : IsLegal table.limits journal
  pub callers : AreBelow table.limits.passes journal
  pub count : length workers ≡ table.workers
  pub each : AllRun wire table journal (closes_of table.limits journal) 0 workers parts
  pub groups_are : All (λ w. (address : Addr) → (wire w.wire).groups address ≡ groups address) workers
  pub stops : StopsRightly wire table.grace_ms workers parts
