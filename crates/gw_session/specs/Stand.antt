-- What a session works on, and what it changes beside the stretch of work that it does.
use Rattle.std.specs.Prelude.{ℕ, ◌≡◌, ◌≤◌, ◌==◌, Bool, true, List, [], ◌∷◌, Option, Some, None}
use Rattle.gw_wire.specs.Causes.{Rose}
use Rattle.gw_wire.specs.Link.{LinkView, LinkLater}
use Rattle.gw_wire.specs.Wire.{WireView}
use Rattle.gw_context.specs.Node.{root}
use Rattle.gw_context.specs.Tree.{TreeView}
use Rattle.gw_account.specs.Did.{Span, Doing}
use Rattle.gw_account.specs.Work.{Work, At, at_of}
use Rattle.gw_session.specs.declared.client.Client.{Client}
use Rattle.gw_session.specs.declared.end.Ended.{Ended}
use Rattle.gw_session.specs.declared.end.Ended.TheVariants as ended
use Rattle.gw_session.specs.declared.end.Why.{Why}
use Rattle.gw_session.specs.declared.end.Why.TheVariants as why
use Rattle.gw_routes.specs.declared.table.Table.{Table}
use Rattle.gw_session.specs.declared.shared.Shared.{Shared}
use Rattle.gw_session.specs.Seats.{Seats, SeatsGo}

-- how a request is served: for whom, by what, with which node of the words that the workers share, and its number on its
-- connection, from 1
pub record Spot : Type 0 where
  pub client : ℕ
  pub peer : List ℕ
  pub table : Table
  pub own : ℕ
  pub number : ℕ

-- the request of this number, from 1, is the last that a connection serves
abbrev pub is_last : ℕ → Bool
is_last number = number == 4294967295

abbrev pub spot_of : {C : Type 0} → (C → LinkView) → Client C → Shared → Spot
spot_of link client shared = record {
  client = (link client.conn).number;
  peer = client.peer;
  table = client.table.now;
  own = shared.ctx_node;
  number = client.requests;
}

-- a client's link, and how many milliseconds one wait for it may last
pub record Line : Type 0 where
  pub client : ℕ
  pub silence : ℕ

abbrev pub line : ℕ → ℕ → Line
line client silence = record { client = client; silence = silence }

abbrev pub line_of : Spot → Line
line_of p = line p.client p.table.client_ms

-- the wire, the client's link and the worker's seats
pub record Stand : Type 0 where
  pub wire : WireView
  pub client : LinkView
  pub seats : Seats

abbrev pub stand : WireView → LinkView → Seats → Stand
stand wire client seats = record { wire = wire; client = client; seats = seats }

-- a stretch of work was done, whatever became of the tokens
pub record Done (s : Span) (P : At → Work → Type 0) : Type 0 where
  pub work : Work
  pub doing : Doing s work
  pub does : P (at_of s.old s.before) work

-- a session may end so: its client's end and failure are counted, and a gate that is said to be shut was seen so
abbrev pub WhyCause : LinkView → LinkView → Bool → Why → Type 0
WhyCause from to seen why.End = Rose from.ends to.ends
WhyCause from to seen why.Failed = Rose from.faults to.faults
WhyCause from to seen why.Refused = seen ≡ true
WhyCause from to seen why.Shut = seen ≡ true
WhyCause from to seen _ = Unit {0}

abbrev pub EndCause : LinkView → LinkView → Bool → Option Ended → Type 0
EndCause from to seen None = Unit {0}
EndCause from to seen (Some ended.NoMemory) = Unit {0}
EndCause from to seen (Some (ended.Closed reason)) = WhyCause from to seen reason

-- the client's link went on, and the seats did: what was noted of the gate is from this moment on; whether the gate was shut
-- on the way
pub record Goes (old new : Stand) (p : Spot) (since : ℕ) (stops : Bool) (next : Option Ended) : Type 0 where
  pub link : LinkLater old.client new.client
  pub seats : SeatsGo old.seats new.seats p.own p.table.grace_ms since new.wire.moment stops
  pub held : new.seats.gate.view.held ≡ old.seats.gate.view.held
  pub cause : EndCause old.client new.client new.seats.gate.view.seen_shut next

-- the tree of deadlines as it is between two requests
pub record IsBare (tree : TreeView) (moment : ℕ) : Type 0 where
  pub nodes : tree.nodes ≡ root ∷ []
  pub last : tree.last ≤ moment

-- a client is the same but for its link
pub record IsSameClient {C : Type 0} (old new : Client C) : Type 0 where
  pub peer : new.peer ≡ old.peer
  pub table : new.table ≡ old.table
  pub tree : new.tree ≡ old.tree
  pub requests : new.requests ≡ old.requests
