-- The session of one client: its turns, one after another, on one connection.
use Rattle.std.specs.Prelude.{ℕ, ◌≡◌, ◌≤◌, ◌+◌, Bool, true, List, [], ◌∷◌, Option, Some, None, IfSome}
use Rattle.std.specs.List.{list_any}
use Rattle.gw_wire.specs.declared.values.Act.TheVariants.{Closed}
use Rattle.gw_wire.specs.Causes.{Rose}
use Rattle.gw_wire.specs.Link.{LinkView}
use Rattle.gw_account.specs.Did.{Span}
use Rattle.gw_account.specs.Work.{Work, At, Idle, Only, Seq, free}
use Rattle.gw_transport.specs.Leasing.{IsRested}
use Rattle.gw_transport.specs.Watch.{times_found}
use Rattle.gw_session.specs.declared.end.Ended.{Ended}
use Rattle.gw_session.specs.declared.end.Ended.TheVariants as ended
use Rattle.gw_session.specs.declared.end.Served.{Served}
use Rattle.gw_routes.specs.declared.table.Table.{Table}
use Rattle.gw_session.specs.Seats.{Seats}
use Rattle.gw_session.specs.Stand.{Done, Goes, Spot, stand}
use Rattle.gw_session.specs.Turn.{Turn, Turned, begun_of, is_cancelled, stops, turn_next}

-- the request of this number, from 1, of a client; what serves it may change from request to request
abbrev pub spots : ℕ → List ℕ → (ℕ → Table) → ℕ → ℕ → Spot
spots client peer tables own number = record { client = client; peer = peer; table = tables number; own = own; number = number }

-- what stands behind a turn: the later turns where it goes on, nothing where it ends the session
abbrev pub Behind : Option Ended → (At → Work → Type 0) → Ended → List Turn → At → Work → Type 0
Behind None Later result turns a w = Later a w
Behind (Some e) Later result turns a w = (turns ≡ []) × (result ≡ e) × Idle a w

-- the turns from the request of a number on, and how they end: each begins with the bytes that the one before left;
-- without a turn memory was wanting
abbrev pub Serves : (ℕ → Spot) → ℕ → List ℕ → Ended → List Turn → At → Work → Type 0
Serves at number kept result [] a w = (result ≡ ended.NoMemory) × Idle a w
Serves at number kept result (turn ∷ turns) a w =
    (left : List ℕ)
    × Seq (Turned (at number) kept left turn) (Behind (turn_next (at number) turn) (Serves at (number + 1) left result turns) result turns) a w

-- a whole session
abbrev pub Session : ℕ → (ℕ → Spot) → Ended → List Turn → At → Work → Type 0
Session client at result turns = Seq (Serves at 1 [] result turns) (Only free (λ acts. acts ≡ Closed client ∷ []))

-- how many requests began among them
abbrev pub begun_in : List Turn → ℕ
begun_in [] = 0
begun_in (turn ∷ turns) = begun_of turn + begun_in turns

-- whether a request among them shut the gate, or was cancelled
abbrev pub stops_in : List Turn → Bool
stops_in turns = list_any stops turns

abbrev pub cancelled_in : List Turn → Bool
cancelled_in turns = list_any is_cancelled turns

-- a moment at which the gate was seen shut is none to come, and the seat has read it so
pub record IsNoted (s : Seats) (moment : ℕ) : Type 0 where
  pub past : IfSome s.shut_at (λ at. at ≤ moment)
  pub seen : IfSome s.shut_at (λ at. s.gate.view.seen_shut ≡ true)

-- A client was served: its session was done, and its requests that began were counted; none begins behind a gate that was
-- seen shut before. Behind it no token is out. A trip was cancelled only where the worker's node was found ended in this
-- session.
pub record SessionStep (s : Span) (old new : Seats) (own : ℕ) (client : LinkView) (peer : List ℕ) (table : Table) (result : Served) : Type 0 where
  pub turns : List Turn
  pub closing : LinkView
  pub done : Done s (Session client.number (spots client.number peer (λ number. table) own) result.ended turns)
  pub begun : result.begun ≡ begun_in turns
  pub closed : old.gate.view.seen_shut ≡ true → begun_in turns ≡ 0
  pub goes : Goes (stand s.old client old) (stand s.new closing new) (spots client.number peer (λ number. table) own 1) s.old.moment (stops_in turns) (Some result.ended)
  pub rested : IsRested s.after
  pub cancelled : cancelled_in turns ≡ true → Rose (times_found own old.words.view.ended) (times_found own new.words.view.ended)
