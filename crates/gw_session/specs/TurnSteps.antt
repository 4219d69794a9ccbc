-- The steps of a session's requests, one after another.
use Rattle.std.specs.Prelude.{ℕ, ◌≡◌, ◌≤◌, ◌+◌, true, false, List, [], ◌∷◌, length, Option, Some, None}
use Rattle.gw_wire.specs.Causes.{Rose}
use Rattle.gw_wire.specs.Link.{LinkView}
use Rattle.gw_head.specs.declared.request.RequestHead.{RequestHead}
use Rattle.gw_account.specs.Did.{Span, Went}
use Rattle.gw_account.specs.Work.{Work, At, Idle, Only, Seq, free}
use Rattle.gw_stream.specs.declared.waits.Loss.{Loss}
use Rattle.gw_transport.specs.Leasing.{IsRested}
use Rattle.gw_transport.specs.Watch.{times_found}
use Rattle.gw_session.specs.declared.client.Client.{Client}
use Rattle.gw_session.specs.declared.end.Ended.{Ended}
use Rattle.gw_session.specs.declared.session.Next.{Next}
use Rattle.gw_session.specs.declared.session.Next.TheVariants as next
use Rattle.gw_session.specs.Ending.{lost_end}
use Rattle.gw_session.specs.Hearing.{Arrives, Misses}
use Rattle.gw_session.specs.Seats.{Seats}
use Rattle.gw_session.specs.Session.{Serves, begun_in, cancelled_in, spots, stops_in}
use Rattle.gw_session.specs.Stand.{Done, Goes, IsBare, Spot, Stand, line_of, stand}
use Rattle.gw_session.specs.Turn.{Deed, Deeds, Requested, Turn, Turned, begun_of, deed_next, deed_stops, is_cancelled, is_cancelled_deed, stops, turn_next}

-- ---- before a request

-- what a wait for a request comes to
abbrev pub ArrivesBy : Spot → List ℕ → List ℕ → Option Loss → At → Work → Type 0
ArrivesBy p kept ahead None a w = Only free (Arrives p.client kept ahead) a w
ArrivesBy p kept ahead (Some why) a w = Misses (line_of p) kept why a w

abbrev pub missed : Option Loss → Option Ended
missed None = None
missed (Some why) = Some (lost_end why)

pub record ArrivedStep (old new : Stand) (p : Spot) (kept ahead : List ℕ) (result : Option Loss) : Type 0 where
  pub went : Went old.wire new.wire (ArrivesBy p kept ahead result)
  pub goes : Goes old new p old.wire.moment false (missed result)

-- ---- a whole request

-- a client is the same but for its link, and for the moment that its tree was told last
pub record IsServedClient {C : Type 0} (old new : Client C) (moment : ℕ) : Type 0 where
  pub peer : new.peer ≡ old.peer
  pub table : new.table ≡ old.table
  pub requests : new.requests ≡ old.requests
  pub bare : IsBare new.tree moment
  pub told : old.tree.last ≤ new.tree.last

-- a request whose head was heard was dealt with; `left` is ahead behind it
pub record DeedStep (s : Span) (old new : Stand) (p : Spot) (since : ℕ) (head : RequestHead) (kept left : List ℕ) (result : Option Ended) : Type 0 where
  pub deed : Deed
  pub done : Done s (Deeds p head kept left deed)
  pub next_is : result ≡ deed_next p head deed
  pub goes : Goes old new p since (deed_stops deed) result
  pub rested : IsRested s.after
  pub cancelled : is_cancelled_deed deed ≡ true → Rose (times_found p.own old.seats.words.view.ended) (times_found p.own new.seats.words.view.ended)

-- a request that began was heard and dealt with
pub record RequestStep (s : Span) (old new : Stand) (p : Spot) (since : ℕ) (ahead left : List ℕ) (result : Option Ended) : Type 0 where
  pub turn : Turn
  pub done : Done s (Requested p ahead left turn)
  pub next_is : result ≡ turn_next p turn
  pub goes : Goes old new p since (stops turn) result
  pub rested : IsRested s.after
  pub cancelled : is_cancelled turn ≡ true → Rose (times_found p.own old.seats.words.view.ended) (times_found p.own new.seats.words.view.ended)

-- how a session ends behind a turn, if it does
abbrev pub ended_by : Next → Option Ended
ended_by (next.Again idle) = None
ended_by (next.End e) = Some e

-- a turn was served, behind which so many requests had begun
pub record TurnStep (s : Span) (old new : Stand) (p : Spot) (since : ℕ) (kept left : List ℕ) (count : ℕ) (result : Next) : Type 0 where
  pub turn : Turn
  pub done : Done s (Turned p kept left turn)
  pub count_is : count + 1 ≡ p.number + begun_of turn
  pub closed : old.seats.gate.view.seen_shut ≡ true → begun_of turn ≡ 0
  pub next_is : ended_by result ≡ turn_next p turn
  pub goes : Goes old new p since (stops turn) (ended_by result)
  pub rested : IsRested s.after
  pub cancelled : is_cancelled turn ≡ true → Rose (times_found p.own old.seats.words.view.ended) (times_found p.own new.seats.words.view.ended)

-- the spot of the client's next request
abbrev pub next_spot : Spot → Spot
next_spot p = record p { number = p.number + 1 }

pub record IsTurnedClient {C : Type 0} (old new : Client C) (moment : ℕ) (result : Next) : Type 0 where
  pub peer : new.peer ≡ old.peer
  pub table : new.table ≡ old.table
  pub requests : ended_by result ≡ None → new.requests ≡ old.requests + 1
  pub bare : IsBare new.tree moment
  pub told : old.tree.last ≤ new.tree.last

-- ---- turn after turn

-- turns from the request of a number on, behind each of which the session goes on: what was ahead before, and what is now
abbrev pub ServesOn : (ℕ → Spot) → ℕ → List ℕ → List ℕ → List Turn → At → Work → Type 0
ServesOn at number kept left [] a w = (left ≡ kept) × Idle a w
ServesOn at number kept left (turn ∷ turns) a w =
    (turn_next (at number) turn ≡ None)
    × ((among : List ℕ) × Seq (Turned (at number) kept among turn) (ServesOn at (number + 1) among left turns) a w)

-- the spots of a client's requests
abbrev pub spots_of : {C : Type 0} → (C → LinkView) → Client C → ℕ → ℕ → Spot
spots_of link client own = spots (link client.conn).number client.peer (λ number. client.table.now) own

-- so many turns were served, and the session goes on
pub record GoingOn {C : Type 0} (link : C → LinkView) (s : Span) (old new : Seats) (own : ℕ) (before after : Client C) (left : List ℕ) : Type 0 where
  pub turns : List Turn
  pub done : Done s (ServesOn (spots_of link before own) 1 [] left turns)
  pub count : after.requests ≡ length turns
  pub begun : after.requests ≡ begun_in turns
  pub closed : old.gate.view.seen_shut ≡ true → begun_in turns ≡ 0
  pub goes : Goes (stand s.old (link before.conn) old) (stand s.new (link after.conn) new) (spots_of link before own 1) s.old.moment (stops_in turns) None
  pub rested : IsRested s.after
  pub cancelled : cancelled_in turns ≡ true → Rose (times_found own old.words.view.ended) (times_found own new.words.view.ended)
  pub peer : after.peer ≡ before.peer
  pub table : after.table ≡ before.table
  pub bare : IsBare after.tree s.new.moment
  pub told : s.old.moment ≤ after.tree.last

-- all were served, up to the one that ends the session
pub record ServedStep {C : Type 0} (link : C → LinkView) (s : Span) (old new : Seats) (own : ℕ) (before after : Client C) (result : Ended) : Type 0 where
  pub turns : List Turn
  pub done : Done s (Serves (spots_of link before own) 1 [] result turns)
  pub begun : after.requests ≡ begun_in turns
  pub closed : old.gate.view.seen_shut ≡ true → begun_in turns ≡ 0
  pub goes : Goes (stand s.old (link before.conn) old) (stand s.new (link after.conn) new) (spots_of link before own 1) s.old.moment (stops_in turns) (Some result)
  pub rested : IsRested s.after
  pub cancelled : cancelled_in turns ≡ true → Rose (times_found own old.words.view.ended) (times_found own new.words.view.ended)
