-- The pool's machine: which calls fit a state, what each is answered, and the state after it.
use Rattle.std.specs.Prelude.{ℕ, Bool, false, List, [], ◌∷◌, ◌++◌, ◌==◌, ◌&&◌, ◌+◌, nat_lt, length, map, filter, find, Option, Some, None, if◌then◌else◌}
use Rattle.std.specs.List.{filter_map, list_any}
use Rattle.gw_pool.specs.declared.limits.Limits.{Limits}
use Rattle.gw_pool.specs.declared.entry.Call.{Call}
use Rattle.gw_pool.specs.declared.entry.Call.TheVariants.{Want, Start, Dialed, DialFailed, Cancel, GiveBack, Drop, Expire, CloseIdle}
use Rattle.gw_pool.specs.declared.entry.Reply.{Reply}
use Rattle.gw_pool.specs.declared.entry.Reply.TheVariants as reply
use Rattle.gw_pool.specs.declared.rows.Stage.{Stage}
use Rattle.gw_pool.specs.declared.rows.Stage.TheVariants.{Waiting, Granted, Dialing}
use Rattle.gw_pool.specs.declared.rows.Place.{Place}
use Rattle.gw_pool.specs.declared.rows.Place.TheVariants.{Out, Idle}
use Rattle.gw_pool.specs.declared.rows.WantRow.{WantRow}
use Rattle.gw_pool.specs.declared.rows.DialRow.{DialRow}
use Rattle.gw_pool.specs.declared.rows.ConnRow.{ConnRow}
use Rattle.gw_pool.specs.Places.{is_granted, is_out_by, since_of}
use Rattle.gw_pool.specs.State.{State, remove_first, is_free, is_expired, wants_it, dials_for, has_number, is_with, take_newest, take_oldest}
use Rattle.gw_pool.specs.Offer.{Offered, grant, offer_conn}

-- What a step gives: its reply, the connection row that left the pool by it, and the next state.
pub record Outcome : Type 0 where
  pub reply : Reply
  pub gone : Option ConnRow
  pub state : State

abbrev pub replied : (Option ℕ → Reply) → Option ConnRow → Option ℕ × State → Outcome
replied answer gone (next, s) = record { reply = answer next; gone = gone; state = s }

abbrev pub offered : (Offered → Reply) → Offered → Outcome
offered answer o = record { reply = answer o; gone = o.gone; state = o.state }

-- A want: a host's most recently idle connection serves it, unless that is expired; else it may dial or waits.
unfoldable pub want_new : Limits → State → ℕ → ℕ → Outcome
want_new limits s caller host =
    if is_free limits s host
    then record { reply = reply.Granted s.next_want; gone = None; state = record s { wants = s.wants ++ (record { want = s.next_want; host = host; caller = caller; stage = Granted }) ∷ []; next_want = s.next_want + 1 } }
    else record { reply = reply.Waiting s.next_want; gone = None; state = record s { wants = s.wants ++ (record { want = s.next_want; host = host; caller = caller; stage = Waiting }) ∷ []; next_want = s.next_want + 1 } }

unfoldable pub want_idle : Limits → State → ℕ → ConnRow → ℕ → Outcome
want_idle limits s caller row now =
    if is_expired limits (since_of row.place) now
    then record { reply = reply.Expired row.conn; gone = Some row; state = s }
    else record { reply = reply.Given s.next_want row.conn; gone = None; state = record s { conns = s.conns ++ record row { place = Out s.next_want caller } ∷ []; next_want = s.next_want + 1 } }

unfoldable pub want_by : Limits → ℕ → ℕ → ℕ → Option ConnRow × State → Outcome
want_by limits caller host now (None, s) = want_new limits s caller host
want_by limits caller host now (Some row, s) = want_idle limits s caller row now

unfoldable pub want_step : Limits → State → ℕ → ℕ → ℕ → Outcome
want_step limits s caller host now = want_by limits caller host now (take_newest s host)

-- A start: a granted want becomes one that is being dialed for.
unfoldable pub start_row : State → WantRow → Outcome
start_row s row = record {
  reply = reply.Go;
  gone = None;
  state = record s {
    wants = remove_first (wants_it row.want) s.wants ++ record row { stage = Dialing } ∷ [];
    dials = s.dials ++ (record { want = row.want; host = row.host; caller = row.caller }) ∷ [];
  };
}

-- A dial that gave a connection: it goes to its own want if that still has a row, and else is offered.
unfoldable pub dialed_conn : State → DialRow → ℕ → ConnRow
dialed_conn s dial link = record { conn = s.next_conn; host = dial.host; link = link; reused = false; place = Out dial.want dial.caller }

unfoldable pub dialed_to : Limits → State → DialRow → ℕ → ℕ → Option WantRow → Outcome
dialed_to limits s dial link now (Some row) = record {
  reply = reply.Kept s.next_conn;
  gone = None;
  state = record s { wants = remove_first (wants_it dial.want) s.wants; conns = s.conns ++ dialed_conn s dial link ∷ []; next_conn = s.next_conn + 1 };
}
dialed_to limits s dial link now None =
    offered (λ o. reply.Offered s.next_conn o.offer) (offer_conn limits (record s { next_conn = s.next_conn + 1 }) (dialed_conn s dial link) now)

unfoldable pub dialed_row : Limits → State → DialRow → ℕ → ℕ → Outcome
dialed_row limits s dial link now =
    dialed_to limits (record s { dials = remove_first (dials_for dial.want) s.dials }) dial link now (find (wants_it dial.want) s.wants)

-- A dial that failed: its want ends with it, if that still has a row. The place is free again.
unfoldable pub failed_to : Limits → State → DialRow → Option WantRow → Outcome
failed_to limits s dial (Some row) = replied reply.Ended None (grant limits (record s { wants = remove_first (wants_it dial.want) s.wants }) dial.host)
failed_to limits s dial None = replied reply.Late None (grant limits s dial.host)

unfoldable pub failed_row : Limits → State → DialRow → Outcome
failed_row limits s dial =
    failed_to limits (record s { dials = remove_first (dials_for dial.want) s.dials }) dial (find (wants_it dial.want) s.wants)

-- A want is given up: its row goes, and the place that it may have had is free; or its connection is offered.
unfoldable pub cancel_row : Limits → State → WantRow → Outcome
cancel_row limits s row =
    if is_granted row.stage
    then replied reply.Gone None (grant limits (record s { wants = remove_first (wants_it row.want) s.wants }) row.host)
    else record { reply = reply.Gone None; gone = None; state = record s { wants = remove_first (wants_it row.want) s.wants } }

unfoldable pub cancel_conn : Limits → State → ℕ → ConnRow → ℕ → Outcome
cancel_conn limits s want row now =
    offered (λ o. reply.Returned row.conn o.offer) (offer_conn limits (record s { conns = remove_first (is_with want) s.conns }) row now)

-- A connection is given back, or given up.
unfoldable pub back_row : Limits → State → ConnRow → ℕ → Outcome
back_row limits s row now =
    offered (λ o. reply.Put o.offer) (offer_conn limits (record s { conns = remove_first (has_number row.conn) s.conns }) row now)

unfoldable pub drop_row : Limits → State → ConnRow → Outcome
drop_row limits s row =
    replied reply.Dropped (Some row) (grant limits (record s { conns = remove_first (has_number row.conn) s.conns }) row.host)

-- The least recently idle connection is taken out.
abbrev pub taken_row : ConnRow → State → Outcome
taken_row row s = record { reply = reply.Taken row.conn; gone = Some row; state = s }

-- The wants of a caller that have a want row, a dial row or a connection that is out to them, each once.
abbrev pub out_want : ℕ → Place → Option ℕ
out_want caller (Out want c) = if c == caller then Some want else None
out_want caller (Idle stamp since) = None

abbrev pub distinct : List ℕ → List ℕ
distinct [] = []
distinct (x ∷ xs) = if list_any (λ y. y == x) xs then distinct xs else x ∷ distinct xs

unfoldable pub units : State → ℕ → List ℕ
units s caller = distinct (
    map (λ row. row.want) (filter (λ row. row.caller == caller) s.wants)
    ++ map (λ row. row.want) (filter (λ row. row.caller == caller) s.dials)
    ++ filter_map (λ row. out_want caller row.place) s.conns)

-- A call fits where the row that it names is there, in the state that it needs, and is the caller's.
abbrev pub when : Bool → Outcome → Option Outcome
when test outcome = if test then Some outcome else None

unfoldable pub start_by : State → ℕ → Option WantRow → Option Outcome
start_by s caller None = None
start_by s caller (Some row) = when (is_granted row.stage && (row.caller == caller)) (start_row s row)

unfoldable pub dialed_by : Limits → State → ℕ → ℕ → ℕ → Option DialRow → Option Outcome
dialed_by limits s caller link now None = None
dialed_by limits s caller link now (Some row) = when (row.caller == caller) (dialed_row limits s row link now)

unfoldable pub failed_by : Limits → State → ℕ → Option DialRow → Option Outcome
failed_by limits s caller None = None
failed_by limits s caller (Some row) = when (row.caller == caller) (failed_row limits s row)

unfoldable pub cancel_out : Limits → State → ℕ → ℕ → ℕ → Option ConnRow → Option Outcome
cancel_out limits s caller want now None = None
cancel_out limits s caller want now (Some row) = when (is_out_by caller row.place) (cancel_conn limits s want row now)

unfoldable pub cancel_by : Limits → State → ℕ → ℕ → ℕ → Option WantRow → Option Outcome
cancel_by limits s caller want now (Some row) = when (row.caller == caller) (cancel_row limits s row)
cancel_by limits s caller want now None = cancel_out limits s caller want now (find (is_with want) s.conns)

unfoldable pub back_by : Limits → State → ℕ → ℕ → Option ConnRow → Option Outcome
back_by limits s caller now None = None
back_by limits s caller now (Some row) = when (is_out_by caller row.place) (back_row limits s row now)

unfoldable pub drop_by : Limits → State → ℕ → Option ConnRow → Option Outcome
drop_by limits s caller None = None
drop_by limits s caller (Some row) = when (is_out_by caller row.place) (drop_row limits s row)

unfoldable pub expire_by : Limits → ℕ → Option ConnRow × State → Option Outcome
expire_by limits now (None, s) = None
expire_by limits now (Some row, s) = when (is_expired limits (since_of row.place) now) (taken_row row s)

unfoldable pub close_idle_by : Option ConnRow × State → Option Outcome
close_idle_by (None, s) = None
close_idle_by (Some row, s) = Some (taken_row row s)

unfoldable pub step : Limits → State → ℕ → Call → Option Outcome
step limits s caller (Want host now) = when (nat_lt (length (units s caller)) limits.per_pass) (want_step limits s caller host now)
step limits s caller (Start want) = start_by s caller (find (wants_it want) s.wants)
step limits s caller (Dialed want link now) = dialed_by limits s caller link now (find (dials_for want) s.dials)
step limits s caller (DialFailed want) = failed_by limits s caller (find (dials_for want) s.dials)
step limits s caller (Cancel want now) = cancel_by limits s caller want now (find (wants_it want) s.wants)
step limits s caller (GiveBack conn now) = back_by limits s caller now (find (has_number conn) s.conns)
step limits s caller (Drop conn) = drop_by limits s caller (find (has_number conn) s.conns)
step limits s caller (Expire now) = expire_by limits now (take_oldest s)
step limits s caller CloseIdle = close_idle_by (take_oldest s)

-- How a want stands when it is asked for: a connection is out to it, it may dial, it isn't served yet, or its own dial
-- failed before it was served.
pub data Standing : Type 0 where
  Served : ConnRow → Standing
  MayDial : Standing
  NotServed : Standing
  NotComing : Standing

abbrev pub stage_standing : Stage → Standing
stage_standing Waiting = NotServed
stage_standing Granted = MayDial
stage_standing Dialing = NotServed

abbrev pub stands_as : Option ConnRow → Option WantRow → Standing
stands_as (Some row) want = Served row
stands_as None (Some want) = stage_standing want.stage
stands_as None None = NotComing

unfoldable pub standing : State → ℕ → Standing
standing s want = stands_as (find (is_with want) s.conns) (find (wants_it want) s.wants)
