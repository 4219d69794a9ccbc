-- The state of the pool: flat lists of rows, whose order says nothing, and the next numbers.
-- 'Used', 'free', 'the least want' and 'expired' are counts and filters over these lists.
use Rattle.std.specs.Prelude.{ℕ, Bool, not, List, [], ◌∷◌, ◌==◌, ◌&&◌, ◌||◌, ◌+◌, nat_lt, fold, map, filter, find, count_by, Option, Some, None, if◌then◌else◌}
use Rattle.gw_pool.specs.declared.limits.Limits.{Limits}
use Rattle.gw_pool.specs.declared.rows.WantRow.{WantRow}
use Rattle.gw_pool.specs.declared.rows.DialRow.{DialRow}
use Rattle.gw_pool.specs.declared.rows.ConnRow.{ConnRow}
use Rattle.gw_pool.specs.Places.{is_waiting, is_granted, is_out_to, is_idle, has_stamp, stamp_of}

pub record State : Type 0 where
  pub wants : List WantRow
  pub dials : List DialRow
  pub conns : List ConnRow
  pub next_want : ℕ
  pub next_conn : ℕ
  pub next_stamp : ℕ

abbrev pub empty : State
empty = record { wants = []; dials = []; conns = []; next_want = 0; next_conn = 0; next_stamp = 0 }

-- the list without its first row that passes the test
abbrev pub remove_first : {X : Type 0} → (X → Bool) → List X → List X
remove_first test [] = []
remove_first test (x ∷ xs) = if test x then xs else x ∷ remove_first test xs

-- the least of the numbers, and the greatest, if there is one
abbrev pub lesser : Option ℕ → ℕ → Option ℕ
lesser None n = Some n
lesser (Some m) n = if nat_lt n m then Some n else Some m

abbrev pub greater : Option ℕ → ℕ → Option ℕ
greater None n = Some n
greater (Some m) n = if nat_lt m n then Some n else Some m

abbrev pub least : List ℕ → Option ℕ
least xs = fold lesser None xs

abbrev pub greatest : List ℕ → Option ℕ
greatest xs = fold greater None xs

-- tests of a row
abbrev pub wants_it : ℕ → WantRow → Bool
wants_it want row = row.want == want

abbrev pub wants_host : ℕ → WantRow → Bool
wants_host host row = row.host == host

abbrev pub waits_for : ℕ → WantRow → Bool
waits_for host row = (row.host == host) && is_waiting row.stage

abbrev pub waits_as : ℕ → ℕ → WantRow → Bool
waits_as host want row = (row.host == host) && is_waiting row.stage && (row.want == want)

abbrev pub wants_as : ℕ → ℕ → WantRow → Bool
wants_as host want row = (row.host == host) && (row.want == want)

abbrev pub may_dial : ℕ → WantRow → Bool
may_dial host row = (row.host == host) && is_granted row.stage

abbrev pub dials_for : ℕ → DialRow → Bool
dials_for want row = row.want == want

abbrev pub dials_host : ℕ → DialRow → Bool
dials_host host row = row.host == host

abbrev pub has_number : ℕ → ConnRow → Bool
has_number conn row = row.conn == conn

abbrev pub leads_to : ℕ → ConnRow → Bool
leads_to host row = row.host == host

abbrev pub is_with : ℕ → ConnRow → Bool
is_with want row = is_out_to want row.place

abbrev pub rests : ConnRow → Bool
rests row = is_idle row.place

abbrev pub rests_for : ℕ → ConnRow → Bool
rests_for host row = (row.host == host) && is_idle row.place

abbrev pub rests_since_stamp : ℕ → ConnRow → Bool
rests_since_stamp n row = has_stamp n row.place

abbrev pub rests_for_since_stamp : ℕ → ℕ → ConnRow → Bool
rests_for_since_stamp host n row = (row.host == host) && has_stamp n row.place

-- how many places of a host are used: by its connections, its dials and its granted wants
unfoldable pub used : State → ℕ → ℕ
used s host = count_by (leads_to host) s.conns + count_by (dials_host host) s.dials + count_by (may_dial host) s.wants

-- whether a host has a free place
unfoldable pub is_free : Limits → State → ℕ → Bool
is_free limits s host = (limits.conns_per_host == 0) || nat_lt (used s host) limits.conns_per_host

-- whether a connection that is idle since a time is expired at another
unfoldable pub is_expired : Limits → ℕ → ℕ → Bool
is_expired limits since now = not (limits.idle_ms == 0) && nat_lt (since + limits.idle_ms) now

-- the row of a host with the least want, and that with the least want of those that wait
abbrev pub earlier : Option WantRow → WantRow → Option WantRow
earlier None row = Some row
earlier (Some best) row = if nat_lt row.want best.want then Some row else Some best

unfoldable pub least_want : State → ℕ → Option WantRow
least_want s host = fold earlier None (filter (wants_host host) s.wants)

unfoldable pub least_waiting : State → ℕ → Option WantRow
least_waiting s host = fold earlier None (filter (waits_for host) s.wants)

-- a connection's row that passes the test, and the state without it
abbrev pub take_conn : (ConnRow → Bool) → State → Option ConnRow × State
take_conn test s = (find test s.conns, record s { conns = remove_first test s.conns })

-- the most recently idle connection of a host, which has the greatest stamp, and the state without it
unfoldable pub newest_stamp : State → ℕ → Option ℕ
newest_stamp s host = greatest (map (λ row. stamp_of row.place) (filter (rests_for host) s.conns))

abbrev pub take_stamped_for : State → ℕ → Option ℕ → Option ConnRow × State
take_stamped_for s host None = (None, s)
take_stamped_for s host (Some n) = take_conn (rests_for_since_stamp host n) s

unfoldable pub take_newest : State → ℕ → Option ConnRow × State
take_newest s host = take_stamped_for s host (newest_stamp s host)

-- the least recently idle connection of all, which has the least stamp, and the state without it
unfoldable pub oldest_stamp : State → Option ℕ
oldest_stamp s = least (map (λ row. stamp_of row.place) (filter rests s.conns))

abbrev pub take_stamped : State → Option ℕ → Option ConnRow × State
take_stamped s None = (None, s)
take_stamped s (Some n) = take_conn (rests_since_stamp n) s

unfoldable pub take_oldest : State → Option ConnRow × State
take_oldest s = take_stamped s (oldest_stamp s)
