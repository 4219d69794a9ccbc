-- A free place goes to the least waiting want of its host; an offered connection goes to the least want of its
-- host, or becomes idle, or is closed.
use Rattle.std.specs.Prelude.{ℕ, true, [], ◌∷◌, ◌++◌, ◌+◌, nat_lt, count_by, Option, Some, None, if◌then◌else◌}
use Rattle.gw_pool.specs.declared.limits.Limits.{Limits}
use Rattle.gw_pool.specs.declared.entry.Offer.{Offer}
use Rattle.gw_pool.specs.declared.entry.Offer.TheVariants as offer
use Rattle.gw_pool.specs.declared.rows.Stage.TheVariants.{Granted}
use Rattle.gw_pool.specs.declared.rows.Place.TheVariants.{Out, Idle}
use Rattle.gw_pool.specs.declared.rows.WantRow.{WantRow}
use Rattle.gw_pool.specs.declared.rows.ConnRow.{ConnRow}
use Rattle.gw_pool.specs.Places.{is_granted}
use Rattle.gw_pool.specs.State.{State, remove_first, is_free, least_want, least_waiting, waits_as, wants_as, rests_for, rests, take_oldest}

-- the want that a place goes to, and the state after that
unfoldable pub grant_to : State → Option WantRow → Option ℕ × State
grant_to s None = (None, s)
grant_to s (Some row) = (Some row.want, record s { wants = remove_first (waits_as row.host row.want) s.wants ++ record row { stage = Granted } ∷ [] })

unfoldable pub grant : Limits → State → ℕ → Option ℕ × State
grant limits s host = if is_free limits s host then grant_to s (least_waiting s host) else (None, s)

-- where an offered connection went; the row that left the pool by it, whose connection is to be closed; the state
pub record Offered : Type 0 where
  pub offer : Offer
  pub gone : Option ConnRow
  pub state : State

-- of more idle connections than the limit permits the least recently idle one goes
abbrev pub evict_row : Option ConnRow × State → Offered
evict_row (None, s) = record { offer = offer.Idle None; gone = None; state = s }
evict_row (Some row, s) = record { offer = offer.Idle (Some row.conn); gone = Some row; state = s }

unfoldable pub evict : Limits → State → Offered
evict limits s = if nat_lt limits.idle_total (count_by rests s.conns) then evict_row (take_oldest s) else record { offer = offer.Idle None; gone = None; state = s }

-- the connection's host has no want
unfoldable pub rest : Limits → State → ConnRow → ℕ → Offered
rest limits s row now =
    if nat_lt (count_by (rests_for row.host) s.conns) limits.idle_per_host
    then evict limits (record s { conns = s.conns ++ record row { place = Idle s.next_stamp now } ∷ []; next_stamp = s.next_stamp + 1 })
    else record { offer = offer.Closed; gone = Some row; state = s }

-- the place that a served want may have had goes to the next
unfoldable pub freed : Limits → State → WantRow → Option ℕ × State
freed limits s want = if is_granted want.stage then grant limits s want.host else (None, s)

abbrev pub served : ℕ → Option ℕ × State → Offered
served want (next, s) = record { offer = offer.ToWant want next; gone = None; state = s }

unfoldable pub offer_to : Limits → State → ConnRow → ℕ → Option WantRow → Offered
offer_to limits s row now None = rest limits s row now
offer_to limits s row now (Some want) =
    served want.want
    (freed limits
    (record s { wants = remove_first (wants_as want.host want.want) s.wants; conns = s.conns ++ record row { place = Out want.want want.caller } ∷ [] })
    want)

-- a connection, whose row stands in no list, is offered
unfoldable pub offer_conn : Limits → State → ConnRow → ℕ → Offered
offer_conn limits s row now = offer_to limits s (record row { reused = true }) now (least_want s row.host)
