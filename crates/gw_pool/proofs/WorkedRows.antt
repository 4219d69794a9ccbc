-- The machine on worked schedules: what each call of a schedule is answered, and None where it doesn't fit.
use Rattle.std.proofs.Common.{◌≡◌, ℕ, true, false, List, [], ◌∷◌, take, Option, Some, None, refl}
use Rattle.gw_pool.specs.declared.entry.Entry.{Entry}
use Rattle.gw_pool.specs.declared.limits.Limits.{Limits}
use Rattle.gw_pool.specs.declared.entry.Call.{Call}
use Rattle.gw_pool.specs.declared.entry.Call.TheVariants as call
use Rattle.gw_pool.specs.declared.entry.Reply.{Reply}
use Rattle.gw_pool.specs.declared.entry.Reply.TheVariants as reply
use Rattle.gw_pool.specs.declared.entry.Offer.TheVariants as offer
use Rattle.gw_pool.specs.State.{State, empty, used, is_free, is_expired, least_want, least_waiting, newest_stamp, take_newest, oldest_stamp, take_oldest}
use Rattle.gw_pool.specs.Offer.{grant_to, grant, evict, rest, freed, offer_to, offer_conn}
use Rattle.gw_pool.specs.Machine.{step, units, want_new, want_idle, want_by, want_step, start_row, start_by, dialed_conn, dialed_to, dialed_row, dialed_by, failed_to, failed_row, failed_by, cancel_row, cancel_conn, cancel_out, cancel_by, back_row, back_by, drop_row, drop_by, expire_by, close_idle_by}
use Rattle.gw_pool.specs.History.{reply_of, state_of, IsLegal, moved, after, room, refuses}

abbrev answers : Limits → State → List (ℕ × Call) → List (Option Reply)
answers limits s [] = []
answers limits s ((caller, asked) ∷ later) = reply_of (step limits s caller asked) ∷ answers limits (state_of s (step limits s caller asked)) later

abbrev limits_of : ℕ → ℕ → ℕ → Limits
limits_of per_host conns total = record { idle_total = total; idle_per_host = per_host; conns_per_host = conns; idle_ms = 1000; journal = 100; passes = 4; per_pass = 1; hosts = 2 }

-- one exchange on a new connection
first_path : answers (limits_of 2 0 100) empty
    ((0, call.Want 0 7) ∷ (0, call.Start 0) ∷ (0, call.Dialed 0 40 7) ∷ (0, call.Drop 0) ∷ [])
    ≡ Some (reply.Granted 0) ∷ Some reply.Go ∷ Some (reply.Kept 0) ∷ Some (reply.Dropped None) ∷ []
unfolding used is_free is_expired least_want least_waiting newest_stamp take_newest oldest_stamp take_oldest grant_to grant evict rest freed offer_to offer_conn step units want_new want_idle want_by want_step start_row start_by dialed_conn dialed_to dialed_row dialed_by failed_to failed_row failed_by cancel_row cancel_conn cancel_out cancel_by back_row back_by drop_row drop_by expire_by close_idle_by
first_path = refl

-- a failed dial's place goes to the next want
place_handed_on : answers (limits_of 2 1 100) empty
    ((0, call.Want 0 0) ∷ (1, call.Want 0 0) ∷ (0, call.Start 0) ∷ (0, call.DialFailed 0) ∷ (1, call.Start 1) ∷ [])
    ≡ Some (reply.Granted 0) ∷ Some (reply.Waiting 1) ∷ Some reply.Go ∷ Some (reply.Ended (Some 1)) ∷ Some reply.Go ∷ []
unfolding used is_free is_expired least_want least_waiting newest_stamp take_newest oldest_stamp take_oldest grant_to grant evict rest freed offer_to offer_conn step units want_new want_idle want_by want_step start_row start_by dialed_conn dialed_to dialed_row dialed_by failed_to failed_row failed_by cancel_row cancel_conn cancel_out cancel_by back_row back_by drop_row drop_by expire_by close_idle_by
place_handed_on = refl

-- a want is served by a connection that was given back while its own dial runs; what the dial gives becomes idle
losing_dial : answers (limits_of 2 0 100) empty
    ((2, call.Want 0 0) ∷ (2, call.Start 0) ∷ (2, call.Dialed 0 50 0) ∷ (0, call.Want 0 0) ∷ (0, call.Start 1) ∷ (2, call.GiveBack 0 0) ∷ (0, call.Dialed 1 51 0) ∷ [])
    ≡ Some (reply.Granted 0) ∷ Some reply.Go ∷ Some (reply.Kept 0) ∷ Some (reply.Granted 1) ∷ Some reply.Go
    ∷ Some (reply.Put (offer.ToWant 1 None)) ∷ Some (reply.Offered 1 (offer.Idle None)) ∷ []
unfolding used is_free is_expired least_want least_waiting newest_stamp take_newest oldest_stamp take_oldest grant_to grant evict rest freed offer_to offer_conn step units want_new want_idle want_by want_step start_row start_by dialed_conn dialed_to dialed_row dialed_by failed_to failed_row failed_by cancel_row cancel_conn cancel_out cancel_by back_row back_by drop_row drop_by expire_by close_idle_by
losing_dial = refl

-- the same where no connection may be idle: what the dial gives is closed
losing_dial_closed : answers (limits_of 0 0 100) empty
    ((2, call.Want 0 0) ∷ (2, call.Start 0) ∷ (2, call.Dialed 0 50 0) ∷ (0, call.Want 0 0) ∷ (0, call.Start 1) ∷ (2, call.GiveBack 0 0) ∷ (0, call.Dialed 1 51 0) ∷ [])
    ≡ Some (reply.Granted 0) ∷ Some reply.Go ∷ Some (reply.Kept 0) ∷ Some (reply.Granted 1) ∷ Some reply.Go
    ∷ Some (reply.Put (offer.ToWant 1 None)) ∷ Some (reply.Offered 1 offer.Closed) ∷ []
unfolding used is_free is_expired least_want least_waiting newest_stamp take_newest oldest_stamp take_oldest grant_to grant evict rest freed offer_to offer_conn step units want_new want_idle want_by want_step start_row start_by dialed_conn dialed_to dialed_row dialed_by failed_to failed_row failed_by cancel_row cancel_conn cancel_out cancel_by back_row back_by drop_row drop_by expire_by close_idle_by
losing_dial_closed = refl

-- a want that was given a connection and is cancelled: the connection goes to the next want
cancelled_after_given : answers (limits_of 2 1 100) empty
    ((0, call.Want 0 0) ∷ (0, call.Start 0) ∷ (0, call.Dialed 0 50 0) ∷ (3, call.Want 0 0) ∷ (0, call.Cancel 0 0) ∷ (3, call.Drop 0) ∷ [])
    ≡ Some (reply.Granted 0) ∷ Some reply.Go ∷ Some (reply.Kept 0) ∷ Some (reply.Waiting 1)
    ∷ Some (reply.Returned 0 (offer.ToWant 1 None)) ∷ Some (reply.Dropped None) ∷ []
unfolding used is_free is_expired least_want least_waiting newest_stamp take_newest oldest_stamp take_oldest grant_to grant evict rest freed offer_to offer_conn step units want_new want_idle want_by want_step start_row start_by dialed_conn dialed_to dialed_row dialed_by failed_to failed_row failed_by cancel_row cancel_conn cancel_out cancel_by back_row back_by drop_row drop_by expire_by close_idle_by
cancelled_after_given = refl

-- three callers against two places and one idle connection
hostile_schedule : answers (limits_of 1 2 1) empty
    ((0, call.Want 0 0) ∷ (0, call.Start 0) ∷ (1, call.Want 0 0) ∷ (1, call.Start 1) ∷ (2, call.Want 0 0) ∷ (0, call.Cancel 0 0)
    ∷ (0, call.Dialed 0 7 0) ∷ (1, call.Dialed 1 8 0) ∷ (1, call.GiveBack 0 0) ∷ (2, call.GiveBack 1 0) ∷ (0, call.Want 0 0)
    ∷ (0, call.GiveBack 1 0) ∷ [])
    ≡ Some (reply.Granted 0) ∷ Some reply.Go ∷ Some (reply.Granted 1) ∷ Some reply.Go ∷ Some (reply.Waiting 2) ∷ Some (reply.Gone None)
    ∷ Some (reply.Offered 0 (offer.ToWant 1 None)) ∷ Some (reply.Offered 1 (offer.ToWant 2 None)) ∷ Some (reply.Put (offer.Idle None))
    ∷ Some (reply.Put offer.Closed) ∷ Some (reply.Given 3 0) ∷ None ∷ []
unfolding used is_free is_expired least_want least_waiting newest_stamp take_newest oldest_stamp take_oldest grant_to grant evict rest freed offer_to offer_conn step units want_new want_idle want_by want_step start_row start_by dialed_conn dialed_to dialed_row dialed_by failed_to failed_row failed_by cancel_row cancel_conn cancel_out cancel_by back_row back_by drop_row drop_by expire_by close_idle_by
hostile_schedule = refl

-- an idle connection that is expired goes; one that isn't serves; the most recently idle one first, the least recently evicted
idle_ones : answers (limits_of 9 0 1) empty
    ((0, call.Want 0 0) ∷ (0, call.Start 0) ∷ (0, call.Dialed 0 7 0) ∷ (1, call.Want 0 0) ∷ (1, call.Start 1) ∷ (1, call.Dialed 1 8 0)
    ∷ (0, call.GiveBack 0 100) ∷ (1, call.GiveBack 1 200) ∷ (0, call.Expire 1200) ∷ (0, call.Want 0 1200) ∷ (0, call.GiveBack 1 1300) ∷ (1, call.Want 0 2301) ∷ (1, call.CloseIdle) ∷ [])
    ≡ Some (reply.Granted 0) ∷ Some reply.Go ∷ Some (reply.Kept 0) ∷ Some (reply.Granted 1) ∷ Some reply.Go ∷ Some (reply.Kept 1)
    ∷ Some (reply.Put (offer.Idle None)) ∷ Some (reply.Put (offer.Idle (Some 0))) ∷ None ∷ Some (reply.Given 2 1) ∷ Some (reply.Put (offer.Idle None))
    ∷ Some (reply.Expired 1) ∷ None ∷ []
unfolding used is_free is_expired least_want least_waiting newest_stamp take_newest oldest_stamp take_oldest grant_to grant evict rest freed offer_to offer_conn step units want_new want_idle want_by want_step start_row start_by dialed_conn dialed_to dialed_row dialed_by failed_to failed_row failed_by cancel_row cancel_conn cancel_out cancel_by back_row back_by drop_row drop_by expire_by close_idle_by
idle_ones = refl

-- of two connections that are given back, with one idle at most, the one that was given back first is evicted
evicted : answers (limits_of 2 0 1) empty
    ((0, call.Want 0 0) ∷ (0, call.Start 0) ∷ (0, call.Dialed 0 50 0) ∷ (1, call.Want 0 0) ∷ (1, call.Start 1) ∷ (1, call.Dialed 1 51 0)
    ∷ (0, call.GiveBack 0 0) ∷ (1, call.GiveBack 1 0) ∷ (0, call.CloseIdle) ∷ (0, call.CloseIdle) ∷ [])
    ≡ Some (reply.Granted 0) ∷ Some reply.Go ∷ Some (reply.Kept 0) ∷ Some (reply.Granted 1) ∷ Some reply.Go ∷ Some (reply.Kept 1)
    ∷ Some (reply.Put (offer.Idle None)) ∷ Some (reply.Put (offer.Idle (Some 0))) ∷ Some (reply.Taken 1) ∷ None ∷ []
unfolding used is_free is_expired least_want least_waiting newest_stamp take_newest oldest_stamp take_oldest grant_to grant evict rest freed offer_to offer_conn step units want_new want_idle want_by want_step start_row start_by dialed_conn dialed_to dialed_row dialed_by failed_to failed_row failed_by cancel_row cancel_conn cancel_out cancel_by back_row back_by drop_row drop_by expire_by close_idle_by
evicted = refl

entry : Call → Reply → Entry
entry asked answer = record { caller = 0; call = asked; reply = answer }

-- the first exchange and three on the same connection fill a journal of 16 entries
four_exchanges : List Entry
four_exchanges =
    entry (call.Want 0 7) (reply.Granted 0) ∷ entry (call.Start 0) reply.Go ∷ entry (call.Dialed 0 40 7) (reply.Kept 0) ∷ entry (call.GiveBack 0 7) (reply.Put (offer.Idle None))
    ∷ entry (call.Want 0 7) (reply.Given 1 0) ∷ entry (call.GiveBack 0 7) (reply.Put (offer.Idle None))
    ∷ entry (call.Want 0 7) (reply.Given 2 0) ∷ entry (call.GiveBack 0 7) (reply.Put (offer.Idle None))
    ∷ entry (call.Want 0 7) (reply.Given 3 0) ∷ entry (call.GiveBack 0 7) (reply.Put (offer.Idle None)) ∷ []

small : Limits
small = record { idle_total = 100; idle_per_host = 2; conns_per_host = 0; idle_ms = 90000; journal = 16; passes = 1; per_pass = 1; hosts = 1 }

full_journal : (IsLegal small four_exchanges) × (refuses small four_exchanges ≡ true) × (refuses small (take 8 four_exchanges) ≡ false)
unfolding used is_free is_expired least_want least_waiting newest_stamp take_newest oldest_stamp take_oldest grant_to grant evict rest freed offer_to offer_conn step units want_new want_idle want_by want_step start_row start_by dialed_conn dialed_to dialed_row dialed_by failed_to failed_row failed_by cancel_row cancel_conn cancel_out cancel_by back_row back_by drop_row drop_by expire_by close_idle_by entry four_exchanges small IsLegal moved after refuses room
full_journal = ((refl, (refl, (refl, (refl, (refl, (refl, (refl, (refl, (refl, (refl, tt)))))))))), refl, refl)
