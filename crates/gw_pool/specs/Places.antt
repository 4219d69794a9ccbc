-- Stages of wants, and places of connections.
use Rattle.std.specs.Prelude.{ℕ, Bool, true, false, ◌==◌}
use Rattle.gw_pool.specs.declared.rows.Stage.{Stage}
use Rattle.gw_pool.specs.declared.rows.Stage.TheVariants.{Waiting, Granted, Dialing}
use Rattle.gw_pool.specs.declared.rows.Place.{Place}
use Rattle.gw_pool.specs.declared.rows.Place.TheVariants.{Out, Idle}

-- stages
abbrev pub is_waiting : Stage → Bool
is_waiting Waiting = true
is_waiting Granted = false
is_waiting Dialing = false

abbrev pub is_granted : Stage → Bool
is_granted Waiting = false
is_granted Granted = true
is_granted Dialing = false

abbrev pub is_dialing : Stage → Bool
is_dialing Waiting = false
is_dialing Granted = false
is_dialing Dialing = true

-- places
abbrev pub is_out_to : ℕ → Place → Bool
is_out_to want (Out w caller) = w == want
is_out_to want (Idle stamp since) = false

abbrev pub is_idle : Place → Bool
is_idle (Out want caller) = false
is_idle (Idle stamp since) = true

abbrev pub is_out_by : ℕ → Place → Bool
is_out_by caller (Out want c) = c == caller
is_out_by caller (Idle stamp since) = false

abbrev pub has_stamp : ℕ → Place → Bool
has_stamp n (Out want caller) = false
has_stamp n (Idle stamp since) = stamp == n

abbrev pub stamp_of : Place → ℕ
stamp_of (Out want caller) = 0
stamp_of (Idle stamp since) = stamp

abbrev pub since_of : Place → ℕ
since_of (Out want caller) = 0
since_of (Idle stamp since) = since

-- how many entries a want at a stage and a connection at a place can still make, at most
abbrev pub want_room : Stage → ℕ
want_room Waiting = 5
want_room Granted = 5
want_room Dialing = 1

abbrev pub conn_room : Place → ℕ
conn_room (Out want caller) = 2
conn_room (Idle stamp since) = 1
