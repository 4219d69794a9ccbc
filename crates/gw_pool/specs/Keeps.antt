-- What a caller keeps while others call: how its wants, dials and connections stand, and what a call of its own makes of
-- them.
use Rattle.std.specs.Prelude.{◌≡◌, ℕ, ◌<◌, ◌⊎◌, Bool, true, false, List, [], ◌∷◌, ◌++◌, find, Option, Some, None}
use Rattle.std.specs.List.{list_any}
use Rattle.gw_pool.specs.declared.limits.Limits.{Limits}
use Rattle.gw_pool.specs.declared.entry.Entry.{Entry}
use Rattle.gw_pool.specs.declared.entry.Call.{Call}
use Rattle.gw_pool.specs.declared.entry.Call.TheVariants as call
use Rattle.gw_pool.specs.declared.entry.Reply.{Reply}
use Rattle.gw_pool.specs.declared.entry.Reply.TheVariants as reply
use Rattle.gw_pool.specs.declared.rows.Stage.{Stage}
use Rattle.gw_pool.specs.declared.rows.Stage.TheVariants.{Waiting, Granted, Dialing}
use Rattle.gw_pool.specs.declared.rows.Place.TheVariants.{Out}
use Rattle.gw_pool.specs.declared.rows.WantRow.{WantRow}
use Rattle.gw_pool.specs.declared.rows.DialRow.{DialRow}
use Rattle.gw_pool.specs.declared.rows.ConnRow.{ConnRow}
use Rattle.gw_pool.specs.Places.{is_waiting, is_granted, is_dialing}
use Rattle.gw_pool.specs.State.{State, has_number}
use Rattle.gw_pool.specs.Machine.{NotComing, standing}
use Rattle.gw_pool.specs.Ties.{Among}
use Rattle.gw_pool.specs.History.{IsLegal, after, mine}
use Rattle.gw_pool.specs.Laws.{takes_back}
use Rattle.gw_pool.specs.Lent.{entry_of}

-- a want of a caller has a row, at a stage that passes a test
pub record IsWanted (test : Stage → Bool) (want host caller : ℕ) (s : State) : Type 0 where
  pub row : WantRow
  pub there : Among row s.wants
  pub is_want : row.want ≡ want
  pub is_host : row.host ≡ host
  pub by : row.caller ≡ caller
  pub stage : test row.stage ≡ true

-- a dial for a want of a caller goes on
abbrev pub IsDialed : ℕ → ℕ → ℕ → State → Type 0
IsDialed want host caller s = Among (record { want = want; host = host; caller = caller }) s.dials

-- a connection is out to a want of a caller
pub record IsOut (want caller : ℕ) (row : ConnRow) (s : State) : Type 0 where
  pub there : Among row s.conns
  pub place : row.place ≡ Out want caller

-- some connection to the host is
pub record IsServed (want host caller : ℕ) (s : State) : Type 0 where
  pub row : ConnRow
  pub is_host : row.host ≡ host
  pub out : IsOut want caller row s

-- a want has a row at a stage that passes a test, or is served
abbrev pub Comes : (Stage → Bool) → ℕ → ℕ → ℕ → State → Type 0
Comes test want host caller s = IsWanted test want host caller s ⊎ IsServed want host caller s

-- a want that was made has neither row nor connection
pub record IsOver (want : ℕ) (s : State) : Type 0 where
  pub none : standing s want ≡ NotComing
  pub made : want < s.next_want

-- a test of stages that still passes where a want that waits is granted
abbrev pub IsKeptByGrant : (Stage → Bool) → Type 0
IsKeptByGrant test = test Waiting ≡ true → test Granted ≡ true

-- the stages before a dial
abbrev pub is_early : Stage → Bool
is_early Waiting = true
is_early Granted = true
is_early Dialing = false

-- Behind entries of others alone a want has its row still, which may be granted where it waited, or is served; a dial
-- goes on.
abbrev pub WantsGoOn : Type 0
WantsGoOn =
    (test : Stage → Bool) (limits : Limits) (seen more : List Entry) (want host caller : ℕ)
    → IsKeptByGrant test → IsLegal limits (seen ++ more) → mine more caller ≡ []
    → Comes test want host caller (after limits seen) → Comes test want host caller (after limits (seen ++ more))

abbrev pub DialsStay : Type 0
DialsStay =
    (limits : Limits) (seen more : List Entry) (want host caller : ℕ)
    → IsLegal limits (seen ++ more) → mine more caller ≡ []
    → IsDialed want host caller (after limits seen) → IsDialed want host caller (after limits (seen ++ more))

-- a connection that is out to a caller stays so while no entry of that caller takes it back
abbrev pub LeasesStay : Type 0
LeasesStay =
    (limits : Limits) (seen more : List Entry) (caller want : ℕ) (row : ConnRow)
    → IsLegal limits (seen ++ more) → list_any (takes_back row.conn want) (mine more caller) ≡ false
    → find (has_number row.conn) (after limits seen).conns ≡ Some row → row.place ≡ Out want caller
    → find (has_number row.conn) (after limits (seen ++ more)).conns ≡ Some row

-- a want that ended stays so, whoever goes on
abbrev pub EndedWantsStay : Type 0
EndedWantsStay =
    (limits : Limits) (seen more : List Entry) (want : ℕ)
    → IsLegal limits (seen ++ more) → IsOver want (after limits seen) → IsOver want (after limits (seen ++ more))

-- how a new want stands behind its own entry
abbrev pub StandsNew : ℕ → ℕ → Reply → State → Type 0
StandsNew host caller (reply.Given want conn) s = (row : ConnRow) × (row.conn ≡ conn) × (row.host ≡ host) × IsOut want caller row s
StandsNew host caller (reply.Granted want) s = IsWanted is_granted want host caller s
StandsNew host caller (reply.Waiting want) s = IsWanted is_waiting want host caller s
StandsNew host caller _ s = Unit {0}

abbrev pub MadeWantsStand : Type 0
MadeWantsStand =
    (limits : Limits) (before : List Entry) (caller host now : ℕ) (answer : Reply)
    → IsLegal limits (before ++ entry_of caller (call.Want host now) answer ∷ [])
    → StandsNew host caller answer (after limits (before ++ entry_of caller (call.Want host now) answer ∷ []))

-- a want whose dial begins is being dialed for, at its host
abbrev pub StartedWantsDial : Type 0
StartedWantsDial =
    (limits : Limits) (before : List Entry) (want host caller : ℕ) (test : Stage → Bool) (answer : Reply)
    → IsLegal limits (before ++ entry_of caller (call.Start want) answer ∷ []) → Comes test want host caller (after limits before)
    → IsWanted is_dialing want host caller (after limits (before ++ entry_of caller (call.Start want) answer ∷ []))
    × IsDialed want host caller (after limits (before ++ entry_of caller (call.Start want) answer ∷ []))

-- how a want stands behind the dial that gave a connection: it has this one, or the one that it was served by before
abbrev pub StandsDialed : ℕ → ℕ → ℕ → ℕ → Reply → State → Type 0
StandsDialed want host caller link (reply.Kept conn) s = (row : ConnRow) × (row.conn ≡ conn) × (row.host ≡ host) × (row.link ≡ link) × (row.reused ≡ false) × IsOut want caller row s
StandsDialed want host caller link (reply.Offered conn o) s = IsServed want host caller s
StandsDialed want host caller link _ s = ⊥

abbrev pub DialedWantsAreServed : Type 0
DialedWantsAreServed =
    (limits : Limits) (before : List Entry) (want host caller link now : ℕ) (test : Stage → Bool) (answer : Reply)
    → IsLegal limits (before ++ entry_of caller (call.Dialed want link now) answer ∷ [])
    → Comes test want host caller (after limits before) → IsDialed want host caller (after limits before)
    → StandsDialed want host caller link answer (after limits (before ++ entry_of caller (call.Dialed want link now) answer ∷ []))

-- how a want stands behind the dial that failed: it ended, or has the connection that it was served by before
abbrev pub StandsFailed : ℕ → ℕ → ℕ → Reply → State → Type 0
StandsFailed want host caller (reply.Ended next) s = IsOver want s
StandsFailed want host caller (reply.Late next) s = IsServed want host caller s
StandsFailed want host caller _ s = ⊥

abbrev pub FailedDialsEnd : Type 0
FailedDialsEnd =
    (limits : Limits) (before : List Entry) (want host caller : ℕ) (test : Stage → Bool) (answer : Reply)
    → IsLegal limits (before ++ entry_of caller (call.DialFailed want) answer ∷ []) → Comes test want host caller (after limits before)
    → StandsFailed want host caller answer (after limits (before ++ entry_of caller (call.DialFailed want) answer ∷ []))
