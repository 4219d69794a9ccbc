-- Histories of the pool: lists of entries, each of which fits the state that those before it lead to.
use Rattle.std.specs.Prelude.{◌≡◌, ℕ, Bool, List, [], ◌∷◌, ◌==◌, ◌<◌, ◌+◌, ◌*◌, nat_lt, length, filter, sum_by, All, Option, Some, None, option_map}
use Rattle.gw_pool.specs.declared.limits.Limits.{Limits}
use Rattle.gw_pool.specs.declared.entry.Entry.{Entry}
use Rattle.gw_pool.specs.declared.entry.Reply.{Reply}
use Rattle.gw_pool.specs.Places.{want_room, conn_room}
use Rattle.gw_pool.specs.State.{State, empty}
use Rattle.gw_pool.specs.Machine.{Outcome, step}

-- the state after an entry's call, and the state as it was where the call doesn't fit
abbrev pub state_of : State → Option Outcome → State
state_of s None = s
state_of s (Some outcome) = outcome.state

unfoldable pub moved : Limits → State → Entry → State
moved limits s entry = state_of s (step limits s entry.caller entry.call)

-- each entry's call fits, and its reply is the machine's
abbrev pub reply_of : Option Outcome → Option Reply
reply_of o = option_map (λ outcome. outcome.reply) o

abbrev pub LegalFrom : Limits → State → List Entry → Type 0
LegalFrom limits s [] = Unit {0}
LegalFrom limits s (entry ∷ later) = (reply_of (step limits s entry.caller entry.call) ≡ Some entry.reply) × LegalFrom limits (moved limits s entry) later

unfoldable pub IsLegal : Limits → List Entry → Type 0
IsLegal limits history = LegalFrom limits empty history

-- the state at a history's end
abbrev pub after_from : Limits → State → List Entry → State
after_from limits s [] = s
after_from limits s (entry ∷ later) = after_from limits (moved limits s entry) later

unfoldable pub after : Limits → List Entry → State
after limits history = after_from limits empty history

-- the entries of one caller
abbrev pub mine : List Entry → ℕ → List Entry
mine history caller = filter (λ entry. entry.caller == caller) history

-- each entry's caller is one of so many, which are numbered from 0
abbrev pub AreBelow : ℕ → List Entry → Type 0
AreBelow callers history = All (λ entry. entry.caller < callers) history

-- how many entries the rows of a state can still make, at most
unfoldable pub room : State → ℕ
room s = sum_by (λ row. want_room row.stage) s.wants + 3 * length s.dials + sum_by (λ row. conn_room row.place) s.conns

-- whether a further want could leave less room in the journal than the rows need
unfoldable pub refuses : Limits → List Entry → Bool
refuses limits history = nat_lt limits.journal (length history + room (after limits history) + 6)
