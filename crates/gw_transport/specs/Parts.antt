-- The parts of the way to a connection, as facts on a stretch of work. Entries of other callers may stand before each of
-- the caller's own.
use Rattle.std.specs.Prelude.{ℕ, zero, suc, ◌≡◌, ◌⊎◌, Bool, false, true, List, [], ◌∷◌, ◌++◌, map, Option, None}
use Rattle.gw_wire.specs.declared.values.Act.{Act}
use Rattle.gw_wire.specs.declared.values.Act.TheVariants.{Closed, Dialed, DialFailed}
use Rattle.gw_wire.specs.declared.values.Addr.{Addr}
use Rattle.gw_wire.specs.DialStep.{IsOneOf}
use Rattle.gw_pool.specs.declared.entry.Call.{Call}
use Rattle.gw_pool.specs.declared.entry.Call.TheVariants as call
use Rattle.gw_pool.specs.declared.entry.Entry.{Entry}
use Rattle.gw_pool.specs.declared.entry.Reply.{Reply}
use Rattle.gw_pool.specs.declared.entry.Reply.TheVariants as reply
use Rattle.gw_pool.specs.declared.limits.Limits.{Limits}
use Rattle.gw_pool.specs.declared.rows.ConnRow.{ConnRow}
use Rattle.gw_pool.specs.Gone.{left_by}
use Rattle.gw_pool.specs.History.{after, mine, refuses}
use Rattle.gw_pool.specs.Lent.{entry_of, IsMade}
use Rattle.gw_pool.specs.Machine.{step}
use Rattle.gw_account.specs.Work.{Bill, Work, At, free, Seq, Only}

-- ---- leaves

-- nothing of the caller's own happened but what is billed
abbrev pub Sees : Bill → At → Work → Type 0
Sees bill a w = (mine w.made a.caller ≡ []) × (w.acts ≡ []) × (w.bill ≡ bill)

-- The caller made one entry, and nothing else: this holds of the history at its place, and these links are those of the
-- connections that it handed out to be closed.
pub record Called (P : Limits → List Entry → Type 0) (asked : Call) (answer : Reply) (links : List ℕ) (a : At) (w : Work) : Type 0 where
  pub others : List Entry
  pub made : w.made ≡ others ++ entry_of a.caller asked answer ∷ []
  pub foreign : mine others a.caller ≡ []
  pub place : P a.limits (a.history ++ others)
  pub left : left_by (step a.limits (after a.limits (a.history ++ others)) a.caller asked) ≡ links
  pub quiet : w.acts ≡ []
  pub bill : w.bill ≡ free

abbrev pub Anywhere : Limits → List Entry → Type 0
Anywhere limits history = Unit {0}

-- the journal has room for a want
abbrev pub HasRoom : Limits → List Entry → Type 0
HasRoom limits history = refuses limits history ≡ false

-- these links were closed
abbrev pub closes : List ℕ → List Act
closes links = map Closed links

abbrev pub Closes : List ℕ → At → Work → Type 0
Closes links = Only free (λ acts. acts ≡ closes links)

-- a call, and the closes of what it handed out
abbrev pub Hands : (Limits → List Entry → Type 0) → Call → Reply → At → Work → Type 0
Hands P asked answer a w = (links : List ℕ) × Seq (Called P asked answer links) (Closes links) a w

-- a dial reached an address of the host's group, or the host's own, and gave this link or failed
abbrev pub Dials : ℕ → Addr → ℕ → At → Work → Type 0
Dials host backend link a w =
    Only free (λ acts. (reached : Addr) × IsOneOf (a.groups backend) backend reached × (acts ≡ Dialed host reached link ∷ [])) a w

abbrev pub FailsToDial : ℕ → Addr → At → Work → Type 0
FailsToDial host backend a w =
    Only (record free { dials = 1 }) (λ acts. (reached : Addr) × IsOneOf (a.groups backend) backend reached × (acts ≡ DialFailed host reached ∷ [])) a w

-- ---- the parts

-- so many of these, one after another
abbrev pub Repeats : ℕ → (At → Work → Type 0) → At → Work → Type 0
Repeats zero P a w = Sees free a w
Repeats (suc n) P a w = Seq (Repeats n P) P a w

-- no idle connection was due at this moment
abbrev pub NoneIsDue : ℕ → At → Work → Type 0
NoneIsDue at a w = Sees free a w × (step a.limits (after a.limits (a.history ++ w.made)) a.caller (call.Expire at) ≡ None)

-- the connection that was idle longest was due at this moment, and was taken out and closed; or none was due
abbrev pub Expires : ℕ → At → Work → Type 0
Expires at a w = NoneIsDue at a w ⊎ ((conn : ℕ) × Hands Anywhere (call.Expire at) (reply.Taken conn) a w)

-- a want found an idle connection expired
abbrev pub FindsExpired : ℕ → At → Work → Type 0
FindsExpired host a w = (at : ℕ) × (conn : ℕ) × Hands HasRoom (call.Want host at) (reply.Expired conn) a w

-- a want was made, and answered so
abbrev pub Wants : ℕ → ℕ → Reply → At → Work → Type 0
Wants host want answer a w = IsMade want answer × ((at : ℕ) × Called HasRoom (call.Want host at) answer [] a w)

-- a want was refused, since the journal had no room for it
abbrev pub IsRefused : At → Work → Type 0
IsRefused a w = Sees (record free { refused = 1 }) a w × (refuses a.limits (a.history ++ w.made) ≡ true)

-- a want's answer that is no connection yet
abbrev pub IsPlace : ℕ → Reply → Type 0
IsPlace want (reply.Granted w) = w ≡ want
IsPlace want (reply.Waiting w) = w ≡ want
IsPlace want _ = ⊥

-- how a want came to its connection: without a dial, by its own dial that gave this link, or in spite of a dial that failed
pub data Way : Type 0 where
  ByOther : Way
  ByDial : ℕ → Way
  ByLate : Way

-- a connection that a want was answered with
abbrev pub IsGiven : Reply → ConnRow → Type 0
IsGiven (reply.Given w conn) row = row.conn ≡ conn
IsGiven _ row = Unit {0}

-- the connection that came of a dial: the dialed one, or another that had served the want
abbrev pub IsDialedTo : ℕ → Reply → ConnRow → Type 0
IsDialedTo link (reply.Kept conn) row = (row.conn ≡ conn) × (row.link ≡ link) × (row.reused ≡ false)
IsDialedTo link (reply.Offered conn o) row = Unit {0}
IsDialedTo link _ row = ⊥

abbrev pub Starts : ℕ → At → Work → Type 0
Starts want = Called Anywhere (call.Start want) reply.Go []

-- the way fits a want's answer
abbrev pub Fits : ℕ → Reply → ConnRow → Way → Type 0
Fits want answer row ByOther = IsGiven answer row
Fits want answer row (ByDial link) = IsPlace want answer
Fits want answer row ByLate = IsPlace want answer

-- what was done on a way to a connection, until it was taken
abbrev pub Comes : ℕ → Addr → ℕ → ConnRow → Way → At → Work → Type 0
Comes host backend want row ByOther a w = Sees free a w
Comes host backend want row (ByDial link) a w =
    (at : ℕ) × (outcome : Reply) × IsDialedTo link outcome row
    × Seq (Starts want) (Seq (Dials host backend link) (Seq (Hands Anywhere (call.Dialed want link at) outcome) (Sees free))) a w
Comes host backend want row ByLate a w =
    (next : Option ℕ)
    × Seq (Starts want) (Seq (FailsToDial host backend) (Seq (Called Anywhere (call.DialFailed want) (reply.Late next) []) (Sees free))) a w

-- a want came to a connection
abbrev pub Leases : ℕ → Addr → ℕ → ConnRow → At → Work → Type 0
Leases host backend want row a w =
    (answer : Reply) × (way : Way) × Fits want answer row way × Seq (Wants host want answer) (Comes host backend want row way) a w

-- a want's dial failed, and nothing had served it
abbrev pub Fails : ℕ → Addr → ℕ → At → Work → Type 0
Fails host backend want a w =
    (next : Option ℕ)
    × Seq (Starts want) (Seq (FailsToDial host backend) (Seq (Called Anywhere (call.DialFailed want) (reply.Ended next) []) (Sees free))) a w

abbrev pub Unreached : ℕ → Addr → At → Work → Type 0
Unreached host backend a w =
    (want : ℕ) × (answer : Reply) × IsPlace want answer × Seq (Wants host want answer) (Fails host backend want) a w

-- a want was given up
abbrev pub Cancels : ℕ → At → Work → Type 0
Cancels want a w = (at : ℕ) × (answer : Reply) × Hands Anywhere (call.Cancel want at) answer a w

-- a want was made, and given up behind a wait with this price
abbrev pub GivesUp : ℕ → Bill → (ℕ → Reply → Type 0) → At → Work → Type 0
GivesUp host price IsOf a w =
    (want : ℕ) × (answer : Reply) × IsOf want answer × Seq (Wants host want answer) (Seq (Sees price) (Cancels want)) a w

-- the price of a million rests
abbrev pub a_million_rests : Bill
a_million_rests = record free { rests = 1000000 }

abbrev pub IsWaiting : ℕ → Reply → Type 0
IsWaiting want answer = answer ≡ reply.Waiting want

-- a lease ends: it is given back where it may serve again, and else dropped; what leaves the pool is closed
abbrev pub Ends : Bool → ℕ → At → Work → Type 0
Ends true conn a w = (at : ℕ) × (answer : Reply) × Hands Anywhere (call.GiveBack conn at) answer a w
Ends false conn a w = (next : Option ℕ) × Hands Anywhere (call.Drop conn) (reply.Dropped next) a w
