-- Laws of legal histories, for readers.
use Rattle.std.specs.Prelude.{◌≡◌, ℕ, Bool, true, false, List, [], ◌∷◌, ◌++◌, ◌==◌, ◌&&◌, ◌||◌, ◌+◌, ◌<◌, ◌≤◌, ◌⊎◌, length, find, count_by, Option, Some, None, option_map}
use Rattle.std.specs.List.{list_any}
use Rattle.gw_pool.specs.declared.limits.Limits.{Limits}
use Rattle.gw_pool.specs.declared.entry.Entry.{Entry}
use Rattle.gw_pool.specs.declared.entry.Call.{Call}
use Rattle.gw_pool.specs.declared.entry.Call.TheVariants as call
use Rattle.gw_pool.specs.declared.entry.Reply.{Reply}
use Rattle.gw_pool.specs.declared.entry.Reply.TheVariants as reply
use Rattle.gw_pool.specs.declared.entry.Offer.{Offer}
use Rattle.gw_pool.specs.declared.entry.Offer.TheVariants as offer
use Rattle.gw_pool.specs.declared.rows.WantRow.{WantRow}
use Rattle.gw_pool.specs.declared.rows.ConnRow.{ConnRow}
use Rattle.gw_pool.specs.Places.{is_out_to}
use Rattle.gw_pool.specs.State.{State, used, is_free, rests, rests_for, wants_host, waits_for, wants_it, dials_for, has_number, is_with}
use Rattle.gw_pool.specs.Ties.{Among}
use Rattle.gw_pool.specs.History.{IsLegal, after, room, refuses}

-- which want an offer served, and which want the place went to that an entry freed
abbrev pub offered_to : Offer → Option ℕ
offered_to (offer.ToWant want next) = Some want
offered_to offer.Closed = None
offered_to (offer.Idle evicted) = None

abbrev pub next_of_offer : Offer → Option ℕ
next_of_offer (offer.ToWant want next) = next
next_of_offer offer.Closed = None
next_of_offer (offer.Idle evicted) = None

-- the want and the connection that some calls name
abbrev pub dialed_want : Call → Option ℕ
dialed_want (call.Dialed want link now) = Some want
dialed_want _ = None

abbrev pub back_conn : Call → Option ℕ
back_conn (call.GiveBack conn now) = Some conn
back_conn _ = None

-- the want that an entry serves
abbrev pub served_want : Call → Reply → Option ℕ
served_want asked (reply.Given want conn) = Some want
served_want asked (reply.Kept conn) = dialed_want asked
served_want asked (reply.Offered conn o) = offered_to o
served_want asked (reply.Returned conn o) = offered_to o
served_want asked (reply.Put o) = offered_to o
served_want asked _ = None

-- the want that the place went to which an entry freed
abbrev pub next_want_of : Reply → Option ℕ
next_want_of (reply.Offered conn o) = next_of_offer o
next_want_of (reply.Returned conn o) = next_of_offer o
next_want_of (reply.Put o) = next_of_offer o
next_want_of (reply.Ended next) = next
next_want_of (reply.Late next) = next
next_want_of (reply.Gone next) = next
next_want_of (reply.Dropped next) = next
next_want_of _ = None

-- the connection that an entry puts out, or offers
abbrev pub moved_conn : Call → Reply → Option ℕ
moved_conn asked (reply.Given want conn) = Some conn
moved_conn asked (reply.Kept conn) = Some conn
moved_conn asked (reply.Offered conn o) = Some conn
moved_conn asked (reply.Returned conn o) = Some conn
moved_conn asked (reply.Put o) = back_conn asked
moved_conn asked _ = None

abbrev pub is_number : ℕ → Option ℕ → Bool
is_number n None = false
is_number n (Some m) = m == n

-- an entry serves a want
abbrev pub serves : ℕ → Entry → Bool
serves want entry = is_number want (served_want entry.call entry.reply)

-- a call ends a want: it is cancelled, or its dial failed
abbrev pub gives_up : ℕ → Call → Bool
gives_up want (call.Cancel w now) = w == want
gives_up want (call.DialFailed w) = w == want
gives_up want _ = false

abbrev pub ends : ℕ → Entry → Bool
ends want entry = serves want entry || gives_up want entry.call

-- an entry puts a connection out to a want; and a call takes a connection back that is out to a want
abbrev pub puts_out : ℕ → ℕ → Entry → Bool
puts_out conn want entry = is_number conn (moved_conn entry.call entry.reply) && serves want entry

abbrev pub takes_out : ℕ → ℕ → Call → Bool
takes_out conn want (call.GiveBack c now) = c == conn
takes_out conn want (call.Drop c) = c == conn
takes_out conn want (call.Cancel w now) = w == want
takes_out conn want _ = false

abbrev pub takes_back : ℕ → ℕ → Entry → Bool
takes_back conn want entry = takes_out conn want entry.call

-- a want is served once at most; one that was served, given up or whose dial failed has no want row
abbrev pub WantsAreServedOnce : Type 0
WantsAreServedOnce = (limits : Limits) (history : List Entry) (want : ℕ) → IsLegal limits history → count_by (serves want) history ≤ 1

abbrev pub EndedWantsHaveNoRow : Type 0
EndedWantsHaveNoRow =
    (limits : Limits) (history : List Entry) (want : ℕ)
    → IsLegal limits history → list_any (ends want) history ≡ true → find (wants_it want) (after limits history).wants ≡ None

-- of two entries that put one connection out, the later one or one between them takes it back from the first's want
abbrev pub ConnsAreTakenBack : Type 0
ConnsAreTakenBack =
    (limits : Limits) (before between later : List Entry) (first second : Entry) (conn want other : ℕ)
    → IsLegal limits (before ++ first ∷ (between ++ second ∷ later)) → puts_out conn want first ≡ true → puts_out conn other second ≡ true
    → list_any (takes_back conn want) (between ++ second ∷ []) ≡ true

-- until then its row stays as it is
abbrev pub OutConnsStay : Type 0
OutConnsStay =
    (limits : Limits) (before between : List Entry) (row : ConnRow) (want : ℕ)
    → IsLegal limits (before ++ between) → find (has_number row.conn) (after limits before).conns ≡ Some row → is_out_to want row.place ≡ true
    → list_any (takes_back row.conn want) between ≡ false → find (has_number row.conn) (after limits (before ++ between)).conns ≡ Some row

-- where a connection is: out to a want, idle, or no longer in the pool
pub record IsOutTo (s : State) (conn link want : ℕ) : Type 0 where
  pub row : ConnRow
  pub found : find (has_number conn) s.conns ≡ Some row
  pub is_link : row.link ≡ link
  pub out : is_out_to want row.place ≡ true

pub record IsIdleConn (s : State) (conn link : ℕ) : Type 0 where
  pub row : ConnRow
  pub found : find (has_number conn) s.conns ≡ Some row
  pub is_link : row.link ≡ link
  pub idle : rests row ≡ true

abbrev pub IsGone : State → ℕ → Type 0
IsGone s conn = find (has_number conn) s.conns ≡ None

abbrev pub Offered : State → ℕ → ℕ → Offer → Type 0
Offered s conn link (offer.ToWant want next) = IsOutTo s conn link want
Offered s conn link offer.Closed = IsGone s conn
Offered s conn link (offer.Idle None) = IsIdleConn s conn link
Offered s conn link (offer.Idle (Some evicted)) = ((evicted ≡ conn) × IsGone s conn) ⊎ ((evicted ≡ conn → ⊥) × IsIdleConn s conn link)

abbrev pub Dialed : State → ℕ → ℕ → Reply → Type 0
Dialed s want link (reply.Kept conn) = IsOutTo s conn link want
Dialed s want link (reply.Offered conn o) = Offered s conn link o
Dialed s want link _ = ⊥

-- a dialed connection is out, idle, closed by the reply or evicted by the same entry
abbrev pub DialedConnsAreSomewhere : Type 0
DialedConnsAreSomewhere =
    (limits : Limits) (before : List Entry) (caller want link now : ℕ) (answer : Reply)
    → IsLegal limits (before ++ (record { caller = caller; call = call.Dialed want link now; reply = answer }) ∷ [])
    → Dialed (after limits (before ++ (record { caller = caller; call = call.Dialed want link now; reply = answer }) ∷ [])) want link answer

-- how many places are used, and how many connections idle
abbrev pub PlacesAreLimited : Type 0
PlacesAreLimited =
    (limits : Limits) (history : List Entry) (host : ℕ)
    → IsLegal limits history → (limits.conns_per_host ≡ 0) ⊎ (used (after limits history) host ≤ limits.conns_per_host)

abbrev pub IdleAreLimited : Type 0
IdleAreLimited =
    (limits : Limits) (history : List Entry)
    → IsLegal limits history → count_by rests (after limits history).conns ≤ limits.idle_total

abbrev pub IdleForHostAreLimited : Type 0
IdleForHostAreLimited =
    (limits : Limits) (history : List Entry) (host : ℕ)
    → IsLegal limits history → count_by (rests_for host) (after limits history).conns ≤ limits.idle_per_host

-- a host with an idle connection has no want, and one with a want that waits has no free place
abbrev pub NoneIsIdleWhereOneIsWanted : Type 0
NoneIsIdleWhereOneIsWanted =
    (limits : Limits) (history : List Entry) (host : ℕ)
    → IsLegal limits history → 0 < count_by (rests_for host) (after limits history).conns → count_by (wants_host host) (after limits history).wants ≡ 0

abbrev pub NoPlaceIsFreeWhereOneWaits : Type 0
NoPlaceIsFreeWhereOneWaits =
    (limits : Limits) (history : List Entry) (host : ℕ)
    → IsLegal limits history → 0 < count_by (waits_for host) (after limits history).wants → is_free limits (after limits history) host ≡ false

-- the host that a call is about, by the row that it names
abbrev pub want_host : Option WantRow → Option ConnRow → Option ℕ
want_host (Some row) conn = Some row.host
want_host None (Some row) = Some row.host
want_host None None = None

abbrev pub host_of : State → Call → Option ℕ
host_of s (call.Dialed want link now) = option_map (λ row. row.host) (find (dials_for want) s.dials)
host_of s (call.DialFailed want) = option_map (λ row. row.host) (find (dials_for want) s.dials)
host_of s (call.Cancel want now) = want_host (find (wants_it want) s.wants) (find (is_with want) s.conns)
host_of s (call.GiveBack conn now) = option_map (λ row. row.host) (find (has_number conn) s.conns)
host_of s (call.Drop conn) = option_map (λ row. row.host) (find (has_number conn) s.conns)
host_of s _ = None

-- a want is that of a row that passes the test, and no such row has a lesser one
pub record IsLeast (test : WantRow → Bool) (rows : List WantRow) (want : ℕ) : Type 0 where
  pub row : WantRow
  pub there : Among row rows
  pub passes : test row ≡ true
  pub is_want : row.want ≡ want
  pub least : (other : WantRow) → Among other rows → test other ≡ true → want ≤ other.want

-- a place goes to the least waiting want of its host
abbrev pub PlacesGoToLeast : Type 0
PlacesGoToLeast =
    (limits : Limits) (before : List Entry) (entry : Entry) (host want : ℕ)
    → IsLegal limits (before ++ entry ∷ []) → host_of (after limits before) entry.call ≡ Some host
    → next_want_of entry.reply ≡ Some want → IsLeast (waits_for host) (after limits before).wants want

-- an offered connection goes to the least want of its host
abbrev pub is_offered : Reply → Bool
is_offered (reply.Offered conn o) = true
is_offered (reply.Returned conn o) = true
is_offered (reply.Put o) = true
is_offered _ = false

abbrev pub OffersGoToLeast : Type 0
OffersGoToLeast =
    (limits : Limits) (before : List Entry) (entry : Entry) (host want : ℕ)
    → IsLegal limits (before ++ entry ∷ []) → host_of (after limits before) entry.call ≡ Some host
    → is_offered entry.reply ≡ true → served_want entry.call entry.reply ≡ Some want → IsLeast (wants_host host) (after limits before).wants want

-- one that serves no want found none of its host
abbrev pub OffersFindWants : Type 0
OffersFindWants =
    (limits : Limits) (before : List Entry) (entry : Entry) (host : ℕ)
    → IsLegal limits (before ++ entry ∷ []) → host_of (after limits before) entry.call ≡ Some host
    → is_offered entry.reply ≡ true → served_want entry.call entry.reply ≡ None → count_by (wants_host host) (after limits before).wants ≡ 0

-- the journal and what the rows still need fit into its limit, where no want was made at a full journal
abbrev pub makes_want : Call → Bool
makes_want (call.Want host now) = true
makes_want _ = false

abbrev pub NeverFull : Limits → List Entry → Type 0
NeverFull limits history =
    (before later : List Entry) (entry : Entry)
    → history ≡ before ++ entry ∷ later → makes_want entry.call ≡ true → refuses limits before ≡ false

abbrev pub JournalHasRoom : Type 0
JournalHasRoom =
    (limits : Limits) (history : List Entry)
    → IsLegal limits history → NeverFull limits history → length history + room (after limits history) ≤ limits.journal
