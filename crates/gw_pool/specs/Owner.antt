-- Whose a want is: the caller whose entry made it. Each row of a want is its owner's.
use Rattle.std.specs.Prelude.{◌≡◌, ℕ, ◌<◌, List, [], ◌∷◌, Option, Some, None, if◌then◌else◌}
use Rattle.std.specs.List.{filter_map}
use Rattle.gw_pool.specs.declared.entry.Entry.{Entry}
use Rattle.gw_pool.specs.declared.entry.Call.{Call}
use Rattle.gw_pool.specs.declared.entry.Call.TheVariants as call
use Rattle.gw_pool.specs.declared.entry.Reply.{Reply}
use Rattle.gw_pool.specs.declared.entry.Reply.TheVariants as reply
use Rattle.gw_pool.specs.declared.rows.Place.{Place}
use Rattle.gw_pool.specs.declared.rows.Place.TheVariants.{Out, Idle}
use Rattle.gw_pool.specs.declared.rows.WantRow.{WantRow}
use Rattle.gw_pool.specs.declared.rows.DialRow.{DialRow}
use Rattle.gw_pool.specs.declared.rows.ConnRow.{ConnRow}
use Rattle.gw_pool.specs.State.{State}
use Rattle.gw_pool.specs.Laws.{is_number}
use Rattle.gw_pool.specs.Ties.{Among}

-- the want that an entry made
abbrev pub made_by_reply : Reply → Option ℕ
made_by_reply (reply.Given want conn) = Some want
made_by_reply (reply.Granted want) = Some want
made_by_reply (reply.Waiting want) = Some want
made_by_reply _ = None

abbrev pub made_by : Call → Reply → Option ℕ
made_by (call.Want host now) answer = made_by_reply answer
made_by _ answer = None

-- the wants that a history made, in their order
abbrev pub made_in : List Entry → List ℕ
made_in history = filter_map (λ entry. made_by entry.call entry.reply) history

-- the owners after an entry; a want that wasn't made counts as caller 0's
abbrev pub owners_after : (ℕ → ℕ) → Entry → ℕ → ℕ
owners_after by entry want = if is_number want (made_by entry.call entry.reply) then entry.caller else by want

abbrev pub owners_from : (ℕ → ℕ) → List Entry → ℕ → ℕ
owners_from by [] = by
owners_from by (entry ∷ later) = owners_from (owners_after by entry) later

unfoldable pub owner : List Entry → ℕ → ℕ
owner history = owners_from (λ want. 0) history

-- what holds of the want and the caller of each row
abbrev pub PlaceIs : (ℕ → ℕ → Type 0) → Place → Type 0
PlaceIs P (Out want caller) = P want caller
PlaceIs P (Idle stamp since) = Unit {0}

pub record Rows (P : ℕ → ℕ → Type 0) (s : State) : Type 0 where
  pub wants : (r : WantRow) → Among r s.wants → P r.want r.caller
  pub dials : (r : DialRow) → Among r s.dials → P r.want r.caller
  pub conns : (r : ConnRow) → Among r s.conns → PlaceIs P r.place

-- each row is its want's owner's, and its want was made
abbrev pub Owned : (ℕ → ℕ) → ℕ → ℕ → ℕ → Type 0
Owned by next want caller = (want < next) × (caller ≡ by want)

abbrev pub IsOwned : (ℕ → ℕ) → State → Type 0
IsOwned by s = Rows (Owned by s.next_want) s
