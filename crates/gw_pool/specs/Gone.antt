-- The links of the connections that leave the pool by a caller's entries: the caller closes each of them.
use Rattle.std.specs.Prelude.{◌≡◌, ℕ, List, [], ◌∷◌, ◌++◌, ◌==◌, Option, Some, None, if◌then◌else◌}
use Rattle.gw_wire.specs.Link.{LinkView}
use Rattle.gw_pool.specs.declared.entry.Entry.{Entry}
use Rattle.gw_pool.specs.declared.entry.Reply.{Reply}
use Rattle.gw_pool.specs.declared.entry.Reply.TheVariants as reply
use Rattle.gw_pool.specs.declared.limits.Limits.{Limits}
use Rattle.gw_pool.specs.declared.rows.ConnRow.{ConnRow}
use Rattle.gw_pool.specs.History.{after}
use Rattle.gw_pool.specs.Machine.{Outcome, step}

abbrev pub link_of : Option ConnRow → List ℕ
link_of None = []
link_of (Some row) = row.link ∷ []

abbrev pub left_by : Option Outcome → List ℕ
left_by None = []
left_by (Some outcome) = link_of outcome.gone

-- those that leave by the caller's entries among these, which follow a history
abbrev pub gone_links : Limits → List Entry → ℕ → List Entry → List ℕ
gone_links limits history caller [] = []
gone_links limits history caller (entry ∷ later) =
    (if entry.caller == caller then left_by (step limits (after limits history) entry.caller entry.call) else [])
    ++ gone_links limits (history ++ entry ∷ []) caller later

-- the link of a connection that a call left to be closed, if it left one
abbrev pub number_of : {C : Type 0} → (C → LinkView) → Option C → List ℕ
number_of link None = []
number_of link (Some conn) = (link conn).number ∷ []

-- a want leaves the pool a connection only where it met an expired one
abbrev pub WantLeaves : Reply → Option ConnRow → Type 0
WantLeaves (reply.Expired conn) gone = (row : ConnRow) × (gone ≡ Some row) × (row.conn ≡ conn)
WantLeaves _ gone = gone ≡ None
