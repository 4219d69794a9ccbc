-- The connections that a call leaves to be closed.
use Rattle.std.specs.Prelude.{◌≡◌, Option, Some, None}
use Rattle.gw_wire.specs.Link.{LinkView}
use Rattle.gw_pool.specs.declared.rows.ConnRow.{ConnRow}

-- a connection is that of the row that left the pool
abbrev pub IsOf : {C : Type 0} → (C → LinkView) → C → Option ConnRow → Type 0
IsOf link conn None = ⊥
IsOf link conn (Some row) = (link conn).number ≡ row.link

-- what is left to be closed is the connection of the row that left the pool
abbrev pub Closes : {C : Type 0} → (C → LinkView) → Option C → Option ConnRow → Type 0
Closes link None gone = gone ≡ None
Closes link (Some conn) gone = IsOf link conn gone
